-- An ordered list of events is cut by a time into what is before it and what is not.
use Rattle.std.proofs.Common.{◌≡◌, ℕ, ◌<◌, ◌≤◌, ℤ, ◌≤ℤ◌, zero, suc, ◌∷◌, [], Bool, List, true, false, not, ◌&&◌, length, get_or, take, drop, filter, map, IsTrue, inl, inr, refl, ap, sym, ◌∙◌, arith}
use Rattle.std.specs.Prelude.{int_lt, int_le, bytes_eq}
use Rattle.std.specs.List.{list_all, list_any}
use Rattle.std.specs.List.Sorted.{IsPartitionedBy}
use Rattle.std.specs.Ordering.{int_eq}
use Rattle.std.proofs.lemmas.Bool.{and_parts, and_from, not-true, not_from_false, cases_Bool}
use Rattle.std.proofs.lemmas.Int.{ints}
use Rattle.ec_lists.proofs.Filters.{filter-filter, filter-map}
use Rattle.ec_lists.proofs.Partitions.{IsCut, take-partition, drop-partition}
use Rattle.ec_lists.proofs.Tests.{list_all-filter, list_any-filter_none}
use Rattle.ec_axioms.specs.Calculus.{PlainEvent}
use Rattle.ec_axioms.specs.Changes.{is_history, comes_before, has_id}
use Rattle.ec_axioms.specs.Plain.{events_at, events_from}

-- an event comes before each behind it, so its rank is no higher
pub comes_before-rank : (e f : PlainEvent) → comes_before e f ≡ true → e.rank ≤ℤ f.rank
unfolding comes_before
comes_before-rank e f before = grind (arith, ints)

-- the same of each event behind it
all_after-rank : {E : Type 0} (f : E → PlainEvent) (e : PlainEvent) (xs : List E) (j : ℕ) (d : E) → list_all (comes_before e) (map f xs) ≡ true →
    j < length xs → e.rank ≤ℤ (f (get_or xs j d)).rank
all_after-rank f e [] j d all within = absurd (omega arith)
all_after-rank f e (x ∷ xs) zero d all within = comes_before-rank e (f x) (and_parts _ _ all).0
all_after-rank f e (x ∷ xs) (suc j) d all within = all_after-rank f e xs j d (and_parts _ _ all).1 (omega arith)

-- ranks do not fall along a history
pub rank-ascends : {E : Type 0} (f : E → PlainEvent) (xs : List E) (i j : ℕ) (d : E) → IsTrue (is_history (map f xs)) → i ≤ j → j < length xs →
    (f (get_or xs i d)).rank ≤ℤ (f (get_or xs j d)).rank
unfolding is_history
rank-ascends f [] i j d ordered order within = absurd (omega arith)
rank-ascends f (x ∷ xs) zero zero d ordered order within = grind (arith, ints)
rank-ascends f (x ∷ xs) zero (suc j) d ordered order within =
    all_after-rank f (f x) xs j d (and_parts _ _ (and_parts _ _ ordered).0).0 (omega arith)
rank-ascends f (x ∷ xs) (suc i) zero d ordered order within = absurd (omega arith)
rank-ascends f (x ∷ xs) (suc i) (suc j) d ordered order within =
    rank-ascends f xs i j d (and_parts _ _ ordered).1 (omega arith) (omega arith)

-- what is before a time stands in front
pub IsPartitionedBy-before : {E : Type 0} (f : E → PlainEvent) (xs : List E) (t : ℤ) → IsTrue (is_history (map f xs)) →
    IsPartitionedBy (λ e. int_lt (f e).rank t) xs
IsPartitionedBy-before f xs t ordered i j d order within there =
    let up = rank-ascends f xs i j d ordered order within in grind (arith, ints)

-- what is not after a time stands in front
pub IsPartitionedBy-up_to : {E : Type 0} (f : E → PlainEvent) (xs : List E) (t : ℤ) → IsTrue (is_history (map f xs)) →
    IsPartitionedBy (λ e. int_le (f e).rank t) xs
IsPartitionedBy-up_to f xs t ordered i j d order within there =
    let up = rank-ascends f xs i j d ordered order within in grind (arith, ints)

-- the front of a list that is cut at a partition point is what passes
pub filter-front : {E A : Type 0} (f : E → A) (p : A → Bool) (xs : List E) (i : ℕ) → IsCut (λ x. p (f x)) xs i → filter p (map f xs) ≡ map f (take i xs)
filter-front f p xs i cut = filter-map p f xs ∙ ap (map f) (sym (take-partition (λ x. p (f x)) xs i cut))

-- the back of it is what passes the other test
pub filter-back : {E A : Type 0} (f : E → A) (p q : A → Bool) (xs : List E) (i : ℕ) → ((x : A) → q x ≡ not (p x)) → IsCut (λ x. p (f x)) xs i →
    filter q (map f xs) ≡ map f (drop i xs)
filter-back f p q xs i other cut =
    filter-map q f xs ∙ ap (map f) (sym (drop-partition (λ x. p (f x)) (λ x. q (f x)) (λ x. other (f x)) xs i cut))

-- the events at t are those from t on and up to it
pub events_at-from : (t : ℤ) (events : List PlainEvent) → filter (λ e. int_le e.rank t) (events_from t events) ≡ events_at t events
events_at-from t events = filter-filter _ _ _ events (λ e. both e.rank)
  where
    both : (s : ℤ) → int_eq s t ≡ (int_le t s && int_le s t)
    both s = grind (arith, ints)

-- a part of a history that a filter keeps is one
pub is_history-filter : (p : PlainEvent → Bool) (events : List PlainEvent) → is_history events ≡ true → is_history (filter p events) ≡ true
unfolding is_history has_id
is_history-filter p [] ordered = refl
is_history-filter p (e ∷ events) ordered =
    let parts = and_parts _ _ ordered in
    let firsts = and_parts _ _ parts.0 in
    let rest : is_history (filter p events) ≡ true = is_history-filter p events parts.1 in
    let before : list_all (comes_before e) (filter p events) ≡ true = list_all-filter (comes_before e) p events firsts.0 in
    let absent : list_any (λ f. bytes_eq f.id e.id) (filter p events) ≡ false =
    list_any-filter_none (λ f. bytes_eq f.id e.id) p events (not-true _ firsts.1) in
    elim (cases_Bool (p e)) [
      | inl kept ↦ rw kept (and_from _ _ (and_from _ _ before (not_from_false _ absent)) rest)
      | inr dropped ↦ rw dropped rest
    ]
