-- Sums of what the marks of an instant count.
use Rattle.std.proofs.Common.{◌≡◌, ℕ, ℤ, ◌+◌, Bool, true, false, cond, List, [], ◌∷◌, map, filter, IsTrue, refl, sym, ap, ap₂, subst, ◌∙◌, inl, inr, ⊎_elim, arith}
use Rattle.std.specs.Prelude.{nat_lt, flat_map}
use Rattle.std.specs.List.{sum_by}
use Rattle.std.specs.Ordering.{int_eq}
use Rattle.std.proofs.lemmas.Bool.{cases_Bool, false≢true, cond-true, cond-false}
use Rattle.std.proofs.lemmas.List.Sums.{sum_by-cons, sum_by-append}
use Rattle.ec_lists.proofs.Integers.{int_eq-from_gt, int_eq-from_lt, int_eq-is, int_eq-same}
use Rattle.ec_lists.proofs.Numbers.{zero-from_not_lt}
use Rattle.ec_terms.specs.declared.ground.Ground.{Ground}
use Rattle.ec_terms.specs.declared.theory.Theory.{Theory}
use Rattle.ec_axioms.specs.Calculus.{PlainEvent}
use Rattle.ec_axioms.specs.Changes.{is_history}
use Rattle.ec_axioms.specs.Marks.{PlainMark, mark_at, marks_of, mark_initiates}
use Rattle.ec_axioms.proofs.HistoryMarks.{instant-mark_at}
use Rattle.ec_axioms.proofs.Members.{IsMember, IsMember-map, IsMember-from_map, IsMember-filter, IsMember-from_filter, IsPairwise, IsPairwise-filter, IsPairwise-map}
use Rattle.ec_changes.proofs.Past.{is_earlier, IsMember-from_marks_of, IsMember-marks_of, IsPairwise-marks_of}
use Rattle.ec_changes.proofs.Tallies.{sum_by-none}
use Rattle.ec_parts.specs.Caches.{initiations_of, initiations_of_mark}

-- ---- sums

pub sum_by-map : {X Y : Type 0} (f : Y → ℕ) (g : X → Y) (xs : List X) → sum_by f (map g xs) ≡ sum_by (λ x. f (g x)) xs
sum_by-map f g [] = refl
sum_by-map f g (x ∷ xs) = sum_by-cons f (g x) (map g xs) ∙ ap (λ n. f (g x) + n) (sum_by-map f g xs) ∙ sym (sum_by-cons (λ y. f (g y)) x xs)

pub sum_by-flat_map : {X Y : Type 0} (f : Y → ℕ) (g : X → List Y) (xs : List X) → sum_by f (flat_map g xs) ≡ sum_by (λ x. sum_by f (g x)) xs
sum_by-flat_map f g [] = refl
sum_by-flat_map f g (x ∷ xs) = sum_by-append f (g x) (flat_map g xs) ∙ ap (λ n. sum_by f (g x) + n) (sum_by-flat_map f g xs) ∙ sym (sum_by-cons (λ y. sum_by f (g y)) x xs)

-- ---- what the marks of an instant count

-- what the marks of an instant count, together
abbrev pub sum_at : (PlainMark → ℕ) → ℤ → List PlainMark → ℕ
sum_at f t marks = sum_by (λ m. cond (int_eq m.instant t) (f m) 0) marks

-- that of a mark of a row is what it counts
pub sum_at-member : (f : PlainMark → ℕ) (marks : List PlainMark) (m : PlainMark) → IsPairwise is_earlier marks → IsMember marks m → sum_at f m.instant marks ≡ f m
sum_at-member f [] m ascend member = absurd member
sum_at-member f (n ∷ marks) m ascend (inl same) =
    sum_by-cons (λ (x : PlainMark). cond (int_eq x.instant m.instant) (f x) 0) n marks
    ∙ ap₂ (λ a b. a + b)
    (ap (λ (x : PlainMark). cond (int_eq x.instant m.instant) (f x) 0) same ∙ cond-true (int_eq m.instant m.instant) (f m) 0 (int_eq-same m.instant))
    (sum_by-none (λ (x : PlainMark). cond (int_eq x.instant m.instant) (f x) 0) marks
    (λ x later. cond-false (int_eq x.instant m.instant) (f x) 0 (subst (λ (y : PlainMark). int_eq x.instant y.instant ≡ false) same (int_eq-from_gt x.instant n.instant (ascend.0 x later)))))
    ∙ drop_zero (f m)
  where
    drop_zero : (k : ℕ) → k + 0 ≡ k
    drop_zero k = omega arith
sum_at-member f (n ∷ marks) m ascend (inr later) =
    sum_by-cons (λ (x : PlainMark). cond (int_eq x.instant m.instant) (f x) 0) n marks
    ∙ ap₂ (λ a b. a + b) (cond-false (int_eq n.instant m.instant) (f n) 0 (int_eq-from_lt n.instant m.instant (ascend.0 m later))) (sum_at-member f marks m ascend.1 later)
    ∙ no_more (f m)
  where
    no_more : (k : ℕ) → 0 + k ≡ k
    no_more k = omega arith

-- where no mark of the instant counts anything, it is zero
pub sum_at-none : (f : PlainMark → ℕ) (t : ℤ) (marks : List PlainMark) → ((m : PlainMark) → IsMember marks m → m.instant ≡ t → f m ≡ 0) → sum_at f t marks ≡ 0
sum_at-none f t marks none =
    sum_by-none (λ (m : PlainMark). cond (int_eq m.instant t) (f m) 0) marks
    (λ m member.
    ⊎_elim (λ here. cond-true (int_eq m.instant t) (f m) 0 here ∙ none m member (int_eq-is m.instant t here)) (λ other. cond-false (int_eq m.instant t) (f m) 0 other) (cases_Bool (int_eq m.instant t)))

-- where it is not, some mark is there
pub member-sum_at : (f : PlainMark → ℕ) (t : ℤ) (marks : List PlainMark) → nat_lt 0 (sum_at f t marks) ≡ true → (m : PlainMark) × (IsMember marks m × (m.instant ≡ t))
member-sum_at f t [] some = absurd (false≢true some)
member-sum_at f t (n ∷ marks) some =
    ⊎_elim (λ here. (n, (inl refl, int_eq-is n.instant t here)))
    (λ other.
    let rest = member-sum_at f t marks (sym (ap (nat_lt 0) (sum_by-cons (λ (m : PlainMark). cond (int_eq m.instant t) (f m) 0) n marks ∙ ap (λ k. k + sum_at f t marks) (cond-false (int_eq n.instant t) (f n) 0 other) ∙ no_more _)) ∙ some) in
    (rest.0, (inr rest.1.0, rest.1.1)))
    (cases_Bool (int_eq n.instant t))
  where
    no_more : (k : ℕ) → 0 + k ≡ k
    no_more k = omega arith

-- ---- initiations

-- what the initiations of a property count at an instant
pub sum_at-initiations_of : (theory : Theory) (events : List PlainEvent) (p : Ground) (t : ℤ) → IsTrue (is_history events)
    → sum_at (λ m. m.inits) t (initiations_of theory events p) ≡ (mark_at theory events p t).inits
sum_at-initiations_of theory events p t history = each (nat_lt 0 (mark_at theory events p t).inits) refl
  where
    earlier : IsPairwise is_earlier (initiations_of theory events p)
    earlier =
        IsPairwise-map is_earlier initiations_of_mark (filter mark_initiates (marks_of theory events p))
        (IsPairwise-filter is_earlier mark_initiates (marks_of theory events p) (IsPairwise-marks_of theory events p history))

    marked : (a b c : ℕ) → nat_lt 0 a ≡ true → nat_lt 0 (a + b + c) ≡ true
    marked a b c some = grind arith

    each : (b : Bool) → nat_lt 0 (mark_at theory events p t).inits ≡ b → sum_at (λ m. m.inits) t (initiations_of theory events p) ≡ (mark_at theory events p t).inits
    each true some =
        let own = mark_at theory events p t in
        ap (λ s. sum_at (λ m. m.inits) s (initiations_of theory events p)) (sym (instant-mark_at theory events p t))
        ∙ sum_at-member (λ m. m.inits) (initiations_of theory events p) (initiations_of_mark own) earlier
        (IsMember-map initiations_of_mark (filter mark_initiates (marks_of theory events p)) own
        (IsMember-filter mark_initiates (marks_of theory events p) own (IsMember-marks_of theory events p t (marked own.inits own.terms own.clashes some)) some))
    each false none =
        sum_at-none (λ m. m.inits) t (initiations_of theory events p)
        (λ m member there.
        let from = IsMember-from_map initiations_of_mark (filter mark_initiates (marks_of theory events p)) m member in
        let listed = (IsMember-from_filter mark_initiates (marks_of theory events p) from.0 from.1).0 in
        let own = (IsMember-from_marks_of theory events p from.0 listed).0 in
        let at_t : from.0.instant ≡ t = ap (λ (x : PlainMark). x.instant) from.2 ∙ there in
        sym (ap (λ (x : PlainMark). x.inits) from.2) ∙ sym (ap (λ (x : PlainMark). x.inits) own) ∙ ap (λ s. (mark_at theory events p s).inits) at_t ∙ zero-from_not_lt _ none)
        ∙ sym (zero-from_not_lt _ none)
