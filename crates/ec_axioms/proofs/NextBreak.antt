-- The first break from a time on, found among the events.
use Rattle.std.proofs.Common.{◌≡◌, ℕ, ◌+◌, ◌<◌, ◌≤◌, ℤ, ◌∷◌, [], Bool, List, Option, Some, None, true, false, cond, ◌&&◌, length, get_or, take, map, find, option_map, refl, sym, ap, ◌∙◌, arith}
use Rattle.std.specs.Prelude.{int_le}
use Rattle.std.specs.List.{list_any}
use Rattle.std.specs.Option.{option_map_or}
use Rattle.std.proofs.lemmas.Bool.{or_from}
use Rattle.std.proofs.lemmas.List.{length-map, take_all}
use Rattle.std.proofs.lemmas.List.Folds.{list_any_more}
use Rattle.std.proofs.Math.ListN.{get_or-map}
use Rattle.ec_terms.specs.declared.ground.Ground.{Ground}
use Rattle.ec_terms.specs.declared.theory.Theory.{Theory}
use Rattle.ec_axioms.specs.Calculus.{PlainEvent, Currency, with_instant, instants_of, is_current, is_terminated, has_break, timeline_by, timeline_of}
use Rattle.ec_axioms.specs.Plain.{ends_well, events_from}
use Rattle.ec_lists.proofs.Integers.{int_eq-is}
use Rattle.ec_lists.proofs.Finds.{find-filter, find-none, find_here}

-- the first of the instants with one more
find-with_instant : (test : ℤ → Bool) (t : ℤ) (us : List ℤ) → find test (with_instant t us) ≡ cond (test t) (Some t) (find test us)
find-with_instant test t [] = refl
find-with_instant test t (u ∷ us) =
    let same = int_eq-is t u in let here : t ≡ u → test t ≡ test u = ap test in grind arith

-- the first instant that passes is the rank of the first event whose rank does
find-instants : (test : ℤ → Bool) (events : List PlainEvent) → find test (instants_of events) ≡ option_map (λ (e : PlainEvent). e.rank) (find (λ e. test e.rank) events)
unfolding instants_of
find-instants test [] = refl
find-instants test (e ∷ events) =
    find-with_instant test e.rank (instants_of events) ∙ ap (cond (test e.rank) (Some e.rank)) (find-instants test events) ∙ option_map-cond (test e.rank)
  where
    option_map-cond : (b : Bool) →
        cond b (Some e.rank) (option_map (λ (e : PlainEvent). e.rank) (find (λ e. test e.rank) events))
        ≡ option_map (λ (e : PlainEvent). e.rank) (cond b (Some e) (find (λ e. test e.rank) events))
    option_map-cond true = refl
    option_map-cond false = refl

-- the first break from t on, among the events
ends_well-events : (theory : Theory) (events : List PlainEvent) (p : Ground) (t : ℤ) →
    ends_well (timeline_of theory events p) t
    ≡ option_map_or (λ (e : PlainEvent). is_terminated theory events (is_current theory events) p e.rank)
    (find (λ e. has_break theory events (is_current theory events) p e.rank) (events_from t events)) true
unfolding timeline_of timeline_by
ends_well-events theory events p t =
    let c : Currency = is_current theory events in
    ap (λ o. option_map_or (is_terminated theory events c p) o true)
    (find-filter (has_break theory events c p) (λ s. int_le t s) (instants_of events)
    ∙ find-instants (λ s. int_le t s && has_break theory events c p s) events
    ∙ ap (option_map (λ (e : PlainEvent). e.rank)) (sym (find-filter (λ (e : PlainEvent). has_break theory events c p e.rank) (λ e. int_le t e.rank) events)))
    ∙ map_or (find (λ (e : PlainEvent). has_break theory events c p e.rank) (events_from t events))
  where
    map_or : (o : Option PlainEvent) →
        option_map_or (is_terminated theory events (is_current theory events) p) (option_map (λ (e : PlainEvent). e.rank) o) true
        ≡ option_map_or (λ (e : PlainEvent). is_terminated theory events (is_current theory events) p e.rank) o true
    map_or None = refl
    map_or (Some e) = refl

-- ---- a search from the front

module _ {E : Type 0} (f : E → PlainEvent) (items : List E) (theory : Theory) (events : List PlainEvent) (p : Ground) (t : ℤ) (i : ℕ) (item : E) where
  -- the event at i is the first that breaks the property
  pub break_found : (broken ends : Bool) → map f items ≡ events_from t events → i < length items → item ≡ get_or items i item →
      broken ≡ has_break theory events (is_current theory events) p (f item).rank → broken ≡ true →
      ends ≡ is_terminated theory events (is_current theory events) p (f item).rank →
      list_any (λ (e : PlainEvent). has_break theory events (is_current theory events) p e.rank) (take i (map f items)) ≡ false →
      ends ≡ ends_well (timeline_of theory events p) t
  break_found broken ends all within there says is ended so_far =
      let test : PlainEvent → Bool = λ e. has_break theory events (is_current theory events) p e.rank in
      let inside : i < length (map f items) = omega (arith, length-map items f) in
      let at : get_or (map f items) i (f item) ≡ f item = get_or-map f items i item ∙ ap f (sym there) in
      let first = find_here test (map f items) i (f item) inside so_far (ap test at ∙ sym says ∙ is) in
      ended
      ∙ ap (λ o. option_map_or (λ (e : PlainEvent). is_terminated theory events (is_current theory events) p e.rank) o true) (sym (ap (find test) (sym all) ∙ first ∙ ap Some at))
      ∙ sym (ends_well-events theory events p t)

  -- it does not, and neither did those before it
  pub break_not_yet : (broken : Bool) → i < length items → item ≡ get_or items i item →
      broken ≡ has_break theory events (is_current theory events) p (f item).rank → broken ≡ false →
      list_any (λ (e : PlainEvent). has_break theory events (is_current theory events) p e.rank) (take i (map f items)) ≡ false →
      list_any (λ (e : PlainEvent). has_break theory events (is_current theory events) p e.rank) (take (i + 1) (map f items)) ≡ false
  break_not_yet broken within there says is so_far =
      let test : PlainEvent → Bool = λ e. has_break theory events (is_current theory events) p e.rank in
      let inside : i < length (map f items) = omega (arith, length-map items f) in
      let at : get_or (map f items) i (f item) ≡ f item = get_or-map f items i item ∙ ap f (sym there) in
      list_any_more test (map f items) i (f item) inside ∙ or_from _ _ so_far (ap test at ∙ sym says ∙ is)

-- none breaks the property
pub break_absent : {E : Type 0} (f : E → PlainEvent) (items : List E) (theory : Theory) (events : List PlainEvent) (p : Ground) (t : ℤ) (i : ℕ) →
    map f items ≡ events_from t events → length items ≤ i →
    list_any (λ (e : PlainEvent). has_break theory events (is_current theory events) p e.rank) (take i (map f items)) ≡ false →
    true ≡ ends_well (timeline_of theory events p) t
break_absent f items theory events p t i all past none =
    let test : PlainEvent → Bool = λ e. has_break theory events (is_current theory events) p e.rank in
    let whole : take i (map f items) ≡ map f items = take_all i (map f items) (omega (arith, length-map items f)) in
    ap (λ o. option_map_or (λ (e : PlainEvent). is_terminated theory events (is_current theory events) p e.rank) o true)
    (sym (ap (find test) (sym all) ∙ find-none test (map f items) (sym (ap (list_any test) whole) ∙ none)))
    ∙ sym (ends_well-events theory events p t)
