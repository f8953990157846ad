-- Whether a property holds, by what breaks it first.
use Rattle.std.proofs.Common.{◌≡◌, ℤ, Bool, true, false, cond, ◌&&◌, List, [], ◌∷◌, Some, find, refl, sym, ap, ap₂, ◌∙◌, ⊎_elim, arith}
use Rattle.std.specs.Prelude.{int_le, int_lt}
use Rattle.std.specs.List.{list_all, list_any}
use Rattle.std.specs.Option.{option_map_or}
use Rattle.std.specs.Ordering.{int_eq}
use Rattle.std.proofs.lemmas.Bool.{and_from, and_parts, cases_Bool, false≢true, or_cases}
use Rattle.std.proofs.lemmas.Int.{ints}
use Rattle.ec_lists.proofs.Finds.{find-filter, find-none}
use Rattle.ec_lists.proofs.Integers.{int_eq-is}
use Rattle.ec_lists.proofs.Tests.{list_any-same}
use Rattle.ec_terms.specs.declared.ground.Ground.{Ground}
use Rattle.ec_terms.specs.declared.theory.Theory.{Theory}
use Rattle.ec_axioms.specs.Calculus.{PlainEvent, has_break, holds_at, instants_of, is_current, is_terminated, timeline_by, timeline_of, with_instant}
use Rattle.ec_axioms.specs.Changes.{comes_before, is_history}
use Rattle.ec_axioms.specs.Plain.{ends_well}
use Rattle.ec_axioms.proofs.Effects.{list_any-instants}
use Rattle.ec_axioms.proofs.HoldingLaws.{HoldsWhereCurrent-law}
use Rattle.ec_axioms.proofs.OrderedEvents.{comes_before-rank}
use Rattle.ec_pass.specs.Holdings.{breaks_within}

-- ---- the first instant that passes a test

find-with_instant : (test : ℤ → Bool) (t : ℤ) (us : List ℤ) → find test (with_instant t us) ≡ cond (test t) (Some t) (find test us)
find-with_instant test t [] = refl
find-with_instant test t (u ∷ us) = let same = int_eq-is t u in let here : t ≡ u → test t ≡ test u = ap test in grind arith

-- an event comes before each instant behind it
not-after : (e : PlainEvent) (events : List PlainEvent) (s : ℤ) → list_all (comes_before e) events ≡ true → list_any (λ (f : PlainEvent). int_eq f.rank s) events ≡ true
    → int_le e.rank s ≡ true
not-after e [] s all there = cc
not-after e (f ∷ events) s all there =
    let parts = and_parts _ _ all in
    let up = comes_before-rank e f parts.0 in
    let ih = not-after e events s parts.1 in
    let here : int_eq f.rank s ≡ true → int_le e.rank s ≡ true = λ same. grind (arith, ints) in grind arith

-- it is s, where an event is there, it passes, and none before it does
find-first : (test : ℤ → Bool) (s : ℤ) (events : List PlainEvent) → is_history events ≡ true → list_any (λ (e : PlainEvent). int_eq e.rank s) events ≡ true → test s ≡ true
    → list_any (λ (e : PlainEvent). int_lt e.rank s && test e.rank) events ≡ false → find test (instants_of events) ≡ Some s
unfolding instants_of is_history
find-first test s [] ordered there passes none = cc
find-first test s (e ∷ events) ordered there passes none =
    find-with_instant test e.rank (instants_of events) ∙ ⊎_elim here (later (λ rest none_later. find-first test s events ordered_parts.1 rest passes none_later)) (cases_Bool (test e.rank))
  where
    ordered_parts : (list_all (comes_before e) events ≡ true) × (is_history events ≡ true)
    ordered_parts = let both = and_parts _ _ ordered in ((and_parts _ _ both.0).0, both.1)

    here : test e.rank ≡ true → cond (test e.rank) (Some e.rank) (find test (instants_of events)) ≡ Some s
    here is =
        let not_before : int_lt e.rank s ≡ false = let n = none in grind arith in
        let not_behind : list_any (λ (f : PlainEvent). int_eq f.rank s) events ≡ true → int_le e.rank s ≡ true = not-after e events s ordered_parts.0 in
        let same : int_eq e.rank s ≡ true =
        ⊎_elim (λ at. at) (λ rest. let le = not_behind rest in grind (arith, ints)) (or_cases (int_eq e.rank s) _ there) in
        ap (λ b. cond b (Some e.rank) (find test (instants_of events))) is ∙ ap Some (int_eq-is e.rank s same)

    later : (list_any (λ (f : PlainEvent). int_eq f.rank s) events ≡ true → list_any (λ (f : PlainEvent). int_lt f.rank s && test f.rank) events ≡ false → find test (instants_of events) ≡ Some s)
        → test e.rank ≡ false → cond (test e.rank) (Some e.rank) (find test (instants_of events)) ≡ Some s
    later further is =
        let apart : int_eq e.rank s ≡ true → test e.rank ≡ true = λ at. ap test (int_eq-is e.rank s at) ∙ passes in
        let rest : list_any (λ (f : PlainEvent). int_eq f.rank s) events ≡ true = ⊎_elim (λ at. absurd (false≢true (sym is ∙ apart at))) (λ rest. rest) (or_cases (int_eq e.rank s) _ there) in
        let none_later : list_any (λ (f : PlainEvent). int_lt f.rank s && test f.rank) events ≡ false = let n = none in grind arith in
        ap (λ b. cond b (Some e.rank) (find test (instants_of events))) is ∙ further rest none_later

-- ---- holding

module _ (theory : Theory) (events : List PlainEvent) (q : Ground) (t : ℤ) where
  abbrev breaks : ℤ → Bool
  breaks r = has_break theory events (is_current theory events) q r

  ends_well-unbroken : list_any (λ (e : PlainEvent). int_le t e.rank && breaks e.rank) events ≡ false → ends_well (timeline_of theory events q) t ≡ true
  unfolding timeline_of timeline_by
  ends_well-unbroken none =
      ap (λ o. option_map_or (is_terminated theory events (is_current theory events) q) o true)
      (find-filter breaks (λ r. int_le t r) (instants_of events)
      ∙ find-none (λ r. int_le t r && breaks r) (instants_of events) (list_any-instants (λ r. int_le t r && breaks r) events ∙ none))

  ends_well-broken : (s : ℤ) → is_history events ≡ true → list_any (λ (e : PlainEvent). int_eq e.rank s) events ≡ true → int_le t s ≡ true → breaks s ≡ true
      → list_any (breaks_within theory events q t s) events ≡ false → ends_well (timeline_of theory events q) t ≡ is_terminated theory events (is_current theory events) q s
  unfolding timeline_of timeline_by
  ends_well-broken s history there from broken none =
      ap (λ o. option_map_or (is_terminated theory events (is_current theory events) q) o true)
      (find-filter breaks (λ r. int_le t r) (instants_of events)
      ∙ find-first (λ r. int_le t r && breaks r) s events history there (and_from _ _ from broken)
      (list_any-same (λ (e : PlainEvent). int_lt e.rank s && (int_le t e.rank && breaks e.rank)) (breaks_within theory events q t s)
      (λ e. turned (int_lt e.rank s) (int_le t e.rank) (breaks e.rank)) events ∙ none))
    where
      turned : (a b c : Bool) → (a && (b && c)) ≡ ((b && a) && c)
      turned a b c = grind arith

  -- what is current and not broken from there on holds
  pub holds-unbroken : is_history events ≡ true → is_current theory events q t ≡ true → list_any (λ (e : PlainEvent). int_le t e.rank && breaks e.rank) events ≡ false
      → holds_at theory events q t ≡ true
  holds-unbroken history current none =
      HoldsWhereCurrent-law theory events q t history ∙ ap₂ (λ a b. a && b) current (ends_well-unbroken none)

  -- what is current holds if the first break terminates it
  pub holds-broken : (s : ℤ) → is_history events ≡ true → is_current theory events q t ≡ true → list_any (λ (e : PlainEvent). int_eq e.rank s) events ≡ true → int_le t s ≡ true
      → breaks s ≡ true → list_any (breaks_within theory events q t s) events ≡ false → holds_at theory events q t ≡ is_terminated theory events (is_current theory events) q s
  holds-broken s history current there from broken none =
      HoldsWhereCurrent-law theory events q t history ∙ ap₂ (λ a b. a && b) current (ends_well-broken s history there from broken none)

  -- what is not current does not hold
  pub holds-not_current : is_history events ≡ true → is_current theory events q t ≡ false → false ≡ holds_at theory events q t
  holds-not_current history none =
      sym (HoldsWhereCurrent-law theory events q t history ∙ ap (λ a. a && ends_well (timeline_of theory events q) t) none)
