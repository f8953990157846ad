-- What is known of whether a property holds, from one instant to the next.
use Rattle.std.proofs.Common.{◌≡◌, ℤ, Bool, true, false, not, ◌&&◌, ◌||◌, List, [], ◌∷◌, refl, sym, ap, ◌∙◌, ⊎_elim, arith}
use Rattle.std.specs.Prelude.{int_le, int_lt, IsTrue, IsFalse}
use Rattle.std.specs.List.{list_all, list_any}
use Rattle.std.specs.Ordering.{int_eq}
use Rattle.std.proofs.lemmas.Bool.{and_from, and_parts, cases_Bool, false≢true, or_cases, or_parts}
use Rattle.std.proofs.lemmas.Int.{ints}
use Rattle.ec_lists.proofs.Integers.{int_eq-is}
use Rattle.ec_terms.specs.declared.ground.Ground.{Ground}
use Rattle.ec_terms.specs.declared.theory.Theory.{Theory}
use Rattle.ec_axioms.specs.Calculus.{PlainEvent, has_break, holds_at, is_current, is_terminated}
use Rattle.ec_axioms.specs.Changes.{is_history}
use Rattle.ec_axioms.specs.Plain.{IsLastBefore}
use Rattle.ec_axioms.proofs.LastInstant.{is_current-last}
use Rattle.ec_pass.specs.declared.holding.Holding.{Holding}
use Rattle.ec_pass.specs.declared.holding.Holding.TheVariants.{Before, Waits, Known}
use Rattle.ec_pass.specs.Holdings.{IsKnown, breaks_within, held_at_end, judged, looked_up}
use Rattle.ec_pass.specs.Outcomes.{outcome_of}
use Rattle.ec_pass.proofs.HoldingLemmas.{holds-broken, holds-not_current, holds-unbroken}

-- where what fails the one test fails the other, none passes the other where none passes the one
fewer : (p r : PlainEvent → Bool) → ((e : PlainEvent) → p e ≡ false → r e ≡ false) → (es : List PlainEvent) → list_any p es ≡ false → list_any r es ≡ false
fewer p r each [] none = refl
fewer p r each (e ∷ es) none =
    let parts = or_parts (p e) (list_any p es) none in
    let here = each e parts.0 in
    let rest = fewer p r each es parts.1 in
    grind arith

-- the same where another test holds of each
fewer_of : (p r a : PlainEvent → Bool) → ((e : PlainEvent) → a e ≡ true → p e ≡ false → r e ≡ false) → (es : List PlainEvent) → list_all a es ≡ true → list_any p es ≡ false
    → list_any r es ≡ false
fewer_of p r a each [] all none = refl
fewer_of p r a each (e ∷ es) all none =
    let parts = or_parts (p e) (list_any p es) none in
    let both = and_parts (a e) (list_all a es) all in
    let here = each e both.0 parts.0 in
    let rest = fewer_of p r a each es both.1 parts.1 in
    grind arith

module _ (theory : Theory) (events : List PlainEvent) (q : Ground) (t s : ℤ) (history : is_history events ≡ true) where
  abbrev breaks : ℤ → Bool
  breaks r = has_break theory events (is_current theory events) q r

  -- an event from t up to s is at an instant that breaks the property
  abbrev breaks_up_to : PlainEvent → Bool
  breaks_up_to e = (int_le t e.rank && int_le e.rank s) && breaks e.rank

  -- what is known at s, once all events there were looked at
  abbrev pub IsJudged : Holding → Type 0
  IsJudged Before = IsTrue (int_lt s t)
  IsJudged Waits = IsTrue (int_le t s) × IsTrue (is_current theory events q t) × IsFalse (list_any breaks_up_to events)
  IsJudged (Known holds) = holds ≡ holds_at theory events q t

  pub IsJudged-known : (holding : Holding) (terminated broken : Bool) → IsKnown theory events q t s holding → terminated ≡ is_terminated theory events (is_current theory events) q s
      → (terminated || broken) ≡ breaks s → (breaks s ≡ true → list_any (λ (e : PlainEvent). int_eq e.rank s) events ≡ true) → IsJudged (judged holding (outcome_of terminated broken))
  IsJudged-known Before terminated broken known is both there = known
  IsJudged-known (Known holds) terminated broken known is both there = known
  IsJudged-known Waits true broken known is both there =
      sym (holds-broken theory events q t s history known.1 (there (sym both)) known.0 (sym both) known.2 ∙ sym is)
  IsJudged-known Waits false true known is both there =
      sym (holds-broken theory events q t s history known.1 (there (sym both)) known.0 (sym both) known.2 ∙ sym is)
  IsJudged-known Waits false false known is both there =
      (known.0, known.1, fewer (breaks_within theory events q t s) breaks_up_to each events known.2)
    where
      each : (e : PlainEvent) → breaks_within theory events q t s e ≡ false → breaks_up_to e ≡ false
      each e none = ⊎_elim
          (λ at. let unbroken : breaks e.rank ≡ false = ap breaks (int_eq-is e.rank s at) ∙ sym both in
          ap (λ b. (int_le t e.rank && int_le e.rank s) && b) unbroken ∙ never (int_le t e.rank && int_le e.rank s))
          (λ apart. let le : int_le e.rank s ≡ int_lt e.rank s = grind (arith, ints) in ap (λ b. (int_le t e.rank && b) && breaks e.rank) le ∙ none)
          (cases_Bool (int_eq e.rank s))
        where
          never : (b : Bool) → (b && false) ≡ false
          never b = grind arith

  -- what it comes to where no event is later
  pub holds-ended : (holding : Holding) → IsJudged holding → int_lt s t ≡ false → list_all (λ (e : PlainEvent). int_le e.rank s) events ≡ true → held_at_end holding ≡ holds_at theory events q t
  holds-ended Before before behind all = absurd (false≢true (sym behind ∙ before))
  holds-ended (Known holds) known behind all = known
  holds-ended Waits waits behind all =
      sym (holds-unbroken theory events q t history waits.1
      (fewer_of breaks_up_to (λ (e : PlainEvent). int_le t e.rank && breaks e.rank) (λ (e : PlainEvent). int_le e.rank s) each events all waits.2))
    where
      each : (e : PlainEvent) → int_le e.rank s ≡ true → breaks_up_to e ≡ false → (int_le t e.rank && breaks e.rank) ≡ false
      each e le none = grind arith

  -- ---- the next time

  module _ (u : ℤ) (last : IsLastBefore events u s) where
    -- nothing is between
    IsLastBefore-earlier : int_lt s t ≡ true → int_lt u t ≡ false → IsLastBefore events t s
    IsLastBefore-earlier before reached = record { before = before; instant = last.instant; last = each events last.last }
      where
        each : (es : List PlainEvent) → list_all (λ (e : PlainEvent). int_le e.rank s || int_le u e.rank) es ≡ true → list_all (λ (e : PlainEvent). int_le e.rank s || int_le t e.rank) es ≡ true
        each [] all = refl
        each (e ∷ es) all =
            let parts = and_parts (int_le e.rank s || int_le u e.rank) (list_all (λ (f : PlainEvent). int_le f.rank s || int_le u f.rank) es) all in
            let one : (int_le e.rank s || int_le u e.rank) ≡ true = parts.0 in
            let rest : list_all (λ (f : PlainEvent). int_le f.rank s || int_le t f.rank) es ≡ true = each es parts.1 in
            let here : (int_le e.rank s || int_le t e.rank) ≡ true = grind (arith, ints) in
            and_from _ _ here rest

    current-then : int_lt s t ≡ true → int_lt u t ≡ false → is_current theory events q t ≡ is_current theory events q u
    current-then before reached =
        is_current-last theory events q t s (IsLastBefore-earlier before reached) ∙ sym (is_current-last theory events q u s last)

    nothing_between : int_lt s t ≡ true → list_any (breaks_within theory events q t u) events ≡ false
    nothing_between before = each events last.last
      where
        each : (es : List PlainEvent) → list_all (λ (e : PlainEvent). int_le e.rank s || int_le u e.rank) es ≡ true → list_any (breaks_within theory events q t u) es ≡ false
        each [] all = refl
        each (e ∷ es) all =
            let parts = and_parts (int_le e.rank s || int_le u e.rank) (list_all (λ (f : PlainEvent). int_le f.rank s || int_le u f.rank) es) all in
            let one : (int_le e.rank s || int_le u e.rank) ≡ true = parts.0 in
            let rest : list_any (breaks_within theory events q t u) es ≡ false = each es parts.1 in
            let here : (int_le t e.rank && int_lt e.rank u) ≡ false = grind (arith, ints) in
            grind arith

    pub IsKnown-looked_up : (holding : Holding) (reached current : Bool) → IsJudged holding → reached ≡ not (int_lt u t) → current ≡ is_current theory events q u
        → IsKnown theory events q t u (looked_up holding reached current)
    IsKnown-looked_up (Known holds) reached current known is now = known
    IsKnown-looked_up Waits reached current waits is now = (
      let from = waits.0 in let before = last.before in grind (arith, ints),
      waits.1,
      fewer_of breaks_up_to (breaks_within theory events q t u) (λ (e : PlainEvent). int_le e.rank s || int_le u e.rank) each events last.last waits.2,
    )
      where
        each : (e : PlainEvent) → (int_le e.rank s || int_le u e.rank) ≡ true → breaks_up_to e ≡ false → breaks_within theory events q t u e ≡ false
        each e one none = ⊎_elim
            (λ le. let far : ((int_le t e.rank && int_lt e.rank u) && breaks e.rank) ≡ false =
            let n : ((int_le t e.rank && true) && breaks e.rank) ≡ false = ap (λ b. (int_le t e.rank && b) && breaks e.rank) (sym le) ∙ none in grind arith in far)
            (λ later. let not_before : int_lt e.rank u ≡ false = grind (arith, ints) in
            ap (λ b. (int_le t e.rank && b) && breaks e.rank) not_before ∙ never (int_le t e.rank) (breaks e.rank))
            (or_cases (int_le e.rank s) (int_le u e.rank) one)
          where
            never : (a b : Bool) → ((a && false) && b) ≡ false
            never a b = grind arith
    IsKnown-looked_up Before false current before is now = let not_yet = is in grind arith
    IsKnown-looked_up Before true current before is now = by current now
      where
        reached : int_lt u t ≡ false
        reached = let r = is in grind arith

        by : (current : Bool) → current ≡ is_current theory events q u → IsKnown theory events q t u (looked_up Before true current)
        by true now = (grind (arith, ints), current-then before reached ∙ sym now, nothing_between before)
        by false now = holds-not_current theory events q t history (current-then before reached ∙ sym now)
