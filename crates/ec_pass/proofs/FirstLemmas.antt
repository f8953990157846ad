-- A pass before all events.
use Rattle.std.proofs.Common.{◌≡◌, ℤ, Bool, true, false, cond, not, ◌&&◌, List, [], ◌∷◌, Some, refl, sym, ap, subst, ◌∙◌, arith}
use Rattle.std.specs.Prelude.{int_le, int_lt}
use Rattle.std.specs.List.{list_all, list_any}
use Rattle.std.proofs.lemmas.Bool.{and_parts, or_from}
use Rattle.std.proofs.lemmas.Int.{ints}
use Rattle.ec_terms.specs.declared.ground.Ground.{Ground}
use Rattle.ec_terms.specs.declared.theory.Theory.{Theory}
use Rattle.ec_axioms.specs.Calculus.{PlainEvent, has_break, is_current, is_initiating, is_terminating}
use Rattle.ec_axioms.specs.Changes.{is_history}
use Rattle.ec_axioms.specs.Laws.{events_before}
use Rattle.ec_axioms.specs.Links.{initial_properties}
use Rattle.ec_axioms.proofs.LastInstant.{is_current-first}
use Rattle.ec_changes.specs.LiveLaws.{ListsInitials}
use Rattle.ec_store.specs.Table.{term_at}
use Rattle.ec_numbered.specs.PropSet.{has_number}
use Rattle.ec_exclusive.specs.CurrentProps.{is_in}
use Rattle.ec_pass.specs.declared.holding.Holding.TheVariants.{Before}
use Rattle.ec_pass.specs.declared.pass.Pass.{Pass}
use Rattle.ec_pass.specs.Holdings.{IsKnown, breaks_within, looked_up}
use Rattle.ec_pass.specs.Passing.{IsComing, IsPassing}
use Rattle.ec_pass.specs.Present.{IsAt, IsFirst}
use Rattle.ec_pass.proofs.EffectLemmas.{has_effect-nil}
use Rattle.ec_pass.proofs.HoldingLemmas.{holds-not_current}
use Rattle.ec_pass.proofs.NumberLemmas.{AreNumbersOf-none, AreNumbersOf-same}

-- no event is before a time that none of them is before, or before an earlier one
events_before-none : (s t : ℤ) (es : List PlainEvent) → int_lt s t ≡ false → list_all (λ (e : PlainEvent). int_le s e.rank) es ≡ true → events_before t es ≡ []
events_before-none s t [] le all = refl
events_before-none s t (e ∷ es) le all =
    let parts = and_parts (int_le s e.rank) (list_all (λ (f : PlainEvent). int_le s f.rank) es) all in
    let first : int_le s e.rank ≡ true = parts.0 in
    let here : int_lt e.rank t ≡ false = grind (arith, ints) in
    let rest : events_before t es ≡ [] = events_before-none s t es le parts.1 in
    ap (λ b. cond b (e ∷ events_before t es) (events_before t es)) here ∙ rest

module _ (theory : Theory) (events : List PlainEvent) (q : Ground) (t s : ℤ) (all : list_all (λ (e : PlainEvent). int_le s e.rank) events ≡ true) where
  none_before : events_before s events ≡ []
  none_before = events_before-none s s events itself all
    where
      itself : int_lt s s ≡ false
      itself = grind (arith, ints)

  -- what is current before the first instant is current at it
  current-first : int_lt s t ≡ false → is_current theory events q t ≡ is_current theory events q s
  current-first reached =
      is_current-first theory events q t (events_before-none s t events reached all) ∙ sym (is_current-first theory events q s none_before)

  breaks-none : (es : List PlainEvent) → list_all (λ (e : PlainEvent). int_le s e.rank) es ≡ true → list_any (breaks_within theory events q t s) es ≡ false
  breaks-none [] le = refl
  breaks-none (e ∷ es) le =
      let parts = and_parts (int_le s e.rank) (list_all (λ (f : PlainEvent). int_le s f.rank) es) le in
      let first : int_le s e.rank ≡ true = parts.0 in
      let not_before : int_lt e.rank s ≡ false = grind (arith, ints) in
      or_from _ _ (ap (λ b. (int_le t e.rank && b) && has_break theory events (is_current theory events) q e.rank) not_before
      ∙ never (int_le t e.rank) (has_break theory events (is_current theory events) q e.rank)) (breaks-none es parts.1)
    where
      never : (a b : Bool) → ((a && false) && b) ≡ false
      never a b = grind arith

  pub IsKnown-first : is_history events ≡ true → (current : Bool) → current ≡ is_current theory events q s → IsKnown theory events q t s (looked_up Before (not (int_lt s t)) current)
  IsKnown-first history current is = of (int_lt s t) refl current is
    where
      of : (before : Bool) → int_lt s t ≡ before → (current : Bool) → current ≡ is_current theory events q s → IsKnown theory events q t s (looked_up Before (not before) current)
      of true before current is = before
      of false reached true is = (grind (arith, ints), current-first reached ∙ sym is, breaks-none events all)
      of false reached false is = holds-not_current theory events q t history (current-first reached ∙ sym is)

module _ {T : Type 0} (rank : T → ℤ) (theory : Theory) (events : List PlainEvent) (q : Ground) (pass : Pass T) (history : is_history events ≡ true) (lists : ListsInitials theory)
    (coming : IsComing events events (rank pass.at) (rank pass.instant) (rank pass.instant)) (first : IsFirst theory (initial_properties theory) pass.present) where
  IsAt-first : IsAt theory events [] (rank pass.instant) pass.present
  IsAt-first = record {
    forms = first.forms;
    current = AreNumbersOf-same (λ n. refl)
        (λ r. is_current-first theory events r (rank pass.instant) (none_before theory events r (rank pass.at) (rank pass.instant) coming.behind) ∙ lists r) first.current;
    started = AreNumbersOf-same (λ n. ap (has_number n) first.started) (λ r. has_effect-nil theory (is_current theory events) (is_initiating r) (rank pass.instant)) AreNumbersOf-none;
    ended = AreNumbersOf-same (λ n. ap (has_number n) first.ended) (λ r. has_effect-nil theory (is_current theory events) (is_terminating r) (rank pass.instant)) AreNumbersOf-none;
  }

  pub IsPassing-first : term_at pass.p.0 pass.present.props ≡ Some q → pass.holding ≡ looked_up Before (not (int_lt (rank pass.instant) (rank pass.at))) (is_in pass.p.0 pass.present.current)
      → IsPassing rank theory events [] events q pass
  IsPassing-first number holding = record {
    history = history;
    parts = refl;
    at = IsAt-first;
    before = refl;
    behind = coming.behind;
    place = coming.place;
    number = number;
    known = subst (IsKnown theory events q (rank pass.at) (rank pass.instant)) (sym holding)
        (IsKnown-first theory events q (rank pass.at) (rank pass.instant) coming.behind history (is_in pass.p.0 pass.present.current) (IsAt-first.current.same pass.p.0 q number));
  }
