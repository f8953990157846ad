-- Where nothing is left to visit, all is found.
use Rattle.std.proofs.Common.{◌≡◌, ◌⊎◌, ℤ, pos, ◌+ℤ◌, ◌≤ℤ◌, ◌<ℤ◌, Bool, true, List, [], ◌∷◌, IsTrue, IsFalse, refl, ◌∙◌, arith}
use Rattle.std.specs.Prelude.{Contains, int_lt}
use Rattle.std.specs.List.{list_all}
use Rattle.std.proofs.lemmas.Bool.{and_from}
use Rattle.std.proofs.lemmas.Int.{by_lt_z, ints}
use Rattle.ec_lists.proofs.Integers.{int_lt-next}
use Rattle.ec_lists.proofs.Tests.{list_all-weaker}
use Rattle.ec_terms.specs.declared.ground.Ground.{Ground}
use Rattle.ec_terms.specs.declared.theory.Theory.{Theory}
use Rattle.ec_axioms.specs.Calculus.{PlainEvent, Effect, is_active, is_current}
use Rattle.ec_axioms.specs.Marks.{mark_at}
use Rattle.ec_axioms.specs.Changes.{change_counts, kept_events}
use Rattle.ec_changes.specs.Differences.{entries_at}
use Rattle.ec_changes.specs.IntervalLaws.{IsInert}
use Rattle.ec_changes.specs.Turns.{sees, turns_off, turns_on}
use Rattle.ec_changes.proofs.Inert.{InertChangesKeepIntervals-law}
use Rattle.ec_changes.proofs.KeptCounts.{KeptCountsAreWhole-law}
use Rattle.ec_revise.specs.Sweep.{AreCompared, Found, Swept, mark_found}
use Rattle.ec_revise.specs.SweepLaws.{HasNoVisit, SweepEnds}
use Rattle.ec_revise.proofs.Passing.{SweepPasses-law}

-- some instant from r on has no event behind it
last_instant : (r : ℤ) (events : List PlainEvent) → (s : ℤ) × (r ≤ℤ s) × IsTrue (list_all (λ e. int_lt e.rank (s +ℤ pos 1)) events)
last_instant r [] = (r, omega (arith, ints), refl)
last_instant r (e ∷ events) =
    let rest = last_instant r events in
    let from : r ≤ℤ rest.0 = rest.1 in
    by_lt_z rest.0 e.rank
    (λ later. (
      e.rank,
      omega (arith, ints),
      and_from _ _ (int_lt-next e.rank)
          (list_all-weaker (λ (f : PlainEvent). int_lt f.rank (rest.0 +ℤ pos 1)) (λ f. int_lt f.rank (e.rank +ℤ pos 1)) (λ f before. further f.rank rest.0 e.rank later before) events rest.2),
    ))
    (λ within. (rest.0, from, and_from _ _ (reached e.rank rest.0 within) rest.2))
  where
    further : (t s u : ℤ) → s <ℤ u → int_lt t (s +ℤ pos 1) ≡ true → int_lt t (u +ℤ pos 1) ≡ true
    further t s u later before = grind (arith, ints)

    reached : (t s : ℤ) → t ≤ℤ s → int_lt t (s +ℤ pos 1) ≡ true
    reached t s within = grind (arith, ints)

module _ (theory : Theory) (old new : List PlainEvent) (kept : Ground → Bool) (r : ℤ) (found : Found) (compared : AreCompared theory old new kept)
    (swept : Swept theory old new kept r found) (free : (s : ℤ) → HasNoVisit old new found r s) where
  -- any later instant is swept
  swept_up_to : (s : ℤ) → r ≤ℤ s → Swept theory old new kept s found
  swept_up_to s within = SweepPasses-law theory old new kept r s found compared swept within (free s)

  marks : (p : Ground) (t : ℤ) → IsTrue (kept p) → mark_found theory old found p t ≡ mark_at theory new p t
  marks p t keeps = by_lt_z r t (λ after. (swept_up_to t (omega (arith, ints))).marks p t keeps (omega (arith, ints))) (λ early. swept.marks p t keeps early)

  active : (effect : Effect) (t : ℤ) → Contains (entries_at theory new t) effect → found.active effect ≡ is_active (is_current theory new) effect
  active effect t contained =
      by_lt_z r t (λ after. (swept_up_to t (omega (arith, ints))).active effect t (omega (arith, ints)) contained) (λ early. swept.active effect t early contained)

  inert : (p : Ground) (t : ℤ) → IsTrue (kept p) → IsFalse (found.matters p) → (mark_at theory old p t ≡ mark_at theory new p t) ⊎ IsInert theory old new p t
  inert p t keeps unmattered =
      by_lt_z r t (λ after. (swept_up_to t (omega (arith, ints))).inert p t keeps (omega (arith, ints)) unmattered) (λ early. swept.inert p t keeps early unmattered)

  last : (s : ℤ) × (r ≤ℤ s) × IsTrue (list_all (λ e. int_lt e.rank (s +ℤ pos 1)) (kept_events old new))
  last = last_instant r (kept_events old new)

  whole : Swept theory old new kept last.0 found
  whole = swept_up_to last.0 last.1

  seen : found.seen ≡ (change_counts theory old new).seen
  unfolding change_counts
  seen = whole.seen ∙ (KeptCountsAreWhole-law theory old new (sees theory old new) (last.0 +ℤ pos 1)).1 last.2

  on : found.on ≡ (change_counts theory old new).on
  unfolding change_counts
  on = whole.on ∙ (KeptCountsAreWhole-law theory old new (turns_on theory old new) (last.0 +ℤ pos 1)).1 last.2

  off : found.off ≡ (change_counts theory old new).off
  unfolding change_counts
  off = whole.off ∙ (KeptCountsAreWhole-law theory old new (turns_off theory old new) (last.0 +ℤ pos 1)).1 last.2

-- the law
pub SweepEnds-law : SweepEnds
SweepEnds-law theory old new kept r found compared swept free = record {
  marks = marks theory old new kept r found compared swept free;
  active = active theory old new kept r found compared swept free;
  intervals = λ p keeps unmattered.
      InertChangesKeepIntervals-law theory old new p compared.old_history compared.new_history (λ t. inert theory old new kept r found compared swept free p t keeps unmattered);
  seen = seen theory old new kept r found compared swept free;
  on = on theory old new kept r found compared swept free;
  off = off theory old new kept r found compared swept free;
}
