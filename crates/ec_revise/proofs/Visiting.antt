-- A visit of the next instant sweeps it.
use Rattle.std.proofs.Common.{◌≡◌, ◌⊎◌, ◌≢◌, ℤ, pos, ◌+ℤ◌, ◌≤ℤ◌, ◌<ℤ◌, Bool, not, List, filter, IsTrue, IsFalse, sym, ap, subst, ◌∙◌, inl, inr, ⊎_elim, arith}
use Rattle.std.specs.Prelude.{Contains, unwrap_or, is_some}
use Rattle.std.specs.Ordering.{int_eq}
use Rattle.std.proofs.lemmas.Bool.{cases_Bool, false≢true}
use Rattle.std.proofs.lemmas.Int.{by_lt_z, ints}
use Rattle.ec_terms.specs.declared.ground.Ground.{Ground}
use Rattle.ec_terms.specs.declared.theory.Theory.{Theory}
use Rattle.ec_axioms.specs.Plain.{events_at}
use Rattle.ec_axioms.specs.Calculus.{PlainEvent, Effect, effects_of, is_active, is_current}
use Rattle.ec_axioms.specs.Marks.{mark_at}
use Rattle.ec_axioms.specs.Changes.{events_only_in, has_event, kept_events}
use Rattle.ec_axioms.proofs.Members.{IsMember, IsMember-filter, IsMember-from_contains, IsMember-from_filter}
use Rattle.ec_changes.specs.Differences.{entries_at}
use Rattle.ec_changes.specs.IntervalLaws.{IsInert}
use Rattle.ec_changes.proofs.Activity.{rank-entries_at}
use Rattle.ec_changes.proofs.JoinedMembers.{IsMember-flat_map, IsMember-from_flat_map}
use Rattle.ec_changes.proofs.KeptEvents.{kept_events-both}
use Rattle.ec_revise.specs.Sweep.{AreCompared, Found, IsDueBy, Swept, bears_on, mark_found}
use Rattle.ec_revise.specs.Visit.{AreTurnsAt, PlainTurn, Visits, turns_between}
use Rattle.ec_revise.specs.SweepLaws.{SweepVisits}
use Rattle.ec_revise.proofs.Looking.{added_active, counted_off, counted_on, counted_seen, kept_active, turns_at}
use Rattle.ec_revise.proofs.Settling.{dirty_behind, inert_here, marks_here, mattered}

-- an entry at an instant is of an event that passes a test, or of one that fails it
IsMember-entries_cases : (theory : Theory) (test : PlainEvent → Bool) (events : List PlainEvent) (t : ℤ) (effect : Effect) → IsMember (entries_at theory events t) effect
    → IsMember (entries_at theory (filter test events) t) effect ⊎ IsMember (entries_at theory (filter (λ e. not (test e)) events) t) effect
IsMember-entries_cases theory test events t effect member =
    let found = IsMember-from_flat_map (effects_of theory) (events_at t events) effect member in
    let here = IsMember-from_filter (λ (e : PlainEvent). int_eq e.rank t) events found.0 found.1 in
    let part : (p : PlainEvent → Bool) → IsTrue (p found.0) → IsMember (entries_at theory (filter p events) t) effect =
    λ p passes. IsMember-flat_map (effects_of theory) (events_at t (filter p events)) found.0 effect
    (IsMember-filter (λ (e : PlainEvent). int_eq e.rank t) (filter p events) found.0 (IsMember-filter p events found.0 here.0 passes) here.1) found.2 in
    ⊎_elim
    (λ passes. inl (part test passes))
    (λ fails. inr (part (λ e. not (test e)) (ap not fails)))
    (cases_Bool (test found.0))

module _ (theory : Theory) (old new : List PlainEvent) (kept : Ground → Bool) (r : ℤ) (seen : List Effect) (settled : Ground → Bool) (before after : Found)
    (compared : AreCompared theory old new kept) (swept : Swept theory old new kept r before)
    (visits : Visits theory old new kept (r +ℤ pos 1) seen settled before after) where
  abbrev turns : List PlainTurn
  turns = turns_between theory old new (r +ℤ pos 1) seen before after

  turned : AreTurnsAt theory old new (r +ℤ pos 1) turns
  turned = turns_at theory old new kept r seen before after compared swept visits.looks

  -- an instant up to the next one is the next one, or was swept before
  up_to : {P : Type 0} (t : ℤ) → t ≤ℤ (r +ℤ pos 1) → (t ≡ r +ℤ pos 1 → P) → (t ≤ℤ r → P) → P
  up_to t within here early = by_lt_z r t (λ after. here (omega (arith, ints))) early

  apart : (t : ℤ) → t ≤ℤ r → t ≢ r +ℤ pos 1
  apart t early same = absurd (omega (arith, ints))

  beyond : (t : ℤ) → (r +ℤ pos 1) <ℤ t → t ≢ r +ℤ pos 1
  beyond t behind same = absurd (omega (arith, ints))

  -- marks
  marks : (p : Ground) (t : ℤ) → IsTrue (kept p) → t ≤ℤ (r +ℤ pos 1) → mark_found theory old after p t ≡ mark_at theory new p t
  marks p t keeps within =
      up_to t within
      (λ here.
      subst (λ u. mark_found theory old after p u ≡ mark_at theory new p u) (sym here)
      (marks_here theory old new kept r turns settled before after compared swept turned visits.settles p keeps))
      (λ early. ap (λ o. unwrap_or o (mark_at theory old p t)) (visits.settles.elsewhere p t (apart t early)) ∙ swept.marks p t keeps early)

  -- activity
  active_here : (effect : Effect) → IsMember (entries_at theory new (r +ℤ pos 1)) effect → after.active effect ≡ is_active (is_current theory new) effect
  unfolding kept_events events_only_in
  active_here effect member =
      ⊎_elim
      (λ both.
      kept_active theory old new kept r seen before after compared swept visits.looks effect
      (subst (λ events. IsMember (entries_at theory events (r +ℤ pos 1)) effect) (kept_events-both new old compared.new_history compared.old_history) both))
      (λ single. added_active theory old new kept r seen before after compared swept visits.looks effect single)
      (IsMember-entries_cases theory (has_event old) new (r +ℤ pos 1) effect member)

  active : (effect : Effect) (t : ℤ) → t ≤ℤ (r +ℤ pos 1) → Contains (entries_at theory new t) effect → after.active effect ≡ is_active (is_current theory new) effect
  active effect t within contained =
      let rank = rank-entries_at theory new t effect (IsMember-from_contains (entries_at theory new t) effect contained) in
      up_to t within
      (λ here. active_here effect (IsMember-from_contains (entries_at theory new (r +ℤ pos 1)) effect (subst (λ u. Contains (entries_at theory new u) effect) here contained)))
      (λ early. visits.looks.elsewhere effect (λ same. apart t early (sym rank ∙ same)) ∙ swept.active effect t early contained)

  not_yet : (effect : Effect) (t : ℤ) → (r +ℤ pos 1) <ℤ t → Contains (entries_at theory old t) effect → after.active effect ≡ is_active (is_current theory old) effect
  not_yet effect t behind contained =
      let rank = rank-entries_at theory old t effect (IsMember-from_contains (entries_at theory old t) effect contained) in
      visits.looks.elsewhere effect (λ same. beyond t behind (sym rank ∙ same)) ∙ swept.not_yet effect t (omega (arith, ints)) contained

  -- what matters
  inert : (p : Ground) (t : ℤ) → IsTrue (kept p) → t ≤ℤ (r +ℤ pos 1) → IsFalse (after.matters p)
      → (mark_at theory old p t ≡ mark_at theory new p t) ⊎ IsInert theory old new p t
  inert p t keeps within unmattered =
      up_to t within
      (λ here.
      subst (λ u. (mark_at theory old p u ≡ mark_at theory new p u) ⊎ IsInert theory old new p u) (sym here)
      (inert_here theory old new kept r turns settled before after compared swept turned visits.settles p keeps unmattered))
      (λ early. swept.inert p t keeps early (mattered theory old new kept r turns settled before after compared swept turned visits.settles p unmattered))

  -- what is due
  due : (p : Ground) (u : ℤ) → IsTrue (is_some (after.dirty p)) → (r +ℤ pos 1) <ℤ u → IsTrue (bears_on theory old p u) → IsDueBy after.agenda p (r +ℤ pos 1) u
  due p u dirty behind bears =
      ⊎_elim
      (λ is. (visits.settles.each p is).due u dirty behind bears)
      (λ left.
      let was : IsTrue (is_some (before.dirty p)) = sym (ap is_some (visits.settles.others p left).dirty) ∙ dirty in
      let found = swept.due p u was (omega (arith, ints)) bears in
      let later = found.after in
      by_lt_z (r +ℤ pos 1) found.time
      (λ after_it. record { time = found.time; after = after_it; by = found.by; due = visits.settles.still_due p found.time after_it found.due })
      (λ within.
      let here : found.time ≡ r +ℤ pos 1 = omega (arith, ints) in
      absurd (false≢true (sym left ∙ visits.settles.due p was (subst (λ t. IsTrue (before.agenda t p)) here found.due)))))
      (cases_Bool (settled p))

  pub swept_visit : Swept theory old new kept (r +ℤ pos 1) after
  swept_visit = record {
    dirty = dirty_behind theory old new kept r turns settled before after compared swept turned visits.settles;
    marks = marks;
    none_planned = λ p t behind. visits.settles.elsewhere p t (beyond t behind) ∙ swept.none_planned p t (omega (arith, ints));
    active = active;
    not_yet = not_yet;
    inert = inert;
    seen = counted_seen theory old new kept r seen before after compared swept visits.looks;
    on = counted_on theory old new kept r seen before after compared swept visits.looks;
    off = counted_off theory old new kept r seen before after compared swept visits.looks;
    due = due;
    ahead = λ p t due. visits.settles.later p t due;
  }

-- the law
pub SweepVisits-law : SweepVisits
SweepVisits-law = swept_visit
