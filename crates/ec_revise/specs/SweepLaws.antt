-- The laws of a sweep, as statements: how it starts, passes quiet instants, visits an instant, and ends.
use Rattle.std.specs.Prelude.{Contains, ◌≡◌, ◌↔◌, Bool, List, [], ℤ, pos, ◌+ℤ◌, ◌<ℤ◌, ◌≤ℤ◌, None, is_some, IsTrue, IsFalse}
use Rattle.ec_terms.specs.declared.ground.Ground.{Ground}
use Rattle.ec_terms.specs.declared.theory.Theory.{Theory}
use Rattle.ec_axioms.specs.Plain.{events_at}
use Rattle.ec_axioms.specs.Calculus.{PlainEvent, Effect, is_active, is_current}
use Rattle.ec_axioms.specs.Marks.{mark_at}
use Rattle.ec_axioms.specs.Changes.{kept_events, change_counts}
use Rattle.ec_changes.specs.Differences.{entries_at, reads}
use Rattle.ec_changes.specs.QuietLaws.{DifferFrom, single_events}
use Rattle.ec_changes.specs.Turns.{sees}
use Rattle.ec_changes.specs.IntervalLaws.{KeepsIntervals}
use Rattle.ec_revise.specs.Sweep.{AreCompared, Found, Swept, mark_found}
use Rattle.ec_revise.specs.Visit.{AreTurnsAt, PlainTurn, Visits, mark_after}

-- ---- the start

-- nothing is found yet: no property is dirty or due, no mark is planned, entries are active as in the old list
pub record FoundNothing (theory : Theory) (old : List PlainEvent) (found : Found) : Type 0 where
  pub dirty : (p : Ground) → found.dirty p ≡ None
  pub planned : (p : Ground) (t : ℤ) → found.planned p t ≡ None
  pub active : (effect : Effect) (t : ℤ) → Contains (entries_at theory old t) effect → found.active effect ≡ is_active (is_current theory old) effect
  pub agenda : (p : Ground) (t : ℤ) → IsFalse (found.agenda t p)
  pub seen : found.seen ≡ 0
  pub on : found.on ≡ 0
  pub off : found.off ≡ 0

-- With nothing found, all is swept that comes before every event of one list alone.
abbrev pub SweepStarts : Type 0
SweepStarts =
    (theory : Theory) (old new : List PlainEvent) (kept : Ground → Bool) (r : ℤ) (found : Found) → AreCompared theory old new kept
    → DifferFrom (r +ℤ pos 1) old new → FoundNothing theory old found → Swept theory old new kept r found

-- ---- quiet instants

-- behind r, up to s and with it, no event stands in one list alone and nothing is due
pub record HasNoVisit (old new : List PlainEvent) (found : Found) (r s : ℤ) : Type 0 where
  pub same_events : (t : ℤ) → r <ℤ t → t ≤ℤ s → events_at t (single_events old new) ≡ []
  pub not_due : (p : Ground) (t : ℤ) → r <ℤ t → t ≤ℤ s → IsFalse (found.agenda t p)

-- A sweep passes over such instants with what it has found.
abbrev pub SweepPasses : Type 0
SweepPasses =
    (theory : Theory) (old new : List PlainEvent) (kept : Ground → Bool) (r s : ℤ) (found : Found) → AreCompared theory old new kept
    → Swept theory old new kept r found → r ≤ℤ s → HasNoVisit old new found r s → Swept theory old new kept s found

-- ---- a visit

-- An entry of a kept event at the next instant sees a change exactly when it reads a dirty property that is due there.
abbrev pub HitsAreSeen : Type 0
HitsAreSeen =
    (theory : Theory) (old new : List PlainEvent) (kept : Ground → Bool) (r : ℤ) (found : Found) (effect : Effect) → Swept theory old new kept r found
    → Contains (entries_at theory (kept_events old new) (r +ℤ pos 1)) effect
    → IsTrue (sees theory old new effect)
    ↔ ((p : Ground) × IsTrue (is_some (found.dirty p)) × IsTrue (found.agenda (r +ℤ pos 1) p) × IsTrue (reads p effect))

-- The turns at an instant make the new marks there of the old ones.
abbrev pub MarksAreAfterTurns : Type 0
MarksAreAfterTurns =
    (theory : Theory) (old new : List PlainEvent) (kept : Ground → Bool) (t : ℤ) (turns : List PlainTurn) (p : Ground) → AreCompared theory old new kept
    → AreTurnsAt theory old new t turns → mark_at theory new p t ≡ mark_after theory turns p (mark_at theory old p t)

-- A visit of the next instant sweeps it.
abbrev pub SweepVisits : Type 0
SweepVisits =
    (theory : Theory) (old new : List PlainEvent) (kept : Ground → Bool) (r : ℤ) (seen : List Effect) (settled : Ground → Bool) (before after : Found)
    → AreCompared theory old new kept → Swept theory old new kept r before → Visits theory old new kept (r +ℤ pos 1) seen settled before after
    → Swept theory old new kept (r +ℤ pos 1) after

-- ---- the end

-- All is found: the marks of kept properties and the activity of entries at every instant, the three counts, and which
-- properties keep their intervals.
pub record FoundAll (theory : Theory) (old new : List PlainEvent) (kept : Ground → Bool) (found : Found) : Type 0 where
  pub marks : (p : Ground) (t : ℤ) → IsTrue (kept p) → mark_found theory old found p t ≡ mark_at theory new p t
  pub active : (effect : Effect) (t : ℤ) → Contains (entries_at theory new t) effect → found.active effect ≡ is_active (is_current theory new) effect
  pub intervals : (p : Ground) → IsTrue (kept p) → IsFalse (found.matters p) → KeepsIntervals theory old new p
  pub seen : found.seen ≡ (change_counts theory old new).seen
  pub on : found.on ≡ (change_counts theory old new).on
  pub off : found.off ≡ (change_counts theory old new).off

-- Where nothing is left to visit, all is found.
abbrev pub SweepEnds : Type 0
SweepEnds =
    (theory : Theory) (old new : List PlainEvent) (kept : Ground → Bool) (r : ℤ) (found : Found) → AreCompared theory old new kept
    → Swept theory old new kept r found → ((s : ℤ) → HasNoVisit old new found r s) → FoundAll theory old new kept found
