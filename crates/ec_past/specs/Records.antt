-- The records of a journal: each is a single update as it was made, with its event, so that it can be made again and taken back.
use Rattle.std.specs.Prelude.{◌≡◌, ◌≢◌, Option, None, List, [], ◌∷◌, ◌++◌, map, Some, Ok}
use Rattle.ec_terms.specs.declared.theory.Theory.{Theory}
use Rattle.ec_axioms.specs.Calculus.{PlainEvent}
use Rattle.ec_axioms.specs.Changes.{PlainUpdate, asserting, retracting, with_event, without_event}
use Rattle.ec_changes.specs.Found.{event_with}
use Rattle.ec_replies.specs.Updates.{updated}

-- a single update as it was made, with the event that it added or removed
pub data PlainRecord : Type 0 where
  added : PlainEvent → PlainRecord
  removed : PlainEvent → PlainRecord

-- the event of a record
abbrev pub event_in : PlainRecord → PlainEvent
event_in (added e) = e
event_in (removed e) = e

-- the update that makes it again
abbrev pub redo_of : PlainRecord → PlainUpdate
redo_of (added e) = asserting e
redo_of (removed e) = retracting e.id

-- the update that takes it back
abbrev pub undo_of : PlainRecord → PlainUpdate
undo_of (added e) = retracting e.id
undo_of (removed e) = asserting e

-- the updates that take records back, the latest first
abbrev pub undos_of : List PlainRecord → List PlainUpdate
undos_of [] = []
undos_of (first ∷ records) = undos_of records ++ undo_of first ∷ []

-- the list after a single update, from that before it
abbrev pub redone_one : PlainRecord → List PlainEvent → List PlainEvent
redone_one (added e) before = with_event e before
redone_one (removed e) before = without_event e.id before

-- the list before a single update, from that after it
abbrev pub undone_one : PlainRecord → List PlainEvent → List PlainEvent
undone_one (added e) after = without_event e.id after
undone_one (removed e) after = with_event e after

-- the list after records, from that before them
abbrev pub redone : List PlainRecord → List PlainEvent → List PlainEvent
redone [] before = before
redone (first ∷ records) before = redone records (redone_one first before)

-- the list before records, from that after them
abbrev pub undone : List PlainRecord → List PlainEvent → List PlainEvent
undone [] after = after
undone (first ∷ records) after = undone_one first (undone records after)

-- the event that the update removed is the one that was there
abbrev pub WasThere : PlainRecord → List PlainEvent → Type 0
WasThere (added e) before = Unit {0}
WasThere (removed e) before = event_with e.id before ≡ Some e

-- an update that was made on a list
pub record IsMade (theory : Theory) (before : List PlainEvent) (made : PlainRecord) : Type 0 where
  pub accepted : updated theory before (redo_of made) ≡ Ok (redone_one made before)
  pub there : WasThere made before

-- updates that were made on a list, one behind the other
abbrev pub AreMade : Theory → List PlainEvent → List PlainRecord → Type 0
AreMade theory before [] = Unit {0}
AreMade theory before (made ∷ records) = IsMade theory before made × AreMade theory (redone_one made before) records

-- what is recorded of an update that is about to be made on a list, which is nothing where it is refused
abbrev pub IsRecordOf : Theory → List PlainEvent → PlainUpdate → Option PlainRecord → Type 0
IsRecordOf theory before update (Some found) = ((after : List PlainEvent) → updated theory before update ≡ Ok after → IsMade theory before found) × (redo_of found ≡ update)
IsRecordOf theory before update None = (after : List PlainEvent) → updated theory before update ≢ Ok after

-- the records of some updates
pub record AreRecordsOf (theory : Theory) (before : List PlainEvent) (updates : List PlainUpdate) (records : List PlainRecord) : Type 0 where
  pub made : AreMade theory before records
  pub redo : map redo_of records ≡ updates
