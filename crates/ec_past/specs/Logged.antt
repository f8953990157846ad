-- How the records that a program keeps look to the calculus, and which of them an identity was last in.
use Rattle.std.specs.Prelude.{ℕ, ℤ, if◌then◌else◌, List, [], ◌∷◌, map, Option, Some, None, bytes_eq}
use Rattle.ec_axioms.specs.Calculus.{PlainEvent}
use Rattle.ec_axioms.specs.Events.{event_of}
use Rattle.ec_past.specs.Records.{PlainRecord, added, event_in, removed}
use Rattle.ec_past.specs.declared.log_record.LogRecord.{LogRecord}
use Rattle.ec_past.specs.declared.log_record.LogRecord.TheVariants.{Added, Removed}

-- a record, with its event's time as a whole number
abbrev pub plain_record : {T : Type 0} → (T → ℤ) → LogRecord T → PlainRecord
plain_record rank (Added e) = added (event_of rank e)
plain_record rank (Removed e) = removed (event_of rank e)

-- several records
abbrev pub plain_records : {T : Type 0} → (T → ℤ) → List (LogRecord T) → List PlainRecord
plain_records rank records = map (plain_record rank) records

-- the one record, or another where there is none
abbrev pub or_else : {X : Type 0} → Option X → Option X → Option X
or_else (Some x) other = Some x
or_else None other = other

-- the last record of an event with the identity, if there is one
abbrev pub last_with : List ℕ → List PlainRecord → Option PlainRecord
last_with id [] = None
last_with id (first ∷ records) = or_else (last_with id records) (if bytes_eq (event_in first).id id then Some first else None)

-- what a record leaves of its identity: the event that it added, or none
abbrev pub left_by : PlainRecord → Option PlainEvent
left_by (added e) = Some e
left_by (removed e) = None

-- the event of an identity after some records: what the last of them left, or what was there before all of them
abbrev pub found_after : Option PlainRecord → Option PlainEvent → Option PlainEvent
found_after (Some last) before = left_by last
found_after None before = before
