-- What the reading of an event file has come to, and how it goes on.
use Rattle.std.specs.Prelude.{◌≡◌, ◌≤◌, ℕ, ℤ, Bool, true, false, List, [], length, Result, Ok, Err, IsTrue, IsFalse}
use Rattle.ec_terms.specs.declared.theory.Theory.{Theory}
use Rattle.ec_axioms.specs.declared.event.Cut.{Cut}
use Rattle.ec_axioms.specs.declared.event.Cut.TheVariants.{Duplicate, Unknown, FullEvents, FullMentions, FullLinks}
use Rattle.ec_axioms.specs.Calculus.{PlainEvent}
use Rattle.ec_axioms.specs.Changes.{has_id, is_history}
use Rattle.ec_axioms.specs.Links.{mentions_of, most_mentions}
use Rattle.ec_parts.specs.StandFor.{StandForBoth, view_of}
use Rattle.ec_cert.specs.EventFile.{PlacedName, within_limits}
use Rattle.ec_cert.specs.declared.event_fault.EventName.{EventName}
use Rattle.ec_cert.specs.declared.event_fault.EventFault.{EventFault}
use Rattle.ec_cert.specs.declared.event_fault.EventFault.TheVariants.{At, Memory}
use Rattle.ec_cert.specs.declared.limits.Limits.{Limits}
use Rattle.ec_cert.specs.declared.limits.Limits.TheVariants.{OfEvents, All}

-- ---- the limits that are kept

-- the theory
abbrev pub theory_under : {T M I X : Type 0} → Limits T M I X → Theory
theory_under (OfEvents rules) = rules
theory_under (All parts tally) = parts.value.checked

-- whether mentions and links are counted
abbrev pub keeps_all : {T M I X : Type 0} → Limits T M I X → Bool
keeps_all (OfEvents rules) = false
keeps_all (All parts tally) = true

-- Where mentions and links are counted, the tables are those of a history, which has no more mentions than there may be.
abbrev pub AreLimitsOf : {T M I X : Type 0} → (T → ℤ) → List PlainEvent → Limits T M I X → Type 0
AreLimitsOf rank events (OfEvents rules) = Unit {0}
AreLimitsOf rank events (All parts tally) =
    StandForBoth rank parts.value.checked [] events (view_of parts.value) tally × (length (mentions_of parts.value.checked events) ≤ most_mentions)

-- an event may come into a history, whose limits these are
pub record MayBeLetIn {T M I X : Type 0} (rank : T → ℤ) (event : PlainEvent) (limits : Limits T M I X) : Type 0 where
  pub events : List PlainEvent
  pub history : IsTrue (is_history events)
  pub absent : IsFalse (has_id event.id events)
  pub limits_of : AreLimitsOf rank events limits

-- a limit on mentions or links is what an event is refused for
abbrev pub is_limit : Cut → Bool
is_limit (Duplicate id) = false
is_limit (Unknown id) = false
is_limit FullEvents = false
is_limit FullMentions = true
is_limit FullLinks = true

-- ---- lines

-- a fault that tells the refusal of a line with this number, or that memory ran out
abbrev pub IsRefusal : ℕ → Result (List PlainEvent) EventName → EventFault → Type 0
IsRefusal number made (At line name) = (line ≡ number) × (made ≡ Err name)
IsRefusal number made Memory = Unit {0}

-- the limits that are kept let a list of events in, and are its limits then; or a line with this number is refused
abbrev pub IsLetInOrNot : {T M I X : Type 0} → (T → ℤ) → ℕ → Limits T M I X → List PlainEvent → Result (Limits T M I X) EventFault → Type 0
IsLetInOrNot rank number before events (Ok after) =
    (within_limits (theory_under before) (keeps_all before) events ≡ Ok events) × AreLimitsOf rank events after
    × (theory_under after ≡ theory_under before) × (keeps_all after ≡ keeps_all before)
IsLetInOrNot rank number before events (Err fault) = IsRefusal number (within_limits (theory_under before) (keeps_all before) events) fault

-- the theory, whether all limits are kept, and the events so far
pub record EventsSoFar : Type 0 where
  pub theory : Theory
  pub all : Bool
  pub events : List PlainEvent

-- a reading goes on to a list, or tells the refusal of a line with this number
abbrev pub GoesOn : ℕ → EventsSoFar → Result (List PlainEvent) EventName → Result EventsSoFar EventFault → Type 0
GoesOn number before made (Ok after) = (made ≡ Ok after.events) × (after ≡ record before { events = after.events })
GoesOn number before made (Err fault) = IsRefusal number made fault

-- a reading has come to the end of its lines, or tells the first that is refused
abbrev pub IsFileFault : Result (List PlainEvent) PlacedName → EventFault → Type 0
IsFileFault made (At line name) = made ≡ Err (line, name)
IsFileFault made Memory = Unit {0}

abbrev pub HasRead : EventsSoFar → Result (List PlainEvent) PlacedName → Result EventsSoFar EventFault → Type 0
HasRead before made (Ok after) = (made ≡ Ok after.events) × (after ≡ record before { events = after.events })
HasRead before made (Err fault) = IsFileFault made fault
