-- What it is for an event to come into the tables under the limits on mentions and links.
use Rattle.std.specs.Prelude.{◌≡◌, ◌≤◌, ℤ, List, Some, Result, Ok, Err, length, IsTrue, IsFalse}
use Rattle.ec_terms.specs.declared.theory.Theory.{Theory}
use Rattle.ec_terms.specs.Domain.{entries_of}
use Rattle.ec_axioms.specs.declared.event.Cut.{Cut}
use Rattle.ec_axioms.specs.Calculus.{PlainEvent}
use Rattle.ec_axioms.specs.Changes.{has_id, is_history, with_event}
use Rattle.ec_axioms.specs.Links.{mentions_of, most_mentions}
use Rattle.ec_context.specs.declared.entry.Entry.{Entry}
use Rattle.ec_context.specs.Entries.{shown_entries}
use Rattle.ec_parts.specs.declared.tally.Tally.{Tally}
use Rattle.ec_parts.specs.StandFor.{View, StandForBoth}
use Rattle.ec_replies.specs.Updates.{with_few_mentions}

-- The parts stand for two lists, and an event of these entries, whose identity is absent, is to come into the second, a
-- history with no more mentions than there may be.
pub record ComesIn {T : Type 0} (rank : T → ℤ) (theory : Theory) (entries : List Entry) (view : View T) (tally : Tally) (now soon : List PlainEvent) (event : PlainEvent) : Type 0 where
  pub both : StandForBoth rank theory now soon view tally
  pub history : IsTrue (is_history soon)
  pub few : length (mentions_of theory soon) ≤ most_mentions
  pub absent : IsFalse (has_id event.id soon)
  pub shown : shown_entries view.table entries ≡ Some (entries_of theory event.term)

-- an event of these entries may come into some list
pub record MayComeIn {T : Type 0} (rank : T → ℤ) (theory : Theory) (entries : List Entry) (view : View T) (tally : Tally) : Type 0 where
  pub now : List PlainEvent
  pub soon : List PlainEvent
  pub event : PlainEvent
  pub comes : ComesIn rank theory entries view tally now soon event

-- what comes of it: the parts stand for the list with the event, or for the list without it where a limit refuses it
abbrev pub IsLetIn : {T A : Type 0} → (T → ℤ) → Theory → List PlainEvent → List PlainEvent → PlainEvent → View T → Tally → Result A Cut → Type 0
IsLetIn rank theory now soon event view tally (Ok done) =
    (with_few_mentions theory (with_event event soon) ≡ Ok (with_event event soon)) × StandForBoth rank theory now (with_event event soon) view tally
IsLetIn rank theory now soon event view tally (Err cut) = (with_few_mentions theory (with_event event soon) ≡ Err cut) × StandForBoth rank theory now soon view tally
