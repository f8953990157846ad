-- What it is for one event to come into the tables of the list of a store, or to be turned away.
use Rattle.std.specs.Prelude.{◌≡◌, ◌≤◌, ℤ, List, [], ◌∷◌, length, Some, Result, Ok, Err, IsTrue, IsFalse}
use Rattle.ec_terms.specs.declared.ids.PropId.{PropId}
use Rattle.ec_terms.specs.declared.theory.Theory.{Theory}
use Rattle.ec_terms.specs.Domain.{entries_of}
use Rattle.ec_axioms.specs.Calculus.{PlainEvent}
use Rattle.ec_axioms.specs.Changes.{asserting, has_id, is_history, with_event}
use Rattle.ec_axioms.specs.Links.{mentions_of, most_mentions}
use Rattle.ec_context.specs.declared.entry.Entry.{Entry}
use Rattle.ec_context.specs.Entries.{shown_entries}
use Rattle.ec_store.specs.Store.{Kept, history_of}
use Rattle.ec_numbered.specs.PropSet.{has_number}
use Rattle.ec_parts.specs.Adoption.{HasFewMentions}
use Rattle.ec_parts.specs.declared.tally.Tally.{Tally}
use Rattle.ec_parts.specs.StandFor.{StandFor, StandForBoth, View}
use Rattle.ec_replies.specs.Runs.{batch_may_want_memory}
use Rattle.ec_replies.specs.Updates.{updated_by, with_few_mentions}
use Rattle.ec_batch.specs.declared.refusal.Refusal.{Refusal}
use Rattle.ec_batch.specs.declared.refusal.Refusal.TheVariants.{Update, Memory}
use Rattle.ec_batch.specs.declared.walk.Stop.{Stop}
use Rattle.ec_batch.specs.declared.walk.Stop.TheVariants as stop
use Rattle.ec_batch.specs.Walk.{AreLiveOrListed}

-- An event that does not come in is refused as a batch of it is, or memory ran out, as it may; the parts stand for the list of
-- the store.
abbrev pub IsTurnedAway : {T : Type 0} → (T → ℤ) → Theory → List (Kept T) → PlainEvent → View T → Tally → Refusal → Type 0
IsTurnedAway rank theory events event view tally (Update place cut) =
    (updated_by theory (history_of rank events) (asserting event ∷ []) ≡ Err (place, cut)) × StandFor rank theory (history_of rank events) view tally
IsTurnedAway rank theory events event view tally (Memory none) =
    IsTrue (batch_may_want_memory theory (history_of rank events) (asserting event ∷ [])) × StandFor rank theory (history_of rank events) view tally

-- An event has come into the tables with its entries, within the limits on mentions and links; the new properties are listed.
pub record HasComeIn {T : Type 0} (rank : T → ℤ) (theory : Theory) (events : List (Kept T)) (event : PlainEvent) (view : View T) (tally : Tally) (fresh : List PropId) (list : List Entry) : Type 0 where
  pub both : StandForBoth rank theory (history_of rank events) (with_event event (history_of rank events)) view tally
  pub few : with_few_mentions theory (with_event event (history_of rank events)) ≡ Ok (with_event event (history_of rank events))
  pub shown : shown_entries view.table list ≡ Some (entries_of theory event.term)
  pub listed : AreLiveOrListed theory (history_of rank events) view.table (λ id. has_number id fresh)

-- what comes of letting an event into the tables
abbrev pub IsLet : {T : Type 0} → (T → ℤ) → Theory → List (Kept T) → PlainEvent → View T → Tally → List PropId → Result (List Entry) Refusal → Type 0
IsLet rank theory events event view tally fresh (Ok list) = HasComeIn rank theory events event view tally fresh list
IsLet rank theory events event view tally fresh (Err refusal) = IsTurnedAway rank theory events event view tally refusal

-- ---- tables that are ahead of the store

-- The parts stand for two lists, and an event whose identity is absent is to come into the second, a history with no more
-- mentions than there may be.
pub record IsAhead {T : Type 0} (rank : T → ℤ) (theory : Theory) (event : PlainEvent) (view : View T) (tally : Tally) (now soon : List PlainEvent) : Type 0 where
  pub both : StandForBoth rank theory now soon view tally
  pub few_now : HasFewMentions theory now
  pub history : IsTrue (is_history soon)
  pub few : length (mentions_of theory soon) ≤ most_mentions
  pub absent : IsFalse (has_id event.id soon)

-- an event may come into the second of some two lists
pub record IsAheadOfSome {T : Type 0} (rank : T → ℤ) (theory : Theory) (event : PlainEvent) (view : View T) (tally : Tally) : Type 0 where
  pub now : List PlainEvent
  pub soon : List PlainEvent
  pub ahead : IsAhead rank theory event view tally now soon

-- What comes of it: the parts stand for the second list with the event, or a limit refuses it, or memory ran out. Where the
-- event does not come in nothing is said of the parts.
abbrev pub HasComeAhead : {T A : Type 0} → (T → ℤ) → Theory → List PlainEvent → List PlainEvent → PlainEvent → View T → Tally → Result A Stop → Type 0
HasComeAhead rank theory now soon event view tally (Ok done) =
    (with_few_mentions theory (with_event event soon) ≡ Ok (with_event event soon)) × StandForBoth rank theory now (with_event event soon) view tally
HasComeAhead rank theory now soon event view tally (Err (stop.Refused cut)) = with_few_mentions theory (with_event event soon) ≡ Err cut
HasComeAhead rank theory now soon event view tally (Err (stop.Memory none)) = Unit {0}
