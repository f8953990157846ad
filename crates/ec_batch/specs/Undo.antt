-- How the tables go back from the list that a walk came to, to the list of the store: first the events that stand under a
-- touched identity are taken out, then those that stood there are put back.
use Rattle.std.specs.Prelude.{◌≡◌, ◌≤◌, ℕ, ℤ, Bool, not, List, filter, length, Option, Some, None, IfSome, IsTrue, bytes_eq}
use Rattle.std.specs.List.{list_any}
use Rattle.ec_terms.specs.declared.ids.Slot.{Slot}
use Rattle.ec_terms.specs.declared.theory.Theory.{Theory}
use Rattle.ec_terms.specs.Domain.{entries_of}
use Rattle.ec_axioms.specs.Calculus.{PlainEvent}
use Rattle.ec_axioms.specs.Changes.{is_history, with_event, without_event}
use Rattle.ec_axioms.specs.Links.{mentions_of, most_mentions}
use Rattle.ec_context.specs.Entries.{shown_entries}
use Rattle.ec_store.specs.Store.{history_of, slot_of}
use Rattle.ec_parts.specs.declared.tally.Tally.{Tally}
use Rattle.ec_parts.specs.StandFor.{View, StandForBoth}
use Rattle.ec_batch.specs.declared.net.Net.{Net}
use Rattle.ec_batch.specs.Walk.{IsNetTo, added_event}
use Rattle.ec_changes.specs.Found.{event_with}

-- an identity is among these
abbrev pub is_touched : {N : Type 0} → List ℕ → List (List ℕ × N) → Bool
is_touched id touched = list_any (λ entry. bytes_eq id entry.0) touched

-- the events of all other identities
abbrev pub untouched : {N : Type 0} → List (List ℕ × N) → List PlainEvent → List PlainEvent
untouched touched events = filter (λ e. not (is_touched e.id touched)) events

-- ---- what stands under an identity goes

-- the tables are of a history in which this stands under an identity
pub record IsReleasable {T : Type 0} (rank : T → ℤ) (theory : Theory) (view : View T) (tally : Tally) (net : Net T) (now soon : List PlainEvent) (id : List ℕ) : Type 0 where
  pub both : StandForBoth rank theory now soon view tally
  pub history : IsTrue (is_history soon)
  pub new : added_event rank net.new ≡ event_with id soon
  pub entries : IfSome net.new (λ added. shown_entries view.table added.entries ≡ Some (entries_of theory added.event.term))

-- of some such history
pub record MayRelease {T : Type 0} (rank : T → ℤ) (theory : Theory) (view : View T) (tally : Tally) (net : Net T) : Type 0 where
  pub now : List PlainEvent
  pub soon : List PlainEvent
  pub id : List ℕ
  pub releasable : IsReleasable rank theory view tally net now soon id

-- they become those of the history without it
abbrev pub Releases : {T : Type 0} → (T → ℤ) → Theory → Net T → View T → Tally → View T → Tally → Type 0
Releases rank theory net before old after new =
    (now soon : List PlainEvent) (id : List ℕ) → IsReleasable rank theory before old net now soon id → StandForBoth rank theory now (without_event id soon) after new

-- ---- what stood there comes back

-- the list with an event, if there is one
abbrev pub put_back : Option PlainEvent → List PlainEvent → List PlainEvent
put_back None events = events
put_back (Some e) events = with_event e events

-- the tables are of a history without an identity, and what the store has under it, in this slot, may come in
pub record IsRestorable {T : Type 0} (rank : T → ℤ) (theory : Theory) (view : View T) (tally : Tally) (slot : Option Slot) (soon : List PlainEvent) (id : List ℕ) : Type 0 where
  pub both : StandForBoth rank theory (history_of rank view.store.events) soon view tally
  pub old : slot ≡ slot_of id view.store.events
  pub few : length (mentions_of theory (put_back (event_with id (history_of rank view.store.events)) soon)) ≤ most_mentions

-- of some such history
pub record MayRestore {T : Type 0} (rank : T → ℤ) (theory : Theory) (view : View T) (tally : Tally) (slot : Option Slot) : Type 0 where
  pub soon : List PlainEvent
  pub id : List ℕ
  pub restorable : IsRestorable rank theory view tally slot soon id

-- they become those of the history with it
abbrev pub Restores : {T : Type 0} → (T → ℤ) → Theory → Option Slot → View T → Tally → View T → Tally → Type 0
Restores rank theory slot before old after new =
    (soon : List PlainEvent) (id : List ℕ) → IsRestorable rank theory before old slot soon id
    → StandForBoth rank theory (history_of rank before.store.events) (put_back (event_with id (history_of rank before.store.events)) soon) after new

-- ---- from end to end

-- The parts stand for the list of the store and for a history, and these nets say what is between the two.
pub record LeadTo {T : Type 0} (rank : T → ℤ) (theory : Theory) (view : View T) (tally : Tally) (nets : List ℕ → Option (Net T)) (soon : List PlainEvent) : Type 0 where
  pub both : StandForBoth rank theory (history_of rank view.store.events) soon view tally
  pub history : IsTrue (is_history soon)
  pub net_to : IsNetTo rank theory view.table view.store.events soon nets

-- to some history
pub record LeadSomewhere {T : Type 0} (rank : T → ℤ) (theory : Theory) (view : View T) (tally : Tally) (nets : List ℕ → Option (Net T)) : Type 0 where
  pub soon : List PlainEvent
  pub to : LeadTo rank theory view tally nets soon

-- The tables are those of the events of the store that are not touched, and each touched identity has its slot there.
pub record IsHalfway {T : Type 0} (rank : T → ℤ) (theory : Theory) (view : View T) (tally : Tally) (nets : List ℕ → Option (Net T)) (entries : List (List ℕ × Net T)) : Type 0 where
  pub both : StandForBoth rank theory (history_of rank view.store.events) (untouched entries (history_of rank view.store.events)) view tally
  pub old : (id : List ℕ) (n : Net T) → nets id ≡ Some n → n.old ≡ slot_of id view.store.events
