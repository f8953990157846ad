-- What a walk through a batch of updates keeps: the list that the updates so far leave is that of the store, but for the
-- identities that they touched; the tables are those of that list already, the caches still those of the store.
use Rattle.std.specs.Prelude.{◌≡◌, ℕ, ℤ, List, length, Option, Some, None, option_map, Result, Ok, Err, IfSome, IsTrue, MatchResult, Bool, ◌||◌}
use Rattle.ec_terms.specs.declared.ground.Ground.{Ground}
use Rattle.ec_terms.specs.declared.theory.Theory.{Theory}
use Rattle.ec_terms.specs.Domain.{entries_of}
use Rattle.ec_axioms.specs.Calculus.{PlainEvent}
use Rattle.ec_axioms.specs.Changes.{is_history, PlainUpdate}
use Rattle.ec_axioms.specs.Events.{event_of}
use Rattle.ec_axioms.specs.Links.{is_live}
use Rattle.ec_changes.specs.Found.{event_with}
use Rattle.ec_context.specs.Entries.{shown_entries}
use Rattle.ec_store.specs.Store.{Kept, history_of, slot_of}
use Rattle.ec_numbered.specs.PropSet.{has_number}
use Rattle.ec_parts.specs.Adoption.{HasFewMentions}
use Rattle.ec_parts.specs.declared.tally.Tally.{Tally}
use Rattle.ec_parts.specs.StandFor.{View, StandForBoth}
use Rattle.ec_store.specs.Table.{KeptProp, term_at}
use Rattle.ec_batch.specs.declared.net.Net.{Net}
use Rattle.ec_batch.specs.declared.net.Added.{Added}
use Rattle.ec_batch.specs.declared.walk.Walk.{Walk}
use Rattle.ec_batch.specs.declared.walk.Stop.{Stop}
use Rattle.ec_batch.specs.declared.walk.Stop.TheVariants.{Refused, Memory}
use Rattle.ec_batch.specs.Limits.{IsWithinLimits}
use Rattle.ec_batch.specs.Net.{net_in}
use Rattle.ec_replies.specs.Runs.{may_want_by}
use Rattle.ec_replies.specs.Updates.{updated}

-- the event that a walk put under an identity
abbrev pub added_event : {T : Type 0} → (T → ℤ) → Option (Added T) → Option PlainEvent
added_event rank added = option_map (λ a. event_of rank a.event) added

-- What is kept under a touched identity: the slot of the event that had it, and the event that has it now, with its entries.
pub record IsNet {T : Type 0} (rank : T → ℤ) (theory : Theory) (table : List KeptProp) (events : List (Kept T)) (soon : List PlainEvent) (id : List ℕ) (net : Net T) : Type 0 where
  pub old : net.old ≡ slot_of id events
  pub new : added_event rank net.new ≡ event_with id soon
  pub entries : IfSome net.new (λ added. shown_entries table added.entries ≡ Some (entries_of theory added.event.term))

-- The list to come is that of the store, but for the identities that are touched.
pub record IsNetTo {T : Type 0} (rank : T → ℤ) (theory : Theory) (table : List KeptProp) (events : List (Kept T)) (soon : List PlainEvent) (net : List ℕ → Option (Net T)) : Type 0 where
  pub untouched : (id : List ℕ) → net id ≡ None → event_with id soon ≡ event_with id (history_of rank events)
  pub touched : (id : List ℕ) (n : Net T) → net id ≡ Some n → IsNet rank theory table events soon id n

-- each kept property is live in the list, or its number stands among these
abbrev pub AreLiveOrListed : Theory → List PlainEvent → List KeptProp → (ℕ → Bool) → Type 0
AreLiveOrListed theory events table listed = (id : ℕ) (p : Ground) → term_at id table ≡ Some p → IsTrue (is_live theory events p || listed id)

-- A walk has come from the events of a store to a list: the parts stand for both, and the walk knows what is between them.
pub record HasWalkedTo {T : Type 0} (rank : T → ℤ) (theory : Theory) (events : List (Kept T)) (soon : List PlainEvent) (view : View T) (tally : Tally) (walk : Walk T) : Type 0 where
  pub stored : view.store.events ≡ events
  pub both : StandForBoth rank theory (history_of rank events) soon view tally
  pub history : IsTrue (is_history soon)
  pub within : IsWithinLimits theory soon
  pub few_now : HasFewMentions theory (history_of rank events)
  pub nets : IsNetTo rank theory view.table events soon (λ id. net_in id walk.nets)
  pub count : walk.events ≡ length soon
  pub fresh : AreLiveOrListed theory (history_of rank events) view.table (λ id. has_number id walk.fresh.items)
  pub idle : AreLiveOrListed theory soon view.table (λ id. has_number id walk.fresh.items || has_number id walk.dying.items)

-- there is a list to which a walk has come from the events of the store
pub record HasWalked {T : Type 0} (rank : T → ℤ) (theory : Theory) (view : View T) (tally : Tally) (walk : Walk T) : Type 0 where
  pub soon : List PlainEvent
  pub to : HasWalkedTo rank theory view.store.events soon view tally walk

-- How a walk goes on from a list by an update: to the list after it; or the update is refused, or memory ran out, as it never
-- does where another refusal is always told, and the walk stays at the list.
abbrev pub GoesOn : {T A : Type 0} → (T → ℤ) → Theory → List (Kept T) → List PlainEvent → PlainUpdate → View T → Tally → Walk T → Result A Stop → Type 0
GoesOn rank theory events soon update view tally walk (Ok done) = MatchResult (updated theory soon update) (λ after. HasWalkedTo rank theory events after view tally walk) (λ cut. ⊥)
GoesOn rank theory events soon update view tally walk (Err (Refused cut)) = (updated theory soon update ≡ Err cut) × HasWalkedTo rank theory events soon view tally walk
GoesOn rank theory events soon update view tally walk (Err (Memory none)) = IsTrue (may_want_by (updated theory soon update)) × HasWalkedTo rank theory events soon view tally walk
