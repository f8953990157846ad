-- What a touched identity brings to the change between the list of a store and the list that a walk came to.
use Rattle.std.specs.Prelude.{ℕ, ◌+◌, ◌≤◌, ℤ, Bool, false, ◌&&◌, if◌then◌else◌, List, Option, Some, None, option_map}
use Rattle.std.specs.Option.{option_map_or}
use Rattle.std.specs.Ordering.{int_eq, is_lt}
use Rattle.std.specs.Vec.{vec_len, vec_capacity}
use Rattle.ec_terms.specs.declared.ids.Slot.{Slot}
use Rattle.ec_terms.specs.Term.{term_eq}
use Rattle.ec_axioms.specs.declared.event.Event.{Event}
use Rattle.ec_store.specs.Store.{Kept, event_at}
use Rattle.ec_revise.specs.declared.change.Removal.{Removal}
use Rattle.ec_rows.specs.Times.{place_cmp}
use Rattle.ec_batch.specs.declared.net.Added.{Added}
use Rattle.ec_batch.specs.declared.net.Net.{Net}
use Rattle.ec_batch.specs.declared.net_changes.Gathered.{Gathered}

-- the event that a store has under a slot, with the slot, if there is one
abbrev pub kept_in : {T : Type 0} → List (Kept T) → Option Slot → Option (Kept T)
kept_in events None = None
kept_in events (Some slot) = option_map (λ event. (slot, event)) (event_at slot events)

-- two events of one identity are the same record: they have the same time and the same term
abbrev pub is_same_record : {T : Type 0} → (T → ℤ) → Event T → Event T → Bool
is_same_record rank e f = int_eq (rank e.at) (rank f.at) && term_eq e.term f.term

-- what is put in under the identity of an event is that record
abbrev pub is_back : {T : Type 0} → (T → ℤ) → Event T → Option (Added T) → Bool
is_back rank event new = option_map_or (λ added. is_same_record rank event added.event) new false

-- what is put in under an identity is the record that stands there
abbrev pub stands_there : {T : Type 0} → (T → ℤ) → Option (Kept T) → Option (Added T) → Bool
stands_there rank kept new = option_map_or (λ k. is_back rank k.1 new) kept false

-- the removal of an event from its slot
abbrev pub removal_of : {T : Type 0} → Kept T → Removal T
removal_of kept = record { at = kept.1.at; slot = kept.0 }

-- what goes under an identity: the event that stands there, unless it is put back
abbrev pub going : {T : Type 0} → (T → ℤ) → List (Kept T) → Net T → Option (Removal T)
going rank events net = if stands_there rank (kept_in events net.old) net.new then None else option_map removal_of (kept_in events net.old)

-- what comes under an identity: the event that is put in, unless it stands there
abbrev pub coming : {T : Type 0} → (T → ℤ) → List (Kept T) → Net T → Option (Added T)
coming rank events net = if stands_there rank (kept_in events net.old) net.new then None else net.new

-- an event that comes is before another, in the order of a history
abbrev pub added_before : {T : Type 0} → (T → ℤ) → Added T → Added T → Bool
added_before rank a b = is_lt (place_cmp (rank a.event.at, a.event.id) (rank b.event.at, b.event.id))

-- the lists have room for so many more that go and that come
pub record HasRoom {T : Type 0} (n : ℕ) (gathered : Gathered T) : Type 0 where
  pub going : vec_len gathered.going + n ≤ vec_capacity gathered.going
  pub coming : vec_len gathered.coming + n ≤ vec_capacity gathered.coming
