-- A walk over the events that a store keeps: from one to the next, and to the end.
use Rattle.std.proofs.Common.{◌≡◌, ℕ, suc, ◌+◌, ◌<◌, ◌≤◌, ℤ, true, List, [], ◌∷◌, ◌++◌, length, take, drop, Option, Some, None, option_map, refl, sym, ap, ◌∙◌, inl, inr, arith}
use Rattle.std.specs.Prelude.{int_le, slice_get}
use Rattle.std.specs.List.{list_all, list_any}
use Rattle.std.specs.Ordering.{int_eq}
use Rattle.std.proofs.lemmas.Bool.{false≢true, or_left}
use Rattle.std.proofs.lemmas.List.{drop_all, length-map, take_all, take_more}
use Rattle.std.proofs.lemmas.Option.{get_or_from_slice_get, same_Some, slice_get_within}
use Rattle.ec_lists.proofs.Fronts.{drop-slice_get}
use Rattle.ec_lists.proofs.Integers.{int_eq-same, int_lt-same}
use Rattle.ec_lists.proofs.Options.{None-from_option_map}
use Rattle.ec_lists.proofs.Places.{slice_get-map_at, slice_get-none}
use Rattle.ec_terms.specs.declared.ids.Slot.{Slot}
use Rattle.ec_axioms.specs.declared.event.Event.{Event}
use Rattle.ec_axioms.specs.Calculus.{PlainEvent}
use Rattle.ec_axioms.specs.Changes.{is_history}
use Rattle.ec_axioms.specs.Events.{event_of}
use Rattle.ec_store.specs.Store.{Kept, event_at, history_of, plain_of}
use Rattle.ec_pass.specs.Passing.{IsComing}
use Rattle.ec_pass.proofs.PassingLemmas.{not-behind}

-- the event at a place, with what is behind it and what is done with it
pub record IsNextEvent {T : Type 0} (rank : T → ℤ) (kept : List (Kept T)) (i : ℕ) (e : PlainEvent) (next : ℕ) : Type 0 where
  pub within : i < length kept
  pub behind : next ≡ i + 1
  pub left : drop i (history_of rank kept) ≡ e ∷ drop next (history_of rank kept)
  pub done : take next (history_of rank kept) ≡ take i (history_of rank kept) ++ e ∷ []

module _ {T : Type 0} (rank : T → ℤ) (kept : List (Kept T)) (i : ℕ) where
  abbrev history : List PlainEvent
  history = history_of rank kept

  -- where a walk goes on behind an event
  abbrev next_place : Kept T → Slot × ℕ
  next_place k = (k.0, i + 1)

  pub next_event : (slot : Slot) (next : ℕ) (event : Event T) → Some (slot, next) ≡ option_map next_place (slice_get kept i)
      → event_at slot kept ≡ option_map (λ (k : Kept T). k.1) (slice_get kept i) → event_at slot kept ≡ Some event → IsNextEvent rank kept i (event_of rank event) next
  next_event slot next event is named read = of (slice_get kept i) refl is named
    where
      of : (o : Option (Kept T)) → slice_get kept i ≡ o → Some (slot, next) ≡ option_map next_place o → event_at slot kept ≡ option_map (λ (k : Kept T). k.1) o
          → IsNextEvent rank kept i (event_of rank event) next
      of None there is named = absurd (let none = is in cc)
      of (Some k) there is named =
          let pair : Slot × ℕ = (slot, next) in
          let behind : next ≡ i + 1 = ap (λ (x : Slot × ℕ). x.1) (same_Some pair (next_place k) is) in
          let own : k.1 ≡ event = same_Some k.1 event (sym named ∙ read) in
          let e : PlainEvent = event_of rank event in
          let at : slice_get history i ≡ Some e = slice_get-map_at (plain_of rank) kept i k there ∙ ap (λ (x : Event T). Some (event_of rank x)) own in
          let one_more : suc i ≡ next = omega (arith, behind) in
          record {
            within = slice_get_within kept i k there;
            behind = behind;
            left = drop-slice_get history i e at ∙ ap (λ n. e ∷ drop n history) one_more;
            done = ap (λ n. take n history) behind ∙ take_more history i e (slice_get_within history i e at)
                ∙ ap (λ x. take i history ++ x ∷ []) (get_or_from_slice_get history i e e at);
          }

  -- at the end all are done
  pub walk_ended : (result : Option (Slot × ℕ)) → result ≡ None → result ≡ option_map next_place (slice_get kept i) → (take i history ≡ history) × (drop i history ≡ [])
  walk_ended result none is =
      let past : length kept ≤ i = slice_get-none kept i (None-from_option_map next_place (slice_get kept i) (sym is ∙ none)) in
      let all : length history ≤ i = omega (arith, past, length-map kept (plain_of rank)) in
      (take_all i history all, drop_all i history all)

-- ---- the first instant

-- a history begins at the time of its first event
pub IsComing-first : (events left : List PlainEvent) (e : PlainEvent) (asked : ℤ) → events ≡ e ∷ left → is_history events ≡ true → IsComing events events asked e.rank e.rank
IsComing-first events left e asked is history = record {
  behind = ap (list_all (λ (f : PlainEvent). int_le e.rank f.rank)) is ∙ not-behind e left (ap is_history (sym is) ∙ history);
  leaves = λ before. absurd (false≢true (sym (int_lt-same e.rank) ∙ before));
  place = inl (ap (list_any (λ (f : PlainEvent). int_eq f.rank e.rank)) is ∙ or_left _ _ (int_eq-same e.rank));
}

-- one of no events begins at any time
pub IsComing-none : (events : List PlainEvent) (asked : ℤ) → events ≡ [] → IsComing events events asked asked asked
IsComing-none events asked none = record {
  behind = ap (list_all (λ (f : PlainEvent). int_le asked f.rank)) none;
  leaves = λ before. absurd (false≢true (sym (int_lt-same asked) ∙ before));
  place = inr (none, int_lt-same asked);
}
