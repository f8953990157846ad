-- A walk over the events that a store keeps: from one to the next, and over those at a time.
use Rattle.std.proofs.Common.{◌≡◌, ℕ, suc, ◌+◌, ◌-◌, ◌*◌, ◌<◌, ◌≤◌, ℤ, true, false, List, [], ◌∷◌, length, filter, drop, Option, Some, None, option_map, refl, sym, ap, ◌∙◌, arith}
use Rattle.std.specs.Prelude.{int_lt, slice_get}
use Rattle.std.specs.List.{list_all, drop-map}
use Rattle.std.specs.Ordering.{int_eq}
use Rattle.std.proofs.lemmas.Bool.{and_parts}
use Rattle.std.proofs.lemmas.List.{drop_all, length-map}
use Rattle.std.proofs.lemmas.Option.{same_Some, slice_get_within}
use Rattle.ec_lists.proofs.Filters.{filter-map, length-filter_le}
use Rattle.ec_lists.proofs.Fronts.{drop-slice_get}
use Rattle.ec_lists.proofs.Options.{None-from_option_map}
use Rattle.ec_lists.proofs.Places.{slice_get-none}
use Rattle.ec_terms.specs.declared.ids.Slot.{Slot}
use Rattle.ec_axioms.specs.declared.event.Event.{Event}
use Rattle.ec_axioms.specs.Calculus.{PlainEvent}
use Rattle.ec_axioms.specs.Changes.{is_history}
use Rattle.ec_axioms.specs.Plain.{events_at}
use Rattle.ec_store.specs.Store.{Kept, event_at, history_of, kept_before, plain_of}
use Rattle.ec_query.proofs.EventWalks.{events_at-behind, events_at-first, events_at-here, events_from-first, is_from, is_history-drop}

-- ---- where the walk starts

module _ {T : Type 0} (rank : T → ℤ) (t : ℤ) (kept : List (Kept T)) where
  before-count : length (kept_before rank t kept) ≡ length (filter (λ (e : PlainEvent). int_lt e.rank t) (history_of rank kept))
  before-count =
      sym (ap length (filter-map (λ (e : PlainEvent). int_lt e.rank t) (plain_of rank) kept) ∙ length-map (kept_before rank t kept) (plain_of rank))

  module _ (history : is_history (history_of rank kept) ≡ true) (n : ℕ) (n_is : n ≡ length (kept_before rank t kept)) where
    left-first : history_of rank (drop n kept) ≡ drop (length (filter (λ (e : PlainEvent). int_lt e.rank t) (history_of rank kept))) (history_of rank kept)
    left-first = sym (drop-map (plain_of rank) n kept) ∙ ap (λ m. drop m (history_of rank kept)) (n_is ∙ before-count)

    pub walk-first : events_at t (history_of rank (drop n kept)) ≡ events_at t (history_of rank kept)
    walk-first = ap (events_at t) left-first ∙ events_at-first t (history_of rank kept) history

    pub walk-from : list_all (is_from t) (history_of rank (drop n kept)) ≡ true
    walk-from = ap (list_all (is_from t)) left-first ∙ events_from-first t (history_of rank kept) history

    pub walk-within : n ≤ length kept
    walk-within = let few = length-filter_le (λ (k : Kept T). int_lt (rank k.1.at) t) kept in omega (arith, few, n_is)

-- ---- one event

-- the event at a position of a walk, and where the walk goes on
pub record IsNext {T : Type 0} (kept : List (Kept T)) (i : ℕ) (slot : Slot) (next : ℕ) : Type 0 where
  pub event : Event T
  pub there : slice_get kept i ≡ Some (slot, event)
  pub named : event_at slot kept ≡ Some event
  pub within : i < length kept
  pub behind : next ≡ i + 1

-- where the walk goes on behind an event
abbrev pub next_place : {T : Type 0} → ℕ → Kept T → Slot × ℕ
next_place i kept = (kept.0, i + 1)

pub next-found : {T : Type 0} (kept : List (Kept T)) (i : ℕ) (slot : Slot) (next : ℕ) → Some (slot, next) ≡ option_map (next_place i) (slice_get kept i)
    → event_at slot kept ≡ option_map (λ (k : Kept T). k.1) (slice_get kept i) → IsNext kept i slot next
next-found {T} kept i slot next is event = of (slice_get kept i) refl is event
  where
    of : (o : Option (Kept T)) → slice_get kept i ≡ o → Some (slot, next) ≡ option_map (next_place i) o → event_at slot kept ≡ option_map (λ (k : Kept T). k.1) o → IsNext kept i slot next
    of None there is event = absurd (let no_event = is in cc)
    of (Some k) there is event =
        let pair : Slot × ℕ = (slot, next) in
        let same : pair ≡ next_place i k = same_Some pair (next_place i k) is in
        record {
          event = k.1;
          there = there ∙ ap (λ (s : Slot). Some (s, k.1)) (sym (ap (λ (x : Slot × ℕ). x.0) same));
          named = event;
          within = slice_get_within kept i k there;
          behind = ap (λ (x : Slot × ℕ). x.1) same;
        }

-- an event that is read in the slot is that event
pub next-read : {T : Type 0} (kept : List (Kept T)) (i : ℕ) (slot : Slot) (next : ℕ) → IsNext kept i slot next → (event : Event T) → event_at slot kept ≡ Some event → slice_get kept i ≡ Some (slot, event)
next-read {T} kept i slot next found event read = found.there ∙ ap (λ (e : Event T). Some (slot, e)) (same_Some found.event event (sym found.named ∙ read))

-- where there is no next, the walk is at the end
pub next-none : {T : Type 0} (kept : List (Kept T)) (i : ℕ) (result : Option (Slot × ℕ)) → result ≡ None → result ≡ option_map (next_place i) (slice_get kept i) → length kept ≤ i
next-none kept i result none is = slice_get-none kept i (None-from_option_map (next_place i) (slice_get kept i) (sym is ∙ none))

module _ {T : Type 0} (rank : T → ℤ) (t : ℤ) (kept : List (Kept T)) (i : ℕ) (k : Kept T) (there : slice_get kept i ≡ Some k) where
  left-here : history_of rank (drop i kept) ≡ plain_of rank k ∷ history_of rank (drop (i + 1) kept)
  left-here = let one_more : suc i ≡ i + 1 = omega arith in ap (history_of rank) (drop-slice_get kept i k there) ∙ ap (λ n. plain_of rank k ∷ history_of rank (drop n kept)) one_more

  -- an event at the time is the next of those there
  pub walk-here : int_eq (rank k.1.at) t ≡ true → events_at t (history_of rank (drop i kept)) ≡ plain_of rank k ∷ events_at t (history_of rank (drop (i + 1) kept))
  walk-here at = ap (events_at t) left-here ∙ events_at-here t (plain_of rank k) (history_of rank (drop (i + 1) kept)) at

  -- behind one that is not at it there is none
  pub walk-behind : is_history (history_of rank kept) ≡ true → list_all (is_from t) (history_of rank (drop i kept)) ≡ true → int_eq (rank k.1.at) t ≡ false → events_at t (history_of rank (drop i kept)) ≡ []
  walk-behind history from other =
      let ordered : is_history (plain_of rank k ∷ history_of rank (drop (i + 1) kept)) ≡ true =
      ap is_history (sym left-here ∙ sym (drop-map (plain_of rank) i kept)) ∙ is_history-drop i (history_of rank kept) history in
      let late = and_parts (is_from t (plain_of rank k)) (list_all (is_from t) (history_of rank (drop (i + 1) kept))) (ap (list_all (is_from t)) (sym left-here) ∙ from) in
      ap (events_at t) left-here ∙ events_at-behind t (plain_of rank k) (history_of rank (drop (i + 1) kept)) ordered late.0 other

  pub walk-on : list_all (is_from t) (history_of rank (drop i kept)) ≡ true → list_all (is_from t) (history_of rank (drop (i + 1) kept)) ≡ true
  walk-on from = (and_parts (is_from t (plain_of rank k)) (list_all (is_from t) (history_of rank (drop (i + 1) kept))) (ap (list_all (is_from t)) (sym left-here) ∙ from)).1

-- at the end there is none
pub walk-end : {T : Type 0} (rank : T → ℤ) (t : ℤ) (kept : List (Kept T)) (i : ℕ) → length kept ≤ i → events_at t (history_of rank (drop i kept)) ≡ []
walk-end rank t kept i end = ap (λ ks. events_at t (history_of rank ks)) (drop_all i kept end)

-- ---- counts of a walk

-- one event more was read
pub one_read : (steps before here rest later all : ℕ) → here ≡ suc rest → later ≡ rest → before + here ≡ all → steps ≡ before + 1 → steps + later ≡ all
one_read steps before here rest later all first same left read = omega (arith, first, same, left, read)

pub read_later : (start before steps : ℕ) → start ≤ before → steps ≡ before + 1 → start ≤ steps
read_later start before steps started read = omega (arith, started, read)

-- the entries of an event at the time and the event itself were read
pub both_of_one : (start before middle steps here rest all : ℕ) → here ≡ suc rest → before + here ≡ start + all → start ≤ before → middle ≡ before + 1 → steps ≡ middle + 1 → steps ≤ start + 2 * all
both_of_one start before middle steps here rest all first left started read again = omega (arith, first, left, started, read, again)

-- the next place is within the list, and leaves less of it
pub next_within : (i n next : ℕ) → i < n → next ≡ i + 1 → next ≤ n
next_within i n next within behind = omega (arith, within, behind)

pub next_leaves : (i n next : ℕ) → i < n → next ≡ i + 1 → n - next < n - i
next_leaves i n next within behind = omega (arith, within, behind)

-- as many were read as the place says
pub read_places : (start before steps i next : ℕ) → before ≡ start + i → steps ≡ before + 1 → next ≡ i + 1 → steps ≡ start + next
read_places start before steps i next so_far read behind = omega (arith, so_far, read, behind)

pub read_places_within : (start before steps i n : ℕ) → before ≡ start + i → steps ≡ before + 1 → i < n → steps ≤ start + n
read_places_within start before steps i n so_far read within = omega (arith, so_far, read, within)
