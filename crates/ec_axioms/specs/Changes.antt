-- Updates of a list of events, what they are refused for, and what changed between two lists.
use Rattle.std.specs.Prelude.{ℕ, ◌+◌, Bool, true, false, not, ◌&&◌, ◌||◌, if◌then◌else◌, List, [], ◌∷◌, ◌++◌, length, filter, flat_map, int_lt, Result, Ok, Err, bytes_eq}
use Rattle.std.specs.List.{list_any, list_all}
use Rattle.std.specs.Option.{option_eq}
use Rattle.std.specs.Bool.{beq}
use Rattle.std.specs.Ordering.{int_eq, is_lt}
use Rattle.std.specs.Cmp.Lexicographic.{pointwise}
use Rattle.ec_terms.specs.declared.ground.Ground.{Ground}
use Rattle.ec_terms.specs.declared.theory.Theory.{Theory}
use Rattle.ec_terms.specs.Term.{term_eq, name_cmp}
use Rattle.ec_terms.specs.Domain.{GroundLiteral}
use Rattle.ec_axioms.specs.declared.event.Cut.{Cut}
use Rattle.ec_axioms.specs.declared.event.Seen.{Seen}
use Rattle.ec_axioms.specs.Timeline.{Begin, before_all, begin_at, Interval}
use Rattle.ec_axioms.specs.Calculus.{PlainEvent, Effect, Currency, effects_of, is_active, is_current, intervals_of}
use Rattle.ec_axioms.specs.Links.{live_properties}

-- ---- updates

-- an update: an event that is asserted, or the identity of one that is retracted
pub data PlainUpdate : Type 0 where
  asserting : PlainEvent → PlainUpdate
  retracting : List ℕ → PlainUpdate

-- some event has the identity
unfoldable pub has_id : List ℕ → List PlainEvent → Bool
has_id id events = list_any (λ e. bytes_eq e.id id) events

-- an event comes before another: by rank, then by identity
unfoldable pub comes_before : PlainEvent → PlainEvent → Bool
comes_before e f = int_lt e.rank f.rank || (int_eq e.rank f.rank && is_lt (name_cmp e.id f.id))

-- A history: each event comes before those behind it, and no two events have the same identity.
unfoldable pub is_history : List PlainEvent → Bool
is_history [] = true
is_history (e ∷ events) = list_all (comes_before e) events && not (has_id e.id events) && is_history events

-- the list with an event in its place
unfoldable pub with_event : PlainEvent → List PlainEvent → List PlainEvent
with_event e [] = e ∷ []
with_event e (f ∷ events) = if comes_before e f then e ∷ f ∷ events else f ∷ with_event e events

-- the list without the event of an identity
unfoldable pub without_event : List ℕ → List PlainEvent → List PlainEvent
without_event id events = filter (λ e. not (bytes_eq e.id id)) events

-- what one of several updates is refused for, with its place
abbrev pub PlacedCut : Type 0
PlacedCut = ℕ × Cut

-- what follows an update: the rest of the updates on the list that it leaves, or its refusal with its place
abbrev pub after_update : ℕ → Result (List PlainEvent) Cut → (List PlainEvent → Result (List PlainEvent) PlacedCut) → Result (List PlainEvent) PlacedCut
after_update place (Ok events) rest = rest events
after_update place (Err cut) rest = Err (place, cut)

-- ---- what changed between two lists

-- two events are the same whole record
unfoldable pub event_eq : PlainEvent → PlainEvent → Bool
event_eq e f = bytes_eq e.id f.id && int_eq e.rank f.rank && term_eq e.term f.term

-- the event stands in the list
unfoldable pub has_event : List PlainEvent → PlainEvent → Bool
has_event events e = list_any (event_eq e) events

-- the events that stand in both lists
unfoldable pub kept_events : List PlainEvent → List PlainEvent → List PlainEvent
kept_events old new = filter (has_event new) old

-- the events of the first list that do not stand in the second
unfoldable pub events_only_in : List PlainEvent → List PlainEvent → List PlainEvent
events_only_in these those = filter (λ e. not (has_event those e)) these

-- two begins are the same
abbrev pub begin_eq : Begin → Begin → Bool
begin_eq before_all before_all = true
begin_eq before_all (begin_at t) = false
begin_eq (begin_at s) before_all = false
begin_eq (begin_at s) (begin_at t) = int_eq s t

-- two intervals are the same
abbrev pub interval_eq : Interval → Interval → Bool
interval_eq i j = begin_eq i.from j.from && option_eq int_eq i.until j.until

-- the entries of the events that stand in both lists
unfoldable pub kept_effects : Theory → List PlainEvent → List PlainEvent → List Effect
kept_effects theory old new = flat_map (effects_of theory) (kept_events old new)

-- some literal's property has another currency at the event's time
unfoldable pub sees_change : Currency → Currency → Effect → Bool
sees_change old new effect =
    list_any (λ (literal : GroundLiteral). not (beq (old literal.prop effect.event.rank) (new literal.prop effect.event.rank))) effect.entry.literals

-- the property has other intervals in the new list than in the old one
unfoldable pub has_other_intervals : Theory → List PlainEvent → List PlainEvent → Ground → Bool
has_other_intervals theory old new p = not (pointwise interval_eq (intervals_of theory old p) (intervals_of theory new p))

-- The four counts from an old list to a new one: entries that saw a literal's property change, entries that became active,
-- entries that became inactive, properties whose intervals differ.
unfoldable pub change_counts : Theory → List PlainEvent → List PlainEvent → Seen
change_counts theory old new =
    let before = is_current theory old in
    let after = is_current theory new in
    let effects = kept_effects theory old new in record {
      seen = length (filter (sees_change before after) effects);
      on = length (filter (λ effect. not (is_active before effect) && is_active after effect) effects);
      off = length (filter (λ effect. is_active before effect && not (is_active after effect)) effects);
      props = length (filter (has_other_intervals theory old new) (live_properties theory (old ++ new)));
    }

-- the entries of some events, counted
unfoldable pub entry_count : Theory → List PlainEvent → ℕ
entry_count theory events = length (flat_map (effects_of theory) events)

-- the work between two lists: the entries that see a change, and the events of one list alone with their entries
unfoldable pub work_between : Theory → List PlainEvent → List PlainEvent → ℕ
work_between theory old new =
    let single = events_only_in old new ++ events_only_in new old in
    (change_counts theory old new).seen + entry_count theory single + length single
