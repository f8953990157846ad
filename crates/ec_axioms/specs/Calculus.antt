-- The event calculus: from a theory and a list of events to the timeline of each property, and so to all that holds.
-- After Kowalski and Sergot (1986) in outline; the exact form of currency, clashes and first causes is this project's own.
use Rattle.std.specs.Prelude.{ℕ, zero, suc, Bool, true, false, ◌&&◌, ◌||◌, if◌then◌else◌, nat_lt, List, [], ◌∷◌, length, map, filter, flat_map, ℤ, Option, Some, None}
use Rattle.std.specs.List.{list_all, list_any}
use Rattle.std.specs.Ordering.{int_eq}
use Rattle.std.specs.Bool.{beq}
use Rattle.ec_terms.specs.declared.ground.Ground.{Ground}
use Rattle.ec_terms.specs.declared.theory.Kind.{Kind}
use Rattle.ec_terms.specs.declared.theory.Kind.TheVariants.{Initiates, Terminates}
use Rattle.ec_terms.specs.declared.theory.Theory.{Theory}
use Rattle.ec_terms.specs.Term.{term_eq}
use Rattle.ec_terms.specs.Domain.{GroundLiteral, GroundEntry, entries_of, are_exclusive, is_strong, is_initial}
use Rattle.ec_axioms.specs.Timeline.{Timeline, Interval, Begin, Reason, is_current_on, intervals_on, broken_on, is_held_at, is_held_through, reason_on}

-- An event as the calculus sees it: its identity, its time as a whole number, and its term. A history is a list
-- of events with distinct identities, in order of rank and then of identity.
pub record PlainEvent : Type 0 where
  pub id : List ℕ
  pub rank : ℤ
  pub term : Ground

-- an event together with one of its entries
pub record Effect : Type 0 where
  pub event : PlainEvent
  pub entry : GroundEntry

-- what contexts read: whether a property is current at an instant
abbrev pub Currency : Type 0
Currency = Ground → ℤ → Bool

-- ---- instants and effects

-- the instant in front, unless it stands there already
abbrev pub with_instant : ℤ → List ℤ → List ℤ
with_instant t [] = t ∷ []
with_instant t (u ∷ instants) = if int_eq t u then u ∷ instants else t ∷ u ∷ instants

-- the ranks of the events of a history, each once
unfoldable pub instants_of : List PlainEvent → List ℤ
instants_of [] = []
instants_of (e ∷ events) = with_instant e.rank (instants_of events)

-- the entries of an event, each with the event
unfoldable pub effects_of : Theory → PlainEvent → List Effect
effects_of theory e = map (λ entry. record { event = e; entry = entry }) (entries_of theory e.term)

-- a literal agrees with the currency of its property at the instant
unfoldable pub agrees : Currency → ℤ → GroundLiteral → Bool
agrees current t literal = beq (current literal.prop t) literal.positive

-- an entry is active: each of its literals agrees with the currency at the event's time
unfoldable pub is_active : Currency → Effect → Bool
is_active current effect = list_all (agrees current effect.event.rank) effect.entry.literals

-- the active entries at an instant that pass a test, by identity of their event and then by rule number
unfoldable pub effects_at : Theory → List PlainEvent → Currency → (GroundEntry → Bool) → ℤ → List Effect
effects_at theory events current wanted t =
    filter (is_active current)
    (filter (λ effect. wanted effect.entry) (flat_map (effects_of theory) (filter (λ e. int_eq e.rank t) events)))

-- an entry initiates the property
unfoldable pub is_initiating : Ground → GroundEntry → Bool
is_initiating p entry = initiates entry.kind && term_eq entry.head p
  where
    initiates : Kind → Bool
    initiates Initiates = true
    initiates Terminates = false

-- an entry terminates the property
unfoldable pub is_terminating : Ground → GroundEntry → Bool
is_terminating p entry = terminates entry.kind && term_eq entry.head p
  where
    terminates : Kind → Bool
    terminates Initiates = false
    terminates Terminates = true

-- an entry initiates a property that is exclusive to this one
unfoldable pub is_clashing : Theory → Ground → GroundEntry → Bool
is_clashing theory p entry = is_initiating entry.head entry && are_exclusive theory p entry.head

-- some active entry at the instant passes the test
unfoldable pub has_effect : Theory → List PlainEvent → Currency → (GroundEntry → Bool) → ℤ → Bool
has_effect theory events current wanted t = nat_lt 0 (length (effects_at theory events current wanted t))

-- the property is initiated at the instant
abbrev pub is_initiated : Theory → List PlainEvent → Currency → Ground → ℤ → Bool
is_initiated theory events current p = has_effect theory events current (is_initiating p)

-- the property is terminated at the instant
abbrev pub is_terminated : Theory → List PlainEvent → Currency → Ground → ℤ → Bool
is_terminated theory events current p = has_effect theory events current (is_terminating p)

-- The property has a break at the instant: it is terminated there, or a property exclusive to it is initiated
-- there, or it is strong and is initiated there itself.
unfoldable pub has_break : Theory → List PlainEvent → Currency → Ground → ℤ → Bool
has_break theory events current p t =
    is_terminated theory events current p t || has_effect theory events current (is_clashing theory p) t
    || (is_strong theory p && is_initiated theory events current p t)

-- the timeline of a property where contexts read the given currency
unfoldable pub timeline_by : Theory → List PlainEvent → Currency → Ground → Timeline
timeline_by theory events current p = record {
  instants = instants_of events;
  initiated = is_initiated theory events current p;
  terminated = is_terminated theory events current p;
  breaks = has_break theory events current p;
  initial = is_initial theory p;
}

-- ---- currency

-- Currency in rounds. In round 0 nothing is current but what is initial; each further round is the currency
-- on the timelines whose contexts read the round before it.
unfoldable pub round_current : Theory → List PlainEvent → ℕ → Currency
round_current theory events zero p t = is_initial theory p
round_current theory events (suc n) p t = is_current_on (timeline_by theory events (round_current theory events n) p) t

-- The currency of a history: that of as many rounds as it has instants. It is the one currency that agrees with
-- the timelines whose contexts read it.
unfoldable pub is_current : Theory → List PlainEvent → Currency
is_current theory events = round_current theory events (length (instants_of events))

-- the timeline of a property
unfoldable pub timeline_of : Theory → List PlainEvent → Ground → Timeline
timeline_of theory events = timeline_by theory events (is_current theory events)

-- ---- what holds

-- the maximal validity intervals of a property
unfoldable pub intervals_of : Theory → List PlainEvent → Ground → List Interval
intervals_of theory events p = intervals_on (timeline_of theory events p)

-- the broken begins of a property, each with its break
unfoldable pub broken_of : Theory → List PlainEvent → Ground → List (Begin × ℤ)
broken_of theory events p = broken_on (timeline_of theory events p)

-- a property holds at t
unfoldable pub holds_at : Theory → List PlainEvent → Ground → ℤ → Bool
holds_at theory events p t = is_held_at (intervals_of theory events p) t

-- a property holds through the stretch from a to b
unfoldable pub holds_through : Theory → List PlainEvent → Ground → ℤ → ℤ → Bool
holds_through theory events p a b = is_held_through (intervals_of theory events p) a b

-- the reason for a property at t
unfoldable pub reason_of : Theory → List PlainEvent → Ground → ℤ → Reason
reason_of theory events p t = reason_on (timeline_of theory events p) t

-- ---- causes and clashes

-- the event and the rule that caused a change
pub record PlainCause : Type 0 where
  pub id : List ℕ
  pub rule : ℕ

-- the cause that an effect names
abbrev pub cause_of : Effect → PlainCause
cause_of effect = record { id = effect.event.id; rule = effect.entry.rule }

-- the cause that the first of some effects names
abbrev pub cause_of_first : List Effect → Option PlainCause
cause_of_first [] = None
cause_of_first (effect ∷ effects) = Some (cause_of effect)

-- the first cause of what the test wants at an instant: the least identity, then the least rule number
unfoldable pub first_cause : Theory → List PlainEvent → (GroundEntry → Bool) → ℤ → Option PlainCause
first_cause theory events wanted t = cause_of_first (effects_at theory events (is_current theory events) wanted t)

-- an entry breaks the property otherwise than by terminating it
unfoldable pub is_breaking : Theory → Ground → GroundEntry → Bool
is_breaking theory p entry = is_clashing theory p entry || (is_strong theory p && is_initiating p entry)

-- two active initiating entries at the instant have heads that are exclusive to each other
unfoldable pub is_clash : Theory → List PlainEvent → ℤ → Bool
is_clash theory events t =
    let initiations = effects_at theory events (is_current theory events) (λ entry. is_initiating entry.head entry) t in
    list_any (λ a. list_any (λ b. are_exclusive theory a.entry.head b.entry.head) initiations) initiations

-- the instants at which there is a clash, ascending
unfoldable pub clashes_of : Theory → List PlainEvent → List ℤ
clashes_of theory events = filter (is_clash theory events) (instants_of events)
