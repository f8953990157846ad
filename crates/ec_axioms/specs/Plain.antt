-- What the plain program says of an ordered list of events, and of what one entry does to a property.
use Rattle.std.specs.Prelude.{◌≡◌, List, ℤ, Bool, true, false, ◌&&◌, ◌||◌, int_lt, int_le, filter, find, IsTrue}
use Rattle.std.specs.List.{list_any, list_all}
use Rattle.std.specs.Option.{option_map_or}
use Rattle.std.specs.Ordering.{int_eq}
use Rattle.ec_terms.specs.declared.ground.Ground.{Ground}
use Rattle.ec_terms.specs.declared.theory.Kind.{Kind}
use Rattle.ec_terms.specs.declared.theory.Kind.TheVariants.{Initiates, Terminates}
use Rattle.ec_terms.specs.declared.theory.Rule.{Rule}
use Rattle.ec_terms.specs.declared.theory.Theory.{Theory}
use Rattle.ec_terms.specs.Term.{term_eq}
use Rattle.ec_terms.specs.Domain.{GroundEntry, entry_of, are_exclusive, is_strong}
use Rattle.ec_axioms.specs.declared.currency.Change.{Change}
use Rattle.ec_axioms.specs.declared.currency.Change.TheVariants.{Initiation, Termination, Break}
use Rattle.ec_axioms.specs.Timeline.{Timeline}
use Rattle.ec_axioms.specs.Changes.{is_history}
use Rattle.ec_axioms.specs.Calculus.{PlainEvent, agrees, holds_at, is_current, timeline_of, is_initiated, is_terminated, has_break}

-- the events at t
abbrev pub events_at : ℤ → List PlainEvent → List PlainEvent
events_at t events = filter (λ e. int_eq e.rank t) events

-- the events from t on
abbrev pub events_from : ℤ → List PlainEvent → List PlainEvent
events_from t events = filter (λ e. int_le t e.rank) events

-- the last instant before t: an event is there, and no event is between it and t
pub record IsLastBefore (events : List PlainEvent) (t s : ℤ) : Type 0 where
  pub before : IsTrue (int_lt s t)
  pub instant : IsTrue (list_any (λ e. int_eq e.rank s) events)
  pub last : IsTrue (list_all (λ e. int_le e.rank s || int_le t e.rank) events)

-- an entry of this kind and with this head makes the change to the property p, if it is active
abbrev pub would_change : Theory → Ground → Change → Kind → Ground → Bool
would_change theory p Initiation Initiates head = term_eq head p
would_change theory p Initiation Terminates head = false
would_change theory p Termination Initiates head = false
would_change theory p Termination Terminates head = term_eq head p
would_change theory p Break Initiates head = are_exclusive theory p head || (is_strong theory p && term_eq head p)
would_change theory p Break Terminates head = term_eq head p

-- an entry of an event at t makes the change: each of its literals agrees with the currency there
abbrev pub does_change : Theory → List PlainEvent → Ground → Change → ℤ → GroundEntry → Bool
does_change theory events p change t entry =
    would_change theory p change entry.kind entry.head && list_all (agrees (is_current theory events) t) entry.literals

-- an event at t makes the change by a rule, if the event meets it; the number of the rule is no matter
abbrev pub does_change_by : Theory → List PlainEvent → Ground → Change → ℤ → Ground → Rule → Bool
does_change_by theory events p change t event rule = option_map_or (does_change theory events p change t) (entry_of 0 rule event) false

-- the change that a property undergoes at t
abbrev pub changes_at : Theory → List PlainEvent → Ground → Change → ℤ → Bool
changes_at theory events p Initiation t = is_initiated theory events (is_current theory events) p t
changes_at theory events p Termination t = is_terminated theory events (is_current theory events) p t
changes_at theory events p Break t = has_break theory events (is_current theory events) p t

-- the first break from t on, if there is one, terminates the property
abbrev pub ends_well : Timeline → ℤ → Bool
ends_well line t = option_map_or line.terminated (find line.breaks (filter (λ s. int_le t s) line.instants)) true

-- A property holds at t exactly where it is current there and the first break from t on, if there is one, terminates it.
abbrev pub HoldsWhereCurrent : Type 0
HoldsWhereCurrent =
    (theory : Theory) (events : List PlainEvent) (p : Ground) (t : ℤ) → IsTrue (is_history events)
    → holds_at theory events p t ≡ (is_current theory events p t && ends_well (timeline_of theory events p) t)
