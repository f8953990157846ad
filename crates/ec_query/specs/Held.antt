-- What it is for a table of properties and their intervals to be those of a list of events, so that they answer what held.
use Rattle.std.specs.Prelude.{ℤ, List, IsTrue, IsSome}
use Rattle.ec_terms.specs.declared.ground.Ground.{Ground}
use Rattle.ec_terms.specs.declared.theory.Theory.{Theory}
use Rattle.ec_axioms.specs.Calculus.{PlainEvent}
use Rattle.ec_axioms.specs.Changes.{is_history}
use Rattle.ec_axioms.specs.Links.{is_live}
use Rattle.ec_store.specs.Table.{KeptProp, prop_of}
use Rattle.ec_intervals.specs.Table.{IntervalTable}
use Rattle.ec_parts.specs.Caches.{AreIntervalsOf}

-- the table keeps each property that is live in the events, and maybe others
abbrev pub KeepsLive : Theory → List PlainEvent → List KeptProp → Type 0
KeepsLive theory events table = (p : Ground) → IsTrue (is_live theory events p) → IsSome (prop_of p table)

-- the table keeps what is live in a history, and the intervals are those of what it keeps
pub record AreHeldOf {T : Type 0} (rank : T → ℤ) (theory : Theory) (events : List PlainEvent) (table : List KeptProp) (intervals : IntervalTable T) : Type 0 where
  pub history : IsTrue (is_history events)
  pub live : KeepsLive theory events table
  pub intervals_of : AreIntervalsOf rank theory events table intervals
