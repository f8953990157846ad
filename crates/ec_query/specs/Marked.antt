-- What it is for a table of properties and their marks to be those of a list of events, so that they answer what broke and what clashed.
use Rattle.std.specs.Prelude.{ℕ, ◌≤◌, ℤ, int_lt, List, length, Contains, IsTrue}
use Rattle.ec_terms.specs.declared.theory.Theory.{Theory}
use Rattle.ec_axioms.specs.Calculus.{PlainEvent}
use Rattle.ec_axioms.specs.Changes.{is_history}
use Rattle.ec_axioms.specs.Links.{most_events}
use Rattle.ec_store.specs.Table.{KeptProp}
use Rattle.ec_rows.specs.Ordered.{is_ascending}
use Rattle.ec_points.specs.Table.{PointTable}
use Rattle.ec_points.specs.Clashes.{clashes_at, some_clash_at}
use Rattle.ec_parts.specs.Caches.{AreMarksOf}
use Rattle.ec_query.specs.Held.{KeepsLive}

-- the table keeps what is live in a history of as few events as there may be, and the marks are those of what it keeps
pub record AreMarkedOf {T : Type 0} (rank : T → ℤ) (theory : Theory) (events : List PlainEvent) (table : List KeptProp) (points : PointTable T) : Type 0 where
  pub history : IsTrue (is_history events)
  pub few : length events ≤ most_events
  pub live : KeepsLive theory events table
  pub marks_of : AreMarksOf rank theory events table points

-- the times at which some property has a mark that both initiates and clashes, ascending
pub record AreClashTimes {T : Type 0} (rank : T → ℤ) (points : PointTable T) (times : List ℤ) : Type 0 where
  pub ascending : IsTrue (is_ascending int_lt times)
  pub clashing : (t : ℤ) → Contains times t → (n : ℕ) × IsTrue (clashes_at rank n t points)
  pub all : (t : ℤ) → IsTrue (some_clash_at rank t points) → Contains times t
