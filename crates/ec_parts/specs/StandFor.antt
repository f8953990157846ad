-- What it is for the parts of an engine to stand for a list of events. While a batch of updates is walked through, the tables
-- are those of the list to come and the caches those of the present list.
use Rattle.std.specs.Prelude.{ℤ, List, IsTrue, IsSome}
use Rattle.ec_terms.specs.declared.ground.Ground.{Ground}
use Rattle.ec_terms.specs.declared.theory.Theory.{Theory}
use Rattle.ec_axioms.specs.Calculus.{PlainEvent}
use Rattle.ec_axioms.specs.Changes.{is_history}
use Rattle.ec_axioms.specs.Links.{is_live}
use Rattle.ec_store.specs.Table.{KeptProp, prop_of}
use Rattle.ec_exclusive.specs.Neighbours.{Neighbourhoods}
use Rattle.ec_store.specs.Store.{Store}
use Rattle.ec_entries.specs.Dependents.{Entered}
use Rattle.ec_points.specs.Table.{PointTable}
use Rattle.ec_intervals.specs.Table.{IntervalTable}
use Rattle.ec_parts.specs.declared.parts.Parts.{Parts}
use Rattle.ec_parts.specs.declared.tally.Tally.{Tally}
use Rattle.ec_parts.specs.Tables.{AreKept, KeepsOnlyLive, AreAllAdded, IsTally}
use Rattle.ec_parts.specs.Caches.{AreEventsOf, AreEntriesOf, AreInitialsOf, AreMarksOf, AreInitiationsOf, AreIntervalsOf}

-- what contracts see of the parts
pub record View (T : Type 0) : Type 0 where
  pub store : Store T
  pub table : List KeptProp
  pub neighbours : Neighbourhoods
  pub entries : Entered T
  pub points : PointTable T
  pub initiations : PointTable T
  pub intervals : IntervalTable T

-- the parts as contracts see them
abbrev pub view_of : {T M I X : Type 0} → Parts T M I X → View T
view_of parts = record {
  store = parts.store;
  table = parts.props;
  neighbours = parts.neighbours;
  entries = parts.entries;
  points = parts.points;
  initiations = parts.initiations;
  intervals = parts.intervals;
}

-- the tables are those of a list of events
pub record AreTables {T : Type 0} (theory : Theory) (events : List PlainEvent) (table : List KeptProp) (around : Neighbourhoods) (points : PointTable T) (tally : Tally) : Type 0 where
  pub kept : AreKept theory events table
  pub added : AreAllAdded theory table around
  pub initials : AreInitialsOf theory table points
  pub tally_of : IsTally theory events tally

-- the caches are those of a list of events
pub record AreCaches {T : Type 0} (rank : T → ℤ) (theory : Theory) (events : List PlainEvent) (view : View T) : Type 0 where
  pub history : IsTrue (is_history events)
  pub events_of : AreEventsOf rank events view.store
  pub entries_of : AreEntriesOf rank theory events view.table view.store view.entries
  pub marks_of : AreMarksOf rank theory events view.table view.points
  pub initiations_of : AreInitiationsOf rank theory events view.table view.initiations
  pub intervals_of : AreIntervalsOf rank theory events view.table view.intervals

-- The caches are those of the present list and the tables those of the list to come; what is live in the present list is
-- kept too.
pub record StandForBoth {T : Type 0} (rank : T → ℤ) (theory : Theory) (now soon : List PlainEvent) (view : View T) (tally : Tally) : Type 0 where
  pub tables : AreTables theory soon view.table view.neighbours view.points tally
  pub caches : AreCaches rank theory now view
  pub live : (p : Ground) → IsTrue (is_live theory now p) → IsSome (prop_of p view.table)

-- the parts stand for one list, and keep only what is live in it
pub record StandFor {T : Type 0} (rank : T → ℤ) (theory : Theory) (events : List PlainEvent) (view : View T) (tally : Tally) : Type 0 where
  pub both : StandForBoth rank theory events events view tally
  pub only_live : KeepsOnlyLive theory events view.table
