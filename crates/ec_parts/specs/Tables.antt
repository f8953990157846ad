-- What it is for the tables of properties and neighbours, and for the tally, to be those of a list of events.
use Rattle.std.specs.Prelude.{◌≡◌, ℕ, ◌+◌, if◌then◌else◌, List, length, filter, Some, IsSome, IsTrue, is_some}
use Rattle.ec_terms.specs.declared.ids.PropId.{PropId}
use Rattle.ec_terms.specs.declared.ground.Ground.{Ground}
use Rattle.ec_terms.specs.declared.theory.Theory.{Theory}
use Rattle.ec_terms.specs.Term.{term_eq}
use Rattle.ec_terms.specs.Domain.{is_initial}
use Rattle.ec_axioms.specs.Calculus.{PlainEvent}
use Rattle.ec_axioms.specs.Links.{mentions_of, is_live, link_count}
use Rattle.ec_store.specs.Table.{KeptProp, prop_at, prop_of, term_at, mentions_at}
use Rattle.ec_exclusive.specs.Added.{is_added}
use Rattle.ec_exclusive.specs.Neighbours.{Neighbourhoods, AreNeighbours}
use Rattle.ec_parts.specs.declared.tally.Tally.{Tally}

-- how often the events mention a property
abbrev pub mention_count : Theory → List PlainEvent → Ground → ℕ
mention_count theory events p = length (filter (term_eq p) (mentions_of theory events))

-- the mention that an initial property holds of itself, so that it stays kept; it counts for no sum and no limit
abbrev pub held_mention : Theory → Ground → ℕ
held_mention theory p = if is_initial theory p then 1 else 0

-- The table keeps each property that the events make live, and each that it keeps has the mentions that they make and the
-- held one. It may keep properties that are not live.
pub record AreKept (theory : Theory) (events : List PlainEvent) (table : List KeptProp) : Type 0 where
  pub live : (p : Ground) → IsTrue (is_live theory events p) → IsSome (prop_of p table)
  pub mentions : (id : ℕ) (p : Ground) → term_at id table ≡ Some p → mentions_at id table ≡ Some (mention_count theory events p + held_mention theory p)

-- the table keeps only what the events make live
abbrev pub KeepsOnlyLive : Theory → List PlainEvent → List KeptProp → Type 0
KeepsOnlyLive theory events table = (id : ℕ) (p : Ground) → term_at id table ≡ Some p → IsTrue (is_live theory events p)

-- the neighbours are those of the theory and the table, and what is kept is added
pub record AreAllAdded (theory : Theory) (table : List KeptProp) (around : Neighbourhoods) : Type 0 where
  pub neighbours : AreNeighbours theory table around
  pub added : (p : PropId) → is_added p around.rows ≡ is_some (prop_at p.0 table)

-- the tally counts the mentions and the links of the events
pub record IsTally (theory : Theory) (events : List PlainEvent) (tally : Tally) : Type 0 where
  pub mentions : tally.mentions ≡ length (mentions_of theory events)
  pub links : tally.links ≡ link_count theory events
