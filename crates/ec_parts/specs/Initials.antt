-- Parts of no event: tables that keep initial properties alone, and the intervals that these have.
use Rattle.std.specs.Prelude.{◌≡◌, ℕ, ℤ, true, false, List, [], Some, IsSome, IsTrue}
use Rattle.std.specs.List.{list_any}
use Rattle.ec_terms.specs.declared.ids.PropId.{PropId}
use Rattle.ec_terms.specs.declared.ground.Ground.{Ground}
use Rattle.ec_terms.specs.declared.theory.Initial.{Initial}
use Rattle.ec_terms.specs.declared.theory.Theory.{Theory}
use Rattle.ec_terms.specs.Binding.{fills, no_values, IsSmall}
use Rattle.ec_terms.specs.Domain.{is_strong}
use Rattle.ec_terms.specs.Matching.{filled}
use Rattle.ec_terms.specs.Term.{term_eq}
use Rattle.ec_axioms.specs.Marks.{spans_of}
use Rattle.ec_exclusive.specs.Neighbours.{Neighbourhoods, AreNeighbours}
use Rattle.ec_intervals.specs.Table.{IntervalTable, members_at, plain_intervals}
use Rattle.ec_numbered.specs.PropSet.{has_number}
use Rattle.ec_store.specs.Table.{KeptProp, prop_of, term_at, mentions_at}

-- an initial property is a small pattern without a variable
pub record IsPlainInitial (initial : Initial) : Type 0 where
  pub small : IsSmall initial.prop
  pub filled_in : IsTrue (fills no_values initial.prop)

-- the term of an initial property
abbrev pub initial_term : Initial → Ground
initial_term initial = filled no_values initial.prop

-- the table keeps these terms and no others, each mentioned once
pub record KeepsOnce (terms : List Ground) (table : List KeptProp) : Type 0 where
  pub all : (p : Ground) → IsTrue (list_any (term_eq p) terms) → IsSome (prop_of p table)
  pub only : (id : ℕ) (p : Ground) → term_at id table ≡ Some p → IsTrue (list_any (term_eq p) terms)
  pub once : (id : ℕ) (p : Ground) → term_at id table ≡ Some p → mentions_at id table ≡ Some 1

-- each of these numbers has the interval of an initial property without marks, and no other number has one
pub record HaveFirstIntervals {T : Type 0} (rank : T → ℤ) (around : Neighbourhoods) (initials : List PropId) (intervals : IntervalTable T) : Type 0 where
  pub first : (theory : Theory) (table : List KeptProp) (p : PropId) (term : Ground) → AreNeighbours theory table around → IsTrue (has_number p.0 initials)
      → term_at p.0 table ≡ Some term → plain_intervals rank (members_at p.0 intervals) ≡ spans_of [] (is_strong theory term) true
  pub none : (p : PropId) → has_number p.0 initials ≡ false → members_at p.0 intervals ≡ []
