-- Turns by number as a table shows them, and what is tallied of them by term.
use Rattle.std.specs.Prelude.{◌≡◌, ℕ, List, [], ◌∷◌, Some, IsTrue}
use Rattle.ec_terms.specs.declared.ids.PropId.{PropId}
use Rattle.ec_terms.specs.declared.ground.Ground.{Ground}
use Rattle.ec_terms.specs.declared.theory.Theory.{Theory}
use Rattle.ec_store.specs.Table.{KeptProp, prop_of, term_at}
use Rattle.ec_exclusive.specs.Added.{Added, is_added}
use Rattle.ec_exclusive.specs.Neighbours.{Neighbourhoods, AreNeighbours}
use Rattle.ec_revise.specs.declared.settled.Tallied.{Tallied}
use Rattle.ec_revise.specs.declared.turn.Turn.{Turn}
use Rattle.ec_revise.specs.Tallied.{IsTallyOf}
use Rattle.ec_revise.specs.TurnCounts.{IsTallyAt}
use Rattle.ec_revise.specs.Visit.{PlainTurn}

-- a turn as a table shows it: with the term that it keeps under the number of the head, which is added to the neighbours
pub record IsShown (table : List KeptProp) (neighbours : List Added) (turn : Turn) (plain : PlainTurn) : Type 0 where
  pub up : turn.up ≡ plain.up
  pub kind : turn.kind ≡ plain.kind
  pub head : term_at turn.head.0 table ≡ Some plain.head
  pub added : IsTrue (is_added turn.head neighbours)

-- turns as a table shows them, one by one
abbrev pub AreShown : List KeptProp → List Added → List Turn → List PlainTurn → Type 0
AreShown table neighbours [] [] = Unit {0}
AreShown table neighbours [] (plain ∷ plains) = ⊥
AreShown table neighbours (turn ∷ turns) [] = ⊥
AreShown table neighbours (turn ∷ turns) (plain ∷ plains) = IsShown table neighbours turn plain × AreShown table neighbours turns plains

-- each term that a table keeps leads back to its number
abbrev pub FindsItsTerms : List KeptProp → Type 0
FindsItsTerms table = (n : ℕ) (p : Ground) → term_at n table ≡ Some p → prop_of p table ≡ Some n

-- What is tallied for an added property by numbers is what its turns are by terms.
abbrev pub TalliesGoByTerm : Type 0
TalliesGoByTerm =
    (theory : Theory) (table : List KeptProp) (neighbours : Neighbourhoods) (turns : List Turn) (plains : List PlainTurn) (id : PropId) (p : Ground) (tallied : Tallied)
    → FindsItsTerms table → AreNeighbours theory table neighbours → AreShown table neighbours.rows turns plains
    → term_at id.0 table ≡ Some p → IsTrue (is_added id neighbours.rows) → IsTallyAt neighbours.rows turns id tallied → IsTallyOf theory plains p tallied
