-- The parts of an engine stand for its list.
use Rattle.std.proofs.Common.{◌≡◌, List, sym, subst}
use Rattle.std.specs.Prelude.{ℤ}
use Rattle.ec_terms.specs.declared.theory.Theory.{Theory}
use Rattle.ec_axioms.specs.Calculus.{PlainEvent}
use Rattle.ec_parts.specs.StandFor.{View}
use Rattle.ec_engine.specs.Standing.{IsStanding}
use Rattle.ec_query.specs.Standing.{StandForList}

-- also under the theory that they have themselves
pub StandForList-standing : {T : Type 0} (rank : T → ℤ) (theory own : Theory) (events : List PlainEvent) (view : View T) → own ≡ theory → IsStanding rank theory events view
    → StandForList rank own events view
StandForList-standing rank theory own events view same standing =
    subst (λ (t : Theory). StandForList rank t events view) (sym same) (record { tally = standing.tally; both = standing.stand.both })
