use Rattle.std.proofs.Common.{length}
use Rattle.ec_theory.specs.Reader.{left_of}
use Rattle.ec_theory.proofs.ConditionLoop.{Conditions}
use Rattle.ec_theory.proofs.condition.read_conditions.Given as goal

abbrev pub invariant-loop-body : goal.invariant-loop-body
invariant-loop-body l = Conditions l.names (left_of l.initial.next) l.body (left_of l.next)

abbrev pub decreases-loop-body : goal.decreases-loop-body
decreases-loop-body l = length l.next.rest.now
