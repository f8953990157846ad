use Rattle.std.proofs.Common.{length}
use Rattle.ec_theory.specs.Reader.{left_of}
use Rattle.ec_theory.proofs.ClauseLoop.{Clauses}
use Rattle.ec_theory.proofs.reader.read_clauses.Given as goal

abbrev pub invariant-loop-next : goal.invariant-loop-next
invariant-loop-next l = Clauses (left_of l.initial.next) l.theory l.number (left_of l.next)

abbrev pub decreases-loop-next : goal.decreases-loop-next
decreases-loop-next l = length l.next.rest.now
