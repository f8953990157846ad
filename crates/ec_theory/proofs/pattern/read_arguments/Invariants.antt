use Rattle.std.proofs.Common.{length}
use Rattle.ec_theory.specs.Reader.{left_of}
use Rattle.ec_theory.proofs.ArgumentLoop.{Arguments}
use Rattle.ec_theory.proofs.pattern.read_arguments.Given as goal

abbrev pub invariant-loop-args : goal.invariant-loop-args
invariant-loop-args l = Arguments l.names (left_of l.initial.next) l.args (left_of l.next)

abbrev pub decreases-loop-args : goal.decreases-loop-args
decreases-loop-args l = length l.next.rest.now
