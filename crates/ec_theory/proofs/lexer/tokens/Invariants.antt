use Rattle.std.proofs.Common.{length}
use Rattle.ec_theory.proofs.TokenLoop.{Cut}
use Rattle.ec_theory.proofs.lexer.tokens.Given as goal

abbrev pub invariant-loop-rest : goal.invariant-loop-rest
invariant-loop-rest l = Cut l.bytes l.items.items l.place l.rest

abbrev pub decreases-loop-rest : goal.decreases-loop-rest
decreases-loop-rest l = length l.rest
