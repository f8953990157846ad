-- The declaration found is one of those that declare the property strong.
use Rattle.std.proofs.Common.{arith}
use Rattle.std.proofs.lemmas.Grind.{common_steps}
use Rattle.ec_terms.specs.Domain.{is_strong}
use Rattle.ec_terms.proofs.domain.is_strong.Goals as goal

pub returns-then-declaration-arity : goal.returns-then-declaration-arity
unfolding is_strong
returns-then-declaration-arity c = grind (arith, common_steps)

pub loop-declaration-preserved : goal.loop-declaration-preserved
loop-declaration-preserved c = grind (arith, common_steps)
