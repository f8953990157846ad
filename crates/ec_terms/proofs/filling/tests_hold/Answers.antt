-- What follows from the calls and the tests before it.
use Rattle.std.proofs.Common.{arith}
use Rattle.std.proofs.lemmas.Grind.{common_steps}
use Rattle.ec_terms.proofs.filling.tests_hold.Goals as goal

pub returns-then-not-test_holds : goal.returns-then-not-test_holds
returns-then-not-test_holds c = grind (arith, common_steps)

pub returns : goal.returns
returns c = grind (arith, common_steps)

pub test_holds-requires : goal.test_holds-requires
test_holds-requires c = grind (arith, common_steps)

pub loop-test-preserved : goal.loop-test-preserved
loop-test-preserved c = grind (arith, common_steps)
