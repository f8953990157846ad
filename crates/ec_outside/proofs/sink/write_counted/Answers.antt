use Rattle.std.proofs.Common.{arith}
use Rattle.std.proofs.lemmas.Grind.{common_steps}
use Rattle.ec_outside.proofs.Streams.{WrittenSoFar-next}
use Rattle.ec_outside.proofs.sink.write_counted.Goals as goal

pub loop-written-preserved : goal.loop-written-preserved
loop-written-preserved g c =
    WrittenSoFar-next c.loop-written.invariant c.in-Ok.taken c.in-Ok.ensures.within c.in-Ok.ensures.appended c.in-Ok.ensures.quiet

pub returns-in-Err-clause-all : goal.returns-in-Err-clause-all
returns-in-Err-clause-all g c = tt

pub returns-clause-all : goal.returns-clause-all
returns-clause-all g c = omega arith

pub returns-in-Err-clause-appended : goal.returns-in-Err-clause-appended
returns-in-Err-clause-appended c = grind (arith, common_steps)

pub returns-in-Err-clause-failed : goal.returns-in-Err-clause-failed
returns-in-Err-clause-failed c = grind (arith, common_steps)

pub returns-in-Err-clause-bounded : goal.returns-in-Err-clause-bounded
returns-in-Err-clause-bounded c = grind (arith, common_steps)

pub loop-written-smaller : goal.loop-written-smaller
loop-written-smaller c = grind (arith, common_steps)
