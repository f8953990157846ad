-- The bytes of one more line stand behind those so far.
use Rattle.std.proofs.Common.{arith}
use Rattle.std.proofs.lemmas.Grind.{common_steps}
use Rattle.ec_soak.proofs.Loads.{left-more, within-more}
use Rattle.ec_soak.proofs.soak_source.SoakSourceSource.read.Goals as goal

pub loop-count-preserved : goal.loop-count-preserved
loop-count-preserved c = record {
  within =
      within-more c.loop-count.into c.give-given.new.into _ c.loop-count.count c.give-given.result
      c.loop-count.invariant.within c.give-given.ensures.within;
  left =
      left-more _ _ _ c.loop-count.into c.give-given.new.into _ c.loop-count.count c.give-given.result
      c.loop-count.invariant.within c.give-given.ensures.within c.loop-count.invariant.left c.give-given.ensures.given;
}

pub returns-after-loop-count-clause-count : goal.returns-after-loop-count-clause-count
returns-after-loop-count-clause-count c = grind (arith, common_steps)

pub returns-after-loop-count-clause-took : goal.returns-after-loop-count-clause-took
returns-after-loop-count-clause-took c = grind (arith, common_steps)

pub returns-then-given-eq0-clause-took : goal.returns-then-given-eq0-clause-took
returns-then-given-eq0-clause-took c = grind (arith, common_steps)
