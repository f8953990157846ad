-- No row is of the key.
use Rattle.std.proofs.Common.{arith}
use Rattle.std.proofs.lemmas.Grind.{common_steps}
use Rattle.ec_numbered.proofs.KeyedRowLemmas.{lookup-nowhere}
use Rattle.ec_numbered.proofs.few_rows.place_of.Goals as goal

pub returns-clause-none : goal.returns-clause-none
returns-clause-none g c = lookup-nowhere (g.K.PartialEq.eq c.args.key) c.args.rows.now (λ j d below. c.loop-i.invariant j d (omega arith))

pub returns-then-eq-clause-some : goal.returns-then-eq-clause-some
returns-then-eq-clause-some g c = grind (arith, common_steps)

pub loop-i-preserved : goal.loop-i-preserved
loop-i-preserved c = grind (arith, common_steps)
