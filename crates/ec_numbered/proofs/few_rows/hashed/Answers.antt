-- Each row is put into the map, where its key is not yet.
use Rattle.std.proofs.Common.{arith}
use Rattle.std.proofs.lemmas.Grind.{common_steps}
use Rattle.ec_numbered.proofs.KeyedRowLemmas.{lookup-next}
use Rattle.ec_numbered.proofs.few_rows.hashed.Goals as goal

pub loop-row-preserved : goal.loop-row-preserved
loop-row-preserved g c = λ k.
    lookup-next g.K.PartialEq.eq g.met.K.Eq.laws c.args.rows.now c.loop-row.row-index c.row-item.result c.loop-row-test.true c.row-item.is c.requires c.loop-row.map.entries c.insert.new.self.entries
    c.loop-row.invariant (λ j. c.in_ok-insert.ensures.updates.0 j) k

pub returns : goal.returns
returns c = grind (arith, common_steps)
