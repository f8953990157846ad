-- The next list is there.
use Rattle.std.proofs.Common.{arith}
use Rattle.std.proofs.lemmas.Grind.{common_steps}
use Rattle.ec_exclusive.proofs.InTurn.{IsSome-reserved, has_number-at, prop_at_place}
use Rattle.ec_exclusive.proofs.rows.reserve_each.Goals as goal

pub reserve_in-requires : goal.reserve_in-requires
reserve_in-requires c =
    IsSome-reserved c.args.props.now c.loop-q.q-index c.args.rows.now c.loop-q.rows (prop_at_place c.args.props.now c.loop-q.q-index) c.loop-q.invariant
    (c.requires (prop_at_place c.args.props.now c.loop-q.q-index) (has_number-at c.args.props.now c.loop-q.q-index _ c.loop-q-test.true))

pub returns-clause-room : goal.returns-clause-room
returns-clause-room c = grind (arith, common_steps)

pub loop-q-preserved : goal.loop-q-preserved
loop-q-preserved c = grind (arith, common_steps)
