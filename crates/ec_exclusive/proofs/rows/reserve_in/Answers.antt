-- Room alone changes.
use Rattle.std.proofs.Common.{sym, arith}
use Rattle.std.proofs.lemmas.Grind.{common_steps}
use Rattle.ec_exclusive.proofs.FieldLists.{lists_of-set}
use Rattle.ec_exclusive.proofs.rows.reserve_in.Goals as goal

pub returns-in_err-reserve-clause-same : goal.returns-in_err-reserve-clause-same
returns-in_err-reserve-clause-same c =
    lists_of-set c.args.rows.now c.args.q.0 c.in-Some.row.now (record { neighbours = c.reserve.new.self }) (sym c.in-Some.ensures.kept) c.reserve.ensures.same

pub returns-in_ok-reserve-clause-same : goal.returns-in_ok-reserve-clause-same
returns-in_ok-reserve-clause-same c =
    lists_of-set c.args.rows.now c.args.q.0 c.in-Some.row.now (record { neighbours = c.reserve.new.self }) (sym c.in-Some.ensures.kept) c.reserve.ensures.same

pub returns-in_err-reserve-clause-others : goal.returns-in_err-reserve-clause-others
returns-in_err-reserve-clause-others c = grind (arith, common_steps)

pub returns-in_ok-reserve-clause-room : goal.returns-in_ok-reserve-clause-room
returns-in_ok-reserve-clause-room c = grind (arith, common_steps)

pub returns-in_ok-reserve-clause-others : goal.returns-in_ok-reserve-clause-others
returns-in_ok-reserve-clause-others c = grind (arith, common_steps)
