-- The marks before the time end among the few that were looked at.
use Rattle.std.proofs.Common.{◌-◌, ◌∙◌, arith}
use Rattle.std.proofs.lemmas.Grind.{common_steps}
use Rattle.ec_points.proofs.NearMarks.{count-in_run}
use Rattle.ec_points.proofs.reading.find_near.Goals as goal

pub returns-clause-place : goal.returns-clause-place
returns-clause-place g c =
    c.in_ok-place.ensures.1
    ∙ count-in_run g.T.Moment.rank (g.T.Moment.rank c.args.at) (g.M.MarkRow.marks c.args.row.now) c.run-run.result.now (c.args.near - 1) c.in_ok-count.count
    c.len-len.ensures.row c.run-run.ensures.run (omega (arith, c.if-count-eq0.false)) c.in_ok-count.ensures.within c.in_ok-count.ensures.front c.in_ok-count.ensures.next

pub returns-in_err-place-clause-run : goal.returns-in_err-place-clause-run
returns-in_err-place-clause-run c = grind (arith, common_steps)

pub returns-in_err-place-clause-place : goal.returns-in_err-place-clause-place
returns-in_err-place-clause-place c = grind (arith, common_steps)

pub returns-in_err-count-clause-run : goal.returns-in_err-count-clause-run
returns-in_err-count-clause-run c = grind (arith, common_steps)

pub returns-clause-run : goal.returns-clause-run
returns-clause-run c = grind (arith, common_steps)

pub returns-clause-behind : goal.returns-clause-behind
returns-clause-behind c = grind (arith, common_steps)

pub returns-in_err-count-clause-place : goal.returns-in_err-count-clause-place
returns-in_err-count-clause-place c = grind (arith, common_steps)

pub returns-in_err-place-clause-behind : goal.returns-in_err-place-clause-behind
returns-in_err-place-clause-behind c = grind (arith, common_steps)

pub returns-in_err-count-clause-behind : goal.returns-in_err-count-clause-behind
returns-in_err-count-clause-behind c = grind (arith, common_steps)
