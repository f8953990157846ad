-- Those at the time stand between the two places of the run.
use Rattle.std.proofs.Common.{◌-◌, arith}
use Rattle.std.proofs.lemmas.Grind.{common_steps}
use Rattle.ec_entries.proofs.NearRuns.{dependents_at-few}
use Rattle.ec_entries.proofs.ordered.near_at.Goals as goal

pub returns : goal.returns
returns g c =
    dependents_at-few g.T.Moment.rank (g.T.Moment.rank c.args.at) c.args.list.now.items c.run-run.result.now (c.args.near.now - 1)
    (omega (arith, c.if-place-eq0.false, c.if-place-len.false, c.len.ensures)) c.run-run.ensures.run c.requires
    c.in_ok-before.before c.in_ok-end.end (omega (arith, c.if-before-eq0.false)) c.in_ok-end.ensures.behind c.in_ok-end.ensures.within
    c.in_ok-before.ensures.front c.in_ok-before.ensures.next c.in_ok-end.ensures.front c.in_ok-end.ensures.next

pub returns-in_err-before : goal.returns-in_err-before
returns-in_err-before c = grind (arith, common_steps)

pub returns-in_err-end : goal.returns-in_err-end
returns-in_err-end c = grind (arith, common_steps)
