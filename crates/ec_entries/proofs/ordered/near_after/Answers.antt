-- The run from the place on is all that is left of it, and begins behind those up to the time.
use Rattle.std.proofs.Common.{◌≡◌, ◌-◌, take, drop, take_all, length, length-drop, sym, subst, arith}
use Rattle.std.proofs.lemmas.Grind.{common_steps}
use Rattle.ec_entries.specs.Dependents.{dependents_after}
use Rattle.ec_entries.proofs.NearRuns.{dependents_after-few}
use Rattle.ec_entries.proofs.ordered.near_after.Goals as goal

pub returns-else-end-eq0-clause-run : goal.returns-else-end-eq0-clause-run
returns-else-end-eq0-clause-run g c =
    let whole : take (length c.run-run.result.now - c.in_ok-end.end) (drop c.in_ok-end.end c.run-run.result.now) ≡ drop c.in_ok-end.end c.run-run.result.now =
    take_all (length c.run-run.result.now - c.in_ok-end.end) (drop c.in_ok-end.end c.run-run.result.now) (omega (arith, length-drop c.in_ok-end.end c.run-run.result.now)) in
    subst (λ run. run ≡ take (length run) (dependents_after g.T.Moment.rank (g.T.Moment.rank c.args.at) c.args.list.now.items)) (sym whole)
    (dependents_after-few g.T.Moment.rank (g.T.Moment.rank c.args.at) c.args.list.now.items c.run-run.result.now (c.args.near - 1)
    (omega (arith, c.if-near-eq0.false, c.if-near-len.false, c.len.ensures)) c.run-run.ensures.run c.requires
    c.in_ok-end.end (omega (arith, c.if-end-eq0.false)) c.in_ok-end.ensures.within c.in_ok-end.ensures.front c.in_ok-end.ensures.next)

pub returns-else-end-eq0-clause-some : goal.returns-else-end-eq0-clause-some
returns-else-end-eq0-clause-some c = grind (arith, common_steps)

pub returns-in_err-end-clause-run : goal.returns-in_err-end-clause-run
returns-in_err-end-clause-run c = grind (arith, common_steps)

pub returns-in_err-end-clause-some : goal.returns-in_err-end-clause-some
returns-in_err-end-clause-some c = grind (arith, common_steps)
