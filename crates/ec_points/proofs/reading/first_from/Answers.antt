-- The marks in front of the first that is not before the time are.
use Rattle.std.proofs.Common.{sym, ◌∙◌, arith}
use Rattle.std.proofs.lemmas.Grind.{common_steps}
use Rattle.ec_points.proofs.NearMarks.{before-next}
use Rattle.ec_points.proofs.reading.first_from.Goals as goal

pub returns-then-not-is_before-clause-within : goal.returns-then-not-is_before-clause-within
returns-then-not-is_before-clause-within c = grind (arith, common_steps)

pub loop-k-preserved : goal.loop-k-preserved
loop-k-preserved g c =
    before-next g.T.Moment.rank (g.T.Moment.rank c.args.at) c.args.run.now c.loop-k.k c.index-run-k.result (omega (arith, c.loop-k-test.true, c.min-k-end.ensures)) c.index-run-k.is
    (sym c.is_before.ensures ∙ c.if-not-is_before.false) c.loop-k.invariant
