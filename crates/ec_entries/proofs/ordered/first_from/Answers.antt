-- One dependent more is before the time.
use Rattle.std.proofs.Common.{◌<◌, length, sym, ◌∙◌, arith}
use Rattle.std.proofs.lemmas.Grind.{common_steps}
use Rattle.std.specs.Prelude.{int_lt}
use Rattle.ec_entries.specs.declared.event_entries.Dependent.{Dependent}
use Rattle.ec_entries.proofs.NearRuns.{passes-next}
use Rattle.ec_entries.proofs.ordered.first_from.Goals as goal

pub loop-k-preserved : goal.loop-k-preserved
loop-k-preserved g c j d =
    let within : c.loop-k.k < length c.args.run.now = omega (arith, c.loop-k-test.true, c.min-k-end.ensures) in
    passes-next (λ (d : Dependent g.row.T.Denot). int_lt (g.T.Moment.rank d.at) (g.T.Moment.rank c.args.at)) c.args.run.now 0 c.loop-k.k c.index-run-k.result within c.index-run-k.is
    (sym c.is_before.ensures ∙ c.if-not-is_before.false) (λ j d _ below. c.loop-k.invariant j d below) j d (omega arith)

pub returns-then-not-is_before-clause-within : goal.returns-then-not-is_before-clause-within
returns-then-not-is_before-clause-within c = grind (arith, common_steps)
