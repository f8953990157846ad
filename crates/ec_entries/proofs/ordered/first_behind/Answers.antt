-- One dependent more is up to the time.
use Rattle.std.proofs.Common.{◌<◌, length, sym, ◌∙◌, arith}
use Rattle.std.proofs.lemmas.Grind.{common_steps}
use Rattle.std.specs.Prelude.{int_le}
use Rattle.ec_entries.specs.declared.event_entries.Dependent.{Dependent}
use Rattle.ec_entries.proofs.NearRuns.{passes-next}
use Rattle.ec_entries.proofs.ordered.first_behind.Goals as goal

pub returns-then-not-is_up_to-clause-within : goal.returns-then-not-is_up_to-clause-within
returns-then-not-is_up_to-clause-within c = grind (arith, common_steps)

pub loop-k-preserved : goal.loop-k-preserved
loop-k-preserved g c =
    let within : c.loop-k.k < length c.args.run.now = omega (arith, c.loop-k-test.true, c.min-k-end.ensures) in
    passes-next (λ (d : Dependent g.row.T.Denot). int_le (g.T.Moment.rank d.at) (g.T.Moment.rank c.args.at)) c.args.run.now c.args.from c.loop-k.k c.index-run-k.result within c.index-run-k.is
    (sym c.is_up_to.ensures ∙ c.if-not-is_up_to.false) c.loop-k.invariant
