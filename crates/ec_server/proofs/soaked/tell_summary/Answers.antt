-- The line sums up the run.
use Rattle.std.proofs.Common.{refl}
use Rattle.ec_soak.specs.Tally.{summary_line}
use Rattle.ec_server.specs.Soaking.{IsSoakLine}
use Rattle.ec_files.proofs.CommandEnds.{line_handed_on}
use Rattle.ec_server.proofs.soaked.tell_summary.Goals as goal

pub returns-in-Ok-clause-says : goal.returns-in-Ok-clause-says
returns-in-Ok-clause-says g c =
    line_handed_on g.K.Sink.stands g.K.Sink.faults c.args.output.now c.hand_on_line.new.output (IsSoakLine c.args.lines c.args.seed) c.write_summary.new.out
    (summary_line c.args.lines c.args.counts.now) c.hand_on_line.result (c.args.counts.now, c.requires, refl) c.in-Ok.ensures.written c.hand_on_line.ensures.kept
    c.in-Ok.ensures.quiet c.hand_on_line.ensures.either c.hand_on_line.ensures.quiet

pub returns-in-Err-clause-says : goal.returns-in-Err-clause-says
returns-in-Err-clause-says g c = (c.in-Err.ensures.failed, (summary_line c.args.lines c.args.counts.now, (c.args.counts.now, c.requires, refl), c.in-Err.ensures.part))
