-- A member of the run is the one at its place.
use Rattle.ec_points.proofs.Lists.{slice_get-in_run}
use Rattle.ec_points.proofs.reading.mark_in.Goals as goal

pub returns-then-k-run : goal.returns-then-k-run
returns-then-k-run g c =
    slice_get-in_run (g.M.MarkRow.marks c.args.row.now) c.args.run.now c.args.from c.args.i c.index-run-k.result c.requires.run c.requires.behind c.if-k-run.true c.index-run-k.is
