-- What follows from the calls and the tests before it.
use Rattle.std.proofs.Common.{sym, arith}
use Rattle.std.proofs.lemmas.Grind.{common_steps}
use Rattle.std.proofs.lemmas.Option.{slice_get_past}
use Rattle.ec_points.proofs.reading.mark_if.Goals as goal

pub returns-then-i-len : goal.returns-then-i-len
returns-then-i-len c = grind (arith, common_steps)

pub returns-else-i-len : goal.returns-else-i-len
returns-else-i-len g c = sym (slice_get_past (g.M.MarkRow.marks c.args.row.now) c.args.i (omega (arith, c.len.ensures.len, c.if-i-len.false)))
