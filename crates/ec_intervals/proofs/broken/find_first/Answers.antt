-- In front of all marks that begin is open which an initial property has.
use Rattle.std.proofs.Common.{ap}
use Rattle.std.specs.Prelude.{option_map}
use Rattle.ec_rows.specs.PlainMarks.{plain_marks}
use Rattle.ec_intervals.specs.Broken.{first_after}
use Rattle.ec_intervals.specs.Steps.{broken_through}
use Rattle.ec_intervals.specs.Table.{plain_begin}
use Rattle.ec_intervals.proofs.broken.find_first.Goals as goal

pub returns-in_default : goal.returns-in_default
returns-in_default g c =
    ap (λ begun. first_after (option_map (plain_begin g.T.Moment.rank) c.args.after) (broken_through c.args.strong begun (plain_marks g.T.Moment.rank (g.M.MarkRow.marks c.args.row.now)))) c.first_open.ensures
