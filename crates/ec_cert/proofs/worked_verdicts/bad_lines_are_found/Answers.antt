-- Both sides compute to the same.
use Rattle.std.proofs.Common.{refl}
use Rattle.ec_cert.specs.Verdicts.{bad_line}
use Rattle.ec_cert.proofs.worked_verdicts.bad_lines_are_found.Goals as goal

pub returns : goal.returns
unfolding bad_line
returns c = record { empty = refl; other = refl; other_end = refl; cut_off = refl; one_more = refl }
