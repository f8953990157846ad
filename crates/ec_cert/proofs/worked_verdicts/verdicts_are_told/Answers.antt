-- Both sides compute to the same.
use Rattle.std.proofs.Common.{refl}
use Rattle.ec_cert.specs.Verdicts.{bad_line, verdict_of}
use Rattle.ec_cert.proofs.worked_verdicts.verdicts_are_told.Goals as goal

pub returns : goal.returns
unfolding bad_line verdict_of
returns c = record { holds = refl; does_not = refl; bad = refl }
