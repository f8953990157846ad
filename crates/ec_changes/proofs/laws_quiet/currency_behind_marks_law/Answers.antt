-- A mark with a count initiates or breaks.
use Rattle.ec_changes.proofs.Quiet.{CurrencyBehindMarks-law}
use Rattle.ec_changes.proofs.laws_quiet.currency_behind_marks_law.Goals as goal

pub returns : goal.returns
returns c = CurrencyBehindMarks-law
