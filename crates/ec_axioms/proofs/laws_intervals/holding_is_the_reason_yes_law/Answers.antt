-- Only from the last begin before a time may the reason there be yes.
use Rattle.ec_axioms.proofs.HistoryLaws.{HoldingIsTheReasonYes-law}
use Rattle.ec_axioms.proofs.laws_intervals.holding_is_the_reason_yes_law.Goals as goal

pub returns : goal.returns
returns c = HoldingIsTheReasonYes-law
