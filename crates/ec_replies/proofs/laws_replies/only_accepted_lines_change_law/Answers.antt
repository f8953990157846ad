-- Each outcome that leaves another state is told by one of the three, and none of them begins as a refusal does.
use Rattle.ec_replies.proofs.StepLaws.{OnlyAcceptedLinesChange-law, RefusedLinesChangeNothing-law}
use Rattle.ec_replies.proofs.laws_replies.only_accepted_lines_change_law.Goals as goal

pub returns-clause-accepted : goal.returns-clause-accepted
returns-clause-accepted c = OnlyAcceptedLinesChange-law

pub returns-clause-refused : goal.returns-clause-refused
returns-clause-refused c = RefusedLinesChangeNothing-law
