-- The law is a lemma.
use Rattle.ec_sessions.proofs.StepLawProofs.{PastQuestionsTakeTheirWay-law}
use Rattle.ec_sessions.proofs.laws.past_questions_take_their_way_law.Goals as goal

pub returns : goal.returns
returns c = PastQuestionsTakeTheirWay-law
