-- The law is a lemma.
use Rattle.ec_sessions.proofs.StepLawProofs.{EventsTakeAStepEach-law, ReasonsTakeTheirSteps-law}
use Rattle.ec_sessions.proofs.laws.queries_on_events_take_their_steps_law.Goals as goal

pub returns-clause-events : goal.returns-clause-events
returns-clause-events c = EventsTakeAStepEach-law

pub returns-clause-reasons : goal.returns-clause-reasons
returns-clause-reasons c = ReasonsTakeTheirSteps-law
