-- The law is a lemma.
use Rattle.ec_sessions.proofs.StepLawProofs.{HeldUpdatesTakeNoStep-law, CommitsTakeTheirBatch-law}
use Rattle.ec_sessions.proofs.laws.drafts_take_their_steps_at_the_commit_law.Goals as goal

pub returns-clause-held : goal.returns-clause-held
returns-clause-held c = HeldUpdatesTakeNoStep-law

pub returns-clause-commit : goal.returns-clause-commit
returns-clause-commit c = CommitsTakeTheirBatch-law
