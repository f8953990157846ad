-- Each query's text is made of the events and the counts, or of the events and the past.
use Rattle.ec_replies.proofs.OwnDraft.{PastQueriesIgnoreDrafts-law, QueriesIgnoreDrafts-law}
use Rattle.ec_replies.proofs.StepLaws.{QueriesChangeNothing-law}
use Rattle.ec_replies.proofs.laws_replies.queries_ignore_drafts_law.Goals as goal

pub returns-clause-ignore : goal.returns-clause-ignore
returns-clause-ignore c = QueriesIgnoreDrafts-law

pub returns-clause-past : goal.returns-clause-past
returns-clause-past c = PastQueriesIgnoreDrafts-law

pub returns-clause-keep : goal.returns-clause-keep
returns-clause-keep c = QueriesChangeNothing-law
