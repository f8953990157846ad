-- No property has other intervals than its own.
use Rattle.ec_replies.proofs.NoteLemmas.{SameEventsHaveNoNote-law, NoWatchHasNoNote-law}
use Rattle.ec_replies.proofs.laws_notes.no_note_where_nothing_differs_law.Goals as goal

pub returns-clause-same_events : goal.returns-clause-same_events
returns-clause-same_events c = SameEventsHaveNoNote-law

pub returns-clause-no_watch : goal.returns-clause-no_watch
returns-clause-no_watch c = NoWatchHasNoNote-law
