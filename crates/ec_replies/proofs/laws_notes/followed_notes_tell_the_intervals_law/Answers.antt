-- By induction on the lines.
use Rattle.ec_replies.proofs.FollowedNotes.{FollowedNotesTellTheIntervals-law}
use Rattle.ec_replies.proofs.laws_notes.followed_notes_tell_the_intervals_law.Goals as goal

pub returns : goal.returns
returns c = FollowedNotesTellTheIntervals-law
