-- The notes are those of each session, one behind the other.
use Rattle.ec_replies.proofs.FollowedNotes.{NotesAreTold-law}
use Rattle.ec_replies.proofs.laws_notes.notes_are_told_law.Goals as goal

pub returns : goal.returns
returns c = NotesAreTold-law
