-- Both lists ascend by begin and have the same members.
use Rattle.ec_replies.proofs.NoteLemmas.{NotesTellTheIntervals-law}
use Rattle.ec_replies.proofs.laws_notes.notes_tell_the_intervals_law.Goals as goal

pub returns : goal.returns
returns c = NotesTellTheIntervals-law
