-- Each reply but those to updates is made of the session's own watches, and those have their notes behind them.
use Rattle.ec_replies.proofs.OtherWatches.{WatchesShowInNotesAlone-law}
use Rattle.ec_replies.proofs.laws_replies.watches_show_in_notes_alone_law.Goals as goal

pub returns : goal.returns
returns c = WatchesShowInNotesAlone-law
