-- No event, and a journal of no update.
use Rattle.std.proofs.Common.{ap₂, ◌∙◌, None}
use Rattle.ec_replies.specs.Past.{empty_past}
use Rattle.ec_engine.specs.Standing.{Standing}
use Rattle.ec_past.specs.Chronicles.{PlainChronicle}
use Rattle.ec_past.specs.Journals.{PlainJournal, past_of}
use Rattle.ec_past.proofs.chronicle.Chronicle.new.Goals as goal

pub returns : goal.returns
unfolding empty_past
returns g c = ap₂ seen c.in_ok-engine.ensures (c.in_ok-journal.ensures ∙ c.in_ok-new.ensures)
  where
    seen : Standing → PlainJournal → PlainChronicle
    seen engine journal = record { theory = engine.theory; events = engine.events; past = past_of engine.events journal; viewed = None }
