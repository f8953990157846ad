-- The lines that are left lead from the events so far to where all lines lead; each line is taken off the text.
use Rattle.std.proofs.Common.{◌≡◌, ◌+◌, ◌≤◌, length}
use Rattle.ec_commands.specs.Lines.{lines_of}
use Rattle.ec_replies.specs.Replies.{Language}
use Rattle.ec_cert.specs.EventFile.{read_from}
use Rattle.ec_cert.proofs.event_file.Reading.with_lines.Given as goal

abbrev pub invariant-loop-line : goal.invariant-loop-line
invariant-loop-line g l =
    let language : Language = record { theory = l.fn.self.theory; spelt = g.T.Moment.spelt; canon = g.T.Moment.canon } in
    record {
      count : l.number + length l.rest ≤ length l.bytes + 1;
      same : l.reading ≡ record l.fn.self { events = l.reading.events };
      read : read_from language l.fn.self.all l.number l.reading.events (lines_of l.rest) ≡ read_from language l.fn.self.all 1 l.fn.self.events (lines_of l.bytes);
    }

abbrev pub decreases-loop-line : goal.decreases-loop-line
decreases-loop-line g l = length l.rest
