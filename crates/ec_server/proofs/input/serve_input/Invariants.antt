-- What was taken is served, less of the limit is left, no line waits, no fault was counted, no read met the end, and nothing was
-- written before the first.
use Rattle.std.proofs.Common.{◌≡◌, ◌⊎◌, false}
use Rattle.ec_outside.specs.Counts.{Rose}
use Rattle.ec_outside.specs.Streams.{NothingAppended}
use Rattle.ec_server.proofs.InputTurns.{IsTaking}
use Rattle.ec_server.proofs.input.serve_input.Given as goal

abbrev pub invariant-loop-buffer : goal.invariant-loop-buffer
invariant-loop-buffer g l = record {
  theory : l.sessions.theory ≡ l.initial.sessions.theory;
  taking : IsTaking g.S.Source.left g.K.Sink.stands (record { theory = l.initial.sessions.theory; spelt = g.T.Moment.spelt; canon = g.T.Moment.canon })
      l.limit l.left l.sessions.state l.feed l.initial.input l.input l.initial.output l.output;
  ready : l.feed.is_ready ≡ false;
  reads : g.S.Source.faults l.input ≡ g.S.Source.faults l.initial.input;
  writes : g.K.Sink.faults l.output ≡ g.K.Sink.faults l.initial.output;
  ended : g.S.Source.ended l.initial.input ≡ 0 → g.S.Source.ended l.input ≡ 0;
  begun : Rose (g.S.Source.reads l.initial.input) (g.S.Source.reads l.input)
      ⊎ ((g.S.Source.reads l.input ≡ g.S.Source.reads l.initial.input) × NothingAppended g.K.Sink.stands l.initial.output l.output);
}

abbrev pub decreases-loop-buffer : goal.decreases-loop-buffer
decreases-loop-buffer g l = l.left
