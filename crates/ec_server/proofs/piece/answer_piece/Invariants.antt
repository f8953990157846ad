-- The bytes before the rest are served, and the rest grows shorter.
use Rattle.std.proofs.Common.{◌≡◌, length}
use Rattle.ec_server.proofs.PieceSteps.{IsUnderWay}
use Rattle.ec_server.proofs.piece.answer_piece.Given as goal

abbrev pub invariant-loop-rest : goal.invariant-loop-rest
invariant-loop-rest g l = record {
  theory : l.sessions.theory ≡ l.initial.sessions.theory;
  under_way : IsUnderWay g.K.Sink.stands g.K.Sink.faults (record { theory = l.initial.sessions.theory; spelt = g.T.Moment.spelt; canon = g.T.Moment.canon }) l.piece l.rest
      l.initial.sessions.state l.sessions.state l.initial.feed l.feed l.initial.out l.out;
}

abbrev pub decreases-loop-rest : goal.decreases-loop-rest
decreases-loop-rest g l = length l.rest
