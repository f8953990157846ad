-- The line that is ready is handled, and the feed begins the next one.
use Rattle.std.proofs.Common.{◌≡◌, true, arith}
use Rattle.ec_server.proofs.PieceSteps.{IsPieceHandled-ready}
use Rattle.ec_server.proofs.piece.answer_ready.Goals as goal

pub returns-clause-served : goal.returns-clause-served
returns-clause-served g c = λ taken longer start serving advances.
    let ready : c.args.feed.now.is_ready ≡ true = grind (arith, c.ready.ensures, c.if-not-ready.false) in
    IsPieceHandled-ready g.K.Sink.stands (record { theory = c.args.sessions.now.theory; spelt = g.T.Moment.spelt; canon = g.T.Moment.canon }) c.handle-handled.result c.args.feed.now.is_ready
    taken longer c.args.sessions.now.state c.handle-handled.new.self.state c.args.feed.now c.clear.new.self start c.args.out.now c.handle-handled.new.out
    ready advances (λ line is. c.handle-handled.ensures.handled line (c.line.ensures.shown line is))
    c.clear.ensures serving
