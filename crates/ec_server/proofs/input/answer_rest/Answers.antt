-- The line behind the last line end is handled as it is.
use Rattle.std.proofs.Common.{◌≡◌, true, arith}
use Rattle.ec_server.proofs.Endings.{IsLast-line}
use Rattle.ec_server.proofs.input.answer_rest.Goals as goal

pub returns-clause-answered : goal.returns-clause-answered
returns-clause-answered g c = λ taken start at.
    let ready : c.end.new.self.is_ready ≡ true = grind (arith, c.ready.ensures, c.if-not-ready.false) in
    IsLast-line g.K.Sink.stands (record { theory = c.args.sessions.now.theory; spelt = g.T.Moment.spelt; canon = g.T.Moment.canon }) c.handle.result c.end.new.self.is_ready taken
    c.args.sessions.now.state c.handle.new.self.state c.end.new.self start c.args.out.now c.handle.new.out ready (c.end.ensures.stream taken at.part)
    (λ line is. c.handle.ensures.handled line (c.line.ensures.shown line is)) at.serving
