-- The engine of the chronicle is seen as the theory and the events of the sessions.
use Rattle.std.proofs.Common.{List, false, subst}
use Rattle.ec_terms.specs.declared.theory.Theory.{Theory}
use Rattle.ec_axioms.specs.Calculus.{PlainEvent}
use Rattle.ec_replies.specs.Replies.{reply_line}
use Rattle.ec_sessions.specs.Answering.{IsWritten, comparison_text}
use Rattle.ec_sessions.specs.SessionsState.{SessionsState}
use Rattle.ec_sessions.proofs.sessions.Sessions.compare.Goals as goal

pub returns-clause-written : goal.returns-clause-written
returns-clause-written g c =
    let engine = c.engine.result.now in
    let Tells : Theory → List PlainEvent → Type 0 = λ theory events. IsWritten g.K.Sink.stands c.reply_to_comparison.result false
    (reply_line c.args.prefix (comparison_text g.T.Moment.rank theory events g.T.Moment.canon c.args.comparison.now)) c.args.out.now c.reply_to_comparison.new.out in
    subst (λ (d : SessionsState). Tells d.theory d.state.events) c.self.view_is
    (subst (λ (events : List PlainEvent). Tells c.self.inside.chronicle.theory events) c.engine.ensures.events
    (subst (λ (theory : Theory). Tells theory engine.events) c.engine.ensures.theory c.reply_to_comparison.ensures.written))
