-- The engine of the chronicle is seen as the theory and the events of the sessions.
use Rattle.std.proofs.Common.{◌+◌, ◌≤◌, List, false, subst}
use Rattle.ec_terms.specs.declared.theory.Theory.{Theory}
use Rattle.ec_axioms.specs.Calculus.{PlainEvent}
use Rattle.ec_lines.specs.ShownCommand.{plain_query}
use Rattle.ec_replies.specs.Replies.{query_text, reply_line}
use Rattle.ec_sessions.specs.Answering.{IsWritten}
use Rattle.ec_sessions.specs.LineSteps.{most_query_steps}
use Rattle.ec_sessions.specs.SessionsState.{SessionsState}
use Rattle.ec_sessions.proofs.sessions.Sessions.ask.Goals as goal

pub returns-clause-written : goal.returns-clause-written
returns-clause-written g c =
    let engine = c.engine.result.now in
    let Tells : Theory → List PlainEvent → Type 0 = λ theory events. IsWritten g.K.Sink.stands c.reply_to_query.result false
    (reply_line c.args.prefix (query_text (record { theory = theory; spelt = g.T.Moment.spelt; canon = g.T.Moment.canon }) events (plain_query g.T.Moment.rank c.args.query.now)))
    c.args.out.now c.reply_to_query.new.out in
    subst (λ (d : SessionsState). Tells d.theory d.state.events) c.self.view_is
    (subst (λ (events : List PlainEvent). Tells c.self.inside.chronicle.theory events) c.engine.ensures.events
    (subst (λ (theory : Theory). Tells theory engine.events) c.engine.ensures.theory c.reply_to_query.ensures.written))

pub returns-clause-steps : goal.returns-clause-steps
returns-clause-steps g c =
    let engine = c.engine.result.now in
    let IsWithin : Theory → List PlainEvent → Type 0 = λ theory events. c.reply_to_query.new.steps ≤ c.args.steps.now + most_query_steps theory events (plain_query g.T.Moment.rank c.args.query.now) in
    subst (λ (d : SessionsState). IsWithin d.theory d.state.events) c.self.view_is
    (subst (λ (events : List PlainEvent). IsWithin c.self.inside.chronicle.theory events) c.engine.ensures.events
    (subst (λ (theory : Theory). IsWithin theory engine.events) c.engine.ensures.theory c.reply_to_query.ensures.steps))
