-- The engine that is lent is seen as the theory and the list of the past.
use Rattle.std.proofs.Common.{◌+◌, ◌≤◌, List, false, sym, subst}
use Rattle.ec_terms.specs.declared.theory.Theory.{Theory}
use Rattle.ec_axioms.specs.Calculus.{PlainEvent}
use Rattle.ec_lines.specs.ShownCommand.{plain_query}
use Rattle.ec_replies.specs.Past.{list_after}
use Rattle.ec_replies.specs.Replies.{query_text, reply_line}
use Rattle.ec_sessions.specs.Answering.{IsWritten}
use Rattle.ec_sessions.specs.LineSteps.{most_query_steps}
use Rattle.ec_sessions.specs.SessionsState.{IsReadyAt, SessionsState}
use Rattle.ec_sessions.proofs.sessions.Sessions.ask_ready.Goals as goal

pub at-requires : goal.at-requires
at-requires g c = subst (λ (d : SessionsState). IsReadyAt c.args.count d) (sym c.self.view_is) c.requires.ready

pub returns-clause-written : goal.returns-clause-written
returns-clause-written g c =
    let engine = c.at.result.now in
    let inside = c.self.inside.chronicle in
    let Tells : Theory → List PlainEvent → Type 0 = λ theory events. IsWritten g.K.Sink.stands c.reply_to_query.result false
    (reply_line c.args.prefix (query_text (record { theory = theory; spelt = g.T.Moment.spelt; canon = g.T.Moment.canon }) events (plain_query g.T.Moment.rank c.args.query.now)))
    c.args.out.now c.reply_to_query.new.out in
    subst (λ (d : SessionsState). Tells d.theory (list_after c.args.count d.state.events d.state.past)) c.self.view_is
    (subst (λ (events : List PlainEvent). Tells inside.theory events) c.at.ensures.list
    (subst (λ (theory : Theory). Tells theory engine.events) c.at.ensures.theory c.reply_to_query.ensures.written))

pub returns-clause-steps : goal.returns-clause-steps
returns-clause-steps g c =
    let engine = c.at.result.now in
    let inside = c.self.inside.chronicle in
    let IsWithin : Theory → List PlainEvent → Type 0 = λ theory events. c.reply_to_query.new.steps ≤ c.args.steps.now + most_query_steps theory events (plain_query g.T.Moment.rank c.args.query.now) in
    subst (λ (d : SessionsState). IsWithin d.theory (list_after c.args.count d.state.events d.state.past)) c.self.view_is
    (subst (λ (events : List PlainEvent). IsWithin inside.theory events) c.at.ensures.list
    (subst (λ (theory : Theory). IsWithin theory engine.events) c.at.ensures.theory c.reply_to_query.ensures.steps))
