-- The answer is by what the engine says of the event.
use Rattle.std.proofs.Common.{refl, subst}
use Rattle.ec_terms.specs.Term.{ground_of}
use Rattle.ec_axioms.specs.Calculus.{PlainEvent}
use Rattle.ec_axioms.specs.Changes.{asserting}
use Rattle.ec_lines.specs.ShownAnswer.{plain_answer}
use Rattle.ec_replies.specs.Replies.{update_reply}
use Rattle.ec_replies.specs.Runs.{may_want_by}
use Rattle.ec_replies.specs.State.{State}
use Rattle.ec_replies.specs.Updates.{asserted}
use Rattle.ec_sessions.specs.Answering.{IsAnswerBy}
use Rattle.ec_sessions.specs.SessionsState.{SessionsState, kept_state, revised_state}
use Rattle.ec_sessions.proofs.sessions.Sessions.assert_at_once.Goals as goal

pub returns-clause-reply : goal.returns-clause-reply
returns-clause-reply g c =
    let inside : State = kept_state c.self.inside.chronicle.events c.self.inside.chronicle.past c.self.inside.last c.self.inside.drafts in
    let after : State = revised_state c.assert-revised.new.self.events c.assert-revised.new.self.past c.answer_revised.new.last inside in
    let event : PlainEvent = record { id = c.args.id; rank = g.T.Moment.rank c.args.at; term = ground_of c.args.event.now } in
    subst (λ (d : SessionsState). IsAnswerBy (λ prefix. update_reply d.theory prefix d.state (asserted d.theory d.state.events event)) (may_want_by (asserted d.theory d.state.events event)) d.state (plain_answer c.answer_revised.result) after) c.self.view_is
    (c.answer_revised.ensures.reply c.self.inside.chronicle.theory inside (asserting event) c.assert-revised.new.self.events c.assert-revised.new.self.past refl c.assert-revised.ensures.revised c.assert-revised.ensures.past)
