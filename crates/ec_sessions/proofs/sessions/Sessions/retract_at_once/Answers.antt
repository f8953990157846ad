-- The answer is by what the engine says of the retraction.
use Rattle.std.proofs.Common.{refl, subst}
use Rattle.ec_axioms.specs.Changes.{retracting}
use Rattle.ec_lines.specs.ShownAnswer.{plain_answer}
use Rattle.ec_replies.specs.Replies.{update_reply}
use Rattle.ec_replies.specs.Runs.{may_want_by}
use Rattle.ec_replies.specs.State.{State}
use Rattle.ec_replies.specs.Updates.{retracted}
use Rattle.ec_sessions.specs.Answering.{IsAnswerBy}
use Rattle.ec_sessions.specs.SessionsState.{SessionsState, kept_state, revised_state}
use Rattle.ec_sessions.proofs.sessions.Sessions.retract_at_once.Goals as goal

pub returns-clause-reply : goal.returns-clause-reply
returns-clause-reply g c =
    let inside : State = kept_state c.self.inside.chronicle.events c.self.inside.chronicle.past c.self.inside.last c.self.inside.drafts in
    let after : State = revised_state c.retract-revised.new.self.events c.retract-revised.new.self.past c.answer_revised.new.last inside in
    subst (λ (d : SessionsState). IsAnswerBy (λ prefix. update_reply d.theory prefix d.state (retracted d.state.events c.args.id)) (may_want_by (retracted d.state.events c.args.id)) d.state (plain_answer c.answer_revised.result) after) c.self.view_is
    (c.answer_revised.ensures.reply c.self.inside.chronicle.theory inside (retracting c.args.id) c.retract-revised.new.self.events c.retract-revised.new.self.past refl c.retract-revised.ensures.revised c.retract-revised.ensures.past)
