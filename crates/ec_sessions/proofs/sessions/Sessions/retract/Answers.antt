-- By the draft: the update is made, held, or refused because the draft is full.
use Rattle.std.proofs.Common.{◌+◌, ◌≤◌, ℕ, inl, sym, ap, ◌∙◌, subst, arith}
use Rattle.ec_axioms.specs.Changes.{PlainUpdate, retracting}
use Rattle.ec_lines.specs.ShownAnswer.{plain_answer}
use Rattle.ec_replies.specs.State.{draft_of}
use Rattle.ec_sessions.specs.Drafts.{IsFull}
use Rattle.ec_sessions.specs.SessionsState.{SessionsState}
use Rattle.ec_sessions.proofs.Drafted.{IsAnswerBy-closed, reply_to_update-full}
use Rattle.ec_sessions.proofs.StepCounts.{most_update_steps-closed}
use Rattle.ec_sessions.proofs.sessions.Sessions.retract.Goals as goal

pub returns-in-Closed-clause-reply : goal.returns-in-Closed-clause-reply
returns-in-Closed-clause-reply g c =
    let update : PlainUpdate = retracting c.args.id in
    let closed = ap (λ (d : SessionsState). draft_of c.args.session d.state) (sym c.self.view_is) ∙ c.in-Closed.ensures in
    IsAnswerBy-closed c.args.self.now.theory c.args.session c.args.self.now.state update (plain_answer c.retract_at_once.result) c.retract_at_once.new.self.state closed c.retract_at_once.ensures.reply

pub returns-in-Closed-clause-steps : goal.returns-in-Closed-clause-steps
returns-in-Closed-clause-steps g c =
    let update : PlainUpdate = retracting c.args.id in
    let closed = ap (λ (d : SessionsState). draft_of c.args.session d.state) (sym c.self.view_is) ∙ c.in-Closed.ensures in
    subst (λ (n : ℕ). c.retract_at_once.new.steps ≤ c.args.steps.now + n) (sym (most_update_steps-closed c.args.self.now.theory c.args.session c.args.self.now.state update closed)) (omega (arith, c.retract_at_once.ensures.steps))

pub returns-in-Full-clause-reply : goal.returns-in-Full-clause-reply
returns-in-Full-clause-reply g c =
    let update : PlainUpdate = retracting c.args.id in
    let full = subst (λ (d : SessionsState). IsFull (draft_of c.args.session d.state)) c.self.view_is c.in-Full.ensures in
    inl (reply_to_update-full c.args.self.now.theory c.args.session c.args.self.now.state update full)
