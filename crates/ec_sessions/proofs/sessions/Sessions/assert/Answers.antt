-- By the draft: the update is made, held, or refused because the draft is full.
use Rattle.std.proofs.Common.{◌+◌, ◌≤◌, ℕ, inl, inr, refl, sym, ap, ◌∙◌, subst, arith}
use Rattle.ec_terms.specs.Term.{ground_of}
use Rattle.ec_axioms.specs.Changes.{PlainUpdate, asserting}
use Rattle.ec_lines.specs.ShownAnswer.{plain_answer}
use Rattle.ec_replies.specs.State.{draft_of}
use Rattle.ec_sessions.specs.Drafts.{IsFull, IsOpenWithRoom}
use Rattle.ec_sessions.specs.SessionsState.{SessionsState}
use Rattle.ec_sessions.proofs.Drafted.{IsAnswerBy-closed, reply_to_update-full, update_may_want_memory-room}
use Rattle.ec_sessions.proofs.StepCounts.{most_update_steps-closed}
use Rattle.ec_sessions.proofs.sessions.Sessions.assert.Goals as goal

pub returns-in-Closed-clause-reply : goal.returns-in-Closed-clause-reply
returns-in-Closed-clause-reply g c =
    let update : PlainUpdate = asserting (record { id = c.args.id; rank = g.T.Moment.rank c.args.at; term = ground_of c.args.event.now }) in
    let closed = ap (λ (d : SessionsState). draft_of c.args.session d.state) (sym c.self.view_is) ∙ c.in-Closed.ensures in
    IsAnswerBy-closed c.args.self.now.theory c.args.session c.args.self.now.state update (plain_answer c.assert_at_once.result) c.assert_at_once.new.self.state closed c.assert_at_once.ensures.reply

pub returns-in-Closed-clause-steps : goal.returns-in-Closed-clause-steps
returns-in-Closed-clause-steps g c =
    let update : PlainUpdate = asserting (record { id = c.args.id; rank = g.T.Moment.rank c.args.at; term = ground_of c.args.event.now }) in
    let closed = ap (λ (d : SessionsState). draft_of c.args.session d.state) (sym c.self.view_is) ∙ c.in-Closed.ensures in
    subst (λ (n : ℕ). c.assert_at_once.new.steps ≤ c.args.steps.now + n) (sym (most_update_steps-closed c.args.self.now.theory c.args.session c.args.self.now.state update closed)) (omega (arith, c.assert_at_once.ensures.steps))

pub returns-in-Err-clause-reply : goal.returns-in-Err-clause-reply
returns-in-Err-clause-reply g c =
    let update : PlainUpdate = asserting (record { id = c.args.id; rank = g.T.Moment.rank c.args.at; term = ground_of c.args.event.now }) in
    let room = subst (λ (d : SessionsState). IsOpenWithRoom (draft_of c.args.session d.state)) c.self.view_is c.in-Open.ensures in
    inr (update_may_want_memory-room c.args.self.now.theory c.args.session c.args.self.now.state update room, refl, refl)

pub returns-in-Full-clause-reply : goal.returns-in-Full-clause-reply
returns-in-Full-clause-reply g c =
    let update : PlainUpdate = asserting (record { id = c.args.id; rank = g.T.Moment.rank c.args.at; term = ground_of c.args.event.now }) in
    let full = subst (λ (d : SessionsState). IsFull (draft_of c.args.session d.state)) c.self.view_is c.in-Full.ensures in
    inl (reply_to_update-full c.args.self.now.theory c.args.session c.args.self.now.state update full)
