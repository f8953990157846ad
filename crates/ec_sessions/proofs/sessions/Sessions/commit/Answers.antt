-- All updates of the draft are made and it is closed, or nothing changed.
use Rattle.std.proofs.Common.{◌+◌, ◌≤◌, ℕ, Err, List, inl, inr, map, sym, ap, ◌∙◌, refl, subst, arith}
use Rattle.std.proofs.lemmas.List.{length-map}
use Rattle.ec_commands.specs.Answers.{answer_ok, refused_commit, refused_memory}
use Rattle.ec_axioms.specs.Changes.{PlainUpdate}
use Rattle.ec_axioms.specs.Events.{plain_update}
use Rattle.ec_replies.specs.State.{Draft, State, draft_of}
use Rattle.ec_replies.specs.Replies.{answering, reply_to_commit}
use Rattle.ec_replies.specs.Runs.{commit_may_want_memory}
use Rattle.ec_replies.proofs.ByDraft.{reply_to_commit-closed, commit_may_want_memory-open}
use Rattle.ec_sessions.specs.Answering.{IsAnswerBy}
use Rattle.ec_sessions.specs.LineSteps.{most_commit_steps}
use Rattle.ec_batch.specs.declared.refusal.Refusal.{Refusal}
use Rattle.ec_past.specs.Chronicles.{IsCommitted}
use Rattle.ec_sessions.specs.SessionsState.{SessionsState, kept_state, revised_state}
use Rattle.ec_sessions.proofs.Revisions.{reply_to_commit-made, reply_to_commit-refused, state-same}
use Rattle.ec_sessions.proofs.StepCounts.{most_commit_steps-open}
use Rattle.ec_sessions.proofs.sessions.Sessions.commit.Goals as goal

pub returns-in_default-clause-reply : goal.returns-in_default-clause-reply
returns-in_default-clause-reply g c = inl (λ prefix.
    reply_to_commit-closed prefix c.args.session c.args.self.now.state c.args.self.now.theory
    (ap (λ (d : SessionsState). draft_of c.args.session d.state) (sym c.self.view_is) ∙ c.in_default.ensures.closed))

pub returns-in-Ok-clause-reply : goal.returns-in-Ok-clause-reply
returns-in-Ok-clause-reply g c =
    let inside : State = kept_state c.self.inside.chronicle.events c.self.inside.chronicle.past c.self.inside.last c.self.inside.drafts in
    let theory = c.self.inside.chronicle.theory in
    let made : State = revised_state c.commit.new.self.events c.commit.new.self.past c.in-Ok.seen inside in
    let after : List Draft → State = λ ds. record made { drafts = ds } in
    subst (λ (d : SessionsState). IsAnswerBy (λ prefix. reply_to_commit d.theory prefix c.args.session d.state) (commit_may_want_memory d.theory c.args.session d.state) d.state answer_ok (after c.close.new.self)) c.self.view_is
    (inl (λ prefix. reply_to_commit-made theory inside c.args.session _ c.in-Ok.seen c.commit.new.self.events c.commit.new.self.past c.in-Some.ensures.open c.in-Ok.ensures.committed c.in-Ok.ensures.past prefix
    ∙ ap (λ ds. answering prefix answer_ok (after ds)) (sym c.close.ensures)))

pub returns-in-Err-Update-clause-reply : goal.returns-in-Err-Update-clause-reply
returns-in-Err-Update-clause-reply g c =
    let inside : State = kept_state c.self.inside.chronicle.events c.self.inside.chronicle.past c.self.inside.last c.self.inside.drafts in
    let theory = c.self.inside.chronicle.theory in
    let held : List PlainUpdate = map (plain_update g.T.Moment.rank) c.in-Some.held.now in
    let after : State = revised_state c.commit.new.self.events c.commit.new.self.past c.self.inside.last inside in
    subst (λ (d : SessionsState). IsAnswerBy (λ prefix. reply_to_commit d.theory prefix c.args.session d.state) (commit_may_want_memory d.theory c.args.session d.state) d.state (refused_commit c.in-Err-Update.place c.in-Err-Update.cut) after) c.self.view_is
    (inl (λ prefix. reply_to_commit-refused theory inside c.args.session _ c.in-Err-Update.place c.in-Err-Update.cut c.commit.new.self.events c.commit.new.self.past c.in-Some.ensures.open
    (subst (λ (r : Refusal). IsCommitted theory inside.events held (Err r) after.events) c.in-Err-Update.field-0-is c.in-Err-Update.ensures.committed) c.in-Err-Update.ensures.past prefix))

pub returns-in-Err-Memory-clause-reply : goal.returns-in-Err-Memory-clause-reply
returns-in-Err-Memory-clause-reply g c =
    let inside : State = kept_state c.self.inside.chronicle.events c.self.inside.chronicle.past c.self.inside.last c.self.inside.drafts in
    let theory = c.self.inside.chronicle.theory in
    let held : List PlainUpdate = map (plain_update g.T.Moment.rank) c.in-Some.held.now in
    let after : State = revised_state c.commit.new.self.events c.commit.new.self.past c.self.inside.last inside in
    let wanting = subst (λ (r : Refusal). IsCommitted theory inside.events held (Err r) after.events) c.in-Err-Memory.field-0-is c.in-Err-Memory.ensures.committed in
    subst (λ (d : SessionsState). IsAnswerBy (λ prefix. reply_to_commit d.theory prefix c.args.session d.state) (commit_may_want_memory d.theory c.args.session d.state) d.state refused_memory after) c.self.view_is
    (inr (
      commit_may_want_memory-open c.args.session inside theory held c.in-Some.ensures.open ∙ wanting.0,
      refl,
      state-same theory inside c.commit.new.self.events c.commit.new.self.past wanting.1 c.in-Err-Memory.ensures.past,
    ))

pub returns-in-Ok-clause-steps : goal.returns-in-Ok-clause-steps
returns-in-Ok-clause-steps g c =
    let inside : State = kept_state c.self.inside.chronicle.events c.self.inside.chronicle.past c.self.inside.last c.self.inside.drafts in
    let held : List PlainUpdate = map (plain_update g.T.Moment.rank) c.in-Some.held.now in
    subst (λ (d : SessionsState). c.commit.new.steps ≤ c.args.steps.now + most_commit_steps d.theory c.args.session d.state) c.self.view_is
    (subst (λ (n : ℕ). c.commit.new.steps ≤ c.args.steps.now + n) (sym (most_commit_steps-open c.self.inside.chronicle.theory c.args.session inside held c.in-Some.ensures.open)) (omega (arith, c.commit.ensures.steps, length-map c.in-Some.held.now (plain_update g.T.Moment.rank))))

pub returns-in-Err-Update-clause-steps : goal.returns-in-Err-Update-clause-steps
returns-in-Err-Update-clause-steps g c =
    let inside : State = kept_state c.self.inside.chronicle.events c.self.inside.chronicle.past c.self.inside.last c.self.inside.drafts in
    let held : List PlainUpdate = map (plain_update g.T.Moment.rank) c.in-Some.held.now in
    subst (λ (d : SessionsState). c.commit.new.steps ≤ c.args.steps.now + most_commit_steps d.theory c.args.session d.state) c.self.view_is
    (subst (λ (n : ℕ). c.commit.new.steps ≤ c.args.steps.now + n) (sym (most_commit_steps-open c.self.inside.chronicle.theory c.args.session inside held c.in-Some.ensures.open)) (omega (arith, c.commit.ensures.steps, length-map c.in-Some.held.now (plain_update g.T.Moment.rank))))

pub returns-in-Err-Memory-clause-steps : goal.returns-in-Err-Memory-clause-steps
returns-in-Err-Memory-clause-steps g c =
    let inside : State = kept_state c.self.inside.chronicle.events c.self.inside.chronicle.past c.self.inside.last c.self.inside.drafts in
    let held : List PlainUpdate = map (plain_update g.T.Moment.rank) c.in-Some.held.now in
    subst (λ (d : SessionsState). c.commit.new.steps ≤ c.args.steps.now + most_commit_steps d.theory c.args.session d.state) c.self.view_is
    (subst (λ (n : ℕ). c.commit.new.steps ≤ c.args.steps.now + n) (sym (most_commit_steps-open c.self.inside.chronicle.theory c.args.session inside held c.in-Some.ensures.open)) (omega (arith, c.commit.ensures.steps, length-map c.in-Some.held.now (plain_update g.T.Moment.rank))))
