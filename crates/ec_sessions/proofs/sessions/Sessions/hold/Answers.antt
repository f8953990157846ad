-- The update is held, or memory ran out.
use Rattle.std.proofs.Common.{inl, inr, refl, sym, ap, subst}
use Rattle.ec_axioms.specs.Events.{plain_update}
use Rattle.ec_lines.specs.declared.answer.Answer.{Answer}
use Rattle.ec_lines.specs.ShownAnswer.{plain_answer}
use Rattle.ec_replies.specs.State.{State, draft_of}
use Rattle.ec_replies.specs.Replies.{reply_to_update}
use Rattle.ec_replies.specs.Runs.{update_may_want_memory}
use Rattle.ec_sessions.specs.Answering.{IsAnswerBy}
use Rattle.ec_sessions.specs.Drafts.{IsOpenWithRoom}
use Rattle.ec_sessions.specs.SessionsState.{SessionsState, kept_state}
use Rattle.ec_sessions.proofs.Drafted.{reply_to_update-held, update_may_want_memory-room}
use Rattle.ec_sessions.proofs.sessions.Sessions.hold.Goals as goal
use Rattle.ec_sessions.proofs.sessions.Sessions.hold.Goals.{in-Ok, in-Err}

pub returns-clause-reply : goal.returns-clause-reply
returns-clause-reply g c =
    let inside : State = kept_state c.self.inside.chronicle.events c.self.inside.chronicle.past c.self.inside.last c.self.inside.drafts in
    let theory = c.self.inside.chronicle.theory in
    let update = plain_update g.T.Moment.rank c.args.update in
    let after : State = record inside { drafts = c.push.new.self } in
    let room = subst (λ (d : SessionsState). IsOpenWithRoom (draft_of c.args.session d.state)) (sym c.self.view_is) c.requires.room in
    let here : IsAnswerBy (λ prefix. reply_to_update theory prefix c.args.session inside update) (update_may_want_memory theory c.args.session inside update) inside (plain_answer c.match-push.result) after = elim c.match-push.branch [
      | in-Ok w ↦ subst (λ (a : Answer). IsAnswerBy (λ prefix. reply_to_update theory prefix c.args.session inside update) (update_may_want_memory theory c.args.session inside update) inside (plain_answer a) after) (sym w.result-is)
          (inl (reply_to_update-held theory c.args.session inside update w.in-Ok.count c.push.new.self room w.in-Ok.ensures.ok))
      | in-Err w ↦ subst (λ (a : Answer). IsAnswerBy (λ prefix. reply_to_update theory prefix c.args.session inside update) (update_may_want_memory theory c.args.session inside update) inside (plain_answer a) after) (sym w.result-is)
          (inr (update_may_want_memory-room theory c.args.session inside update room, refl, ap (λ ds. record inside { drafts = ds }) w.in-Err.ensures.err))
    ] in
    subst (λ (d : SessionsState). IsAnswerBy (λ prefix. reply_to_update d.theory prefix c.args.session d.state update) (update_may_want_memory d.theory c.args.session d.state update) d.state (plain_answer c.match-push.result) after) c.self.view_is here
