-- The draft is opened, or it was open and nothing changed.
use Rattle.std.proofs.Common.{◌≡◌, ℕ, Option, List, sym, ap, ◌∙◌, subst}
use Rattle.ec_commands.specs.Answers.{answer_ok}
use Rattle.ec_replies.specs.State.{Draft, State, draft_of}
use Rattle.ec_replies.specs.Replies.{answering, reply_to_begin}
use Rattle.ec_replies.proofs.ByDraft.{reply_to_begin-closed, reply_to_begin-open}
use Rattle.ec_sessions.specs.SessionsState.{SessionsState, kept_state}
use Rattle.ec_sessions.proofs.sessions.Sessions.begin.Goals as goal

pub returns-in-None-clause-reply : goal.returns-in-None-clause-reply
returns-in-None-clause-reply g c =
    let inside : State = kept_state c.self.inside.chronicle.events c.self.inside.chronicle.past c.self.inside.last c.self.inside.drafts in
    let after : List Draft → State = λ ds. record inside { drafts = ds } in
    subst (λ (d : SessionsState). (prefix : Option ℕ) → reply_to_begin prefix c.args.session d.state ≡ answering prefix answer_ok (after c.open.new.self)) c.self.view_is
    (λ prefix. reply_to_begin-closed prefix c.args.session inside c.in-None.ensures.closed ∙ ap (λ ds. answering prefix answer_ok (after ds)) (sym c.open.ensures))

pub returns-in-Some-clause-reply : goal.returns-in-Some-clause-reply
returns-in-Some-clause-reply g c = λ prefix.
    reply_to_begin-open prefix c.args.session c.args.self.now.state _ (ap (λ (d : SessionsState). draft_of c.args.session d.state) (sym c.self.view_is) ∙ c.in-Some.ensures.open)
