-- A question that is not refused makes its list ready, and leaves the state as it was.
use Rattle.std.proofs.Common.{◌≡◌, ◌+◌, ◌≤◌, ℕ, List, refl, sym, ap, ◌∙◌, subst, arith}
use Rattle.ec_axioms.specs.Calculus.{PlainEvent}
use Rattle.ec_commands.specs.Answers.{refused_memory}
use Rattle.ec_commands.specs.Commands.{ask_past}
use Rattle.ec_lines.specs.ShownAnswer.{plain_answer}
use Rattle.ec_lines.specs.ShownCommand.{plain_query}
use Rattle.ec_past.specs.Viewing.{way_steps}
use Rattle.ec_replies.specs.Past.{Past, first_kept}
use Rattle.ec_replies.specs.Replies.{Language}
use Rattle.ec_replies.specs.State.{State}
use Rattle.ec_sessions.specs.declared.told.Told.{Told}
use Rattle.ec_sessions.specs.Answering.{IsAnswerTo, IsReadyFor, IsTold}
use Rattle.ec_sessions.specs.SessionsState.{SessionsState, kept_state}
use Rattle.ec_sessions.proofs.PastQuestions.{IsAnswerTo-past-memory, IsAnswerTo-past-refused, asked-kept, asked-past, unless_refused-asked}
use Rattle.ec_sessions.proofs.sessions.Sessions.ask_past.Goals as goal
use Rattle.ec_sessions.proofs.sessions.Sessions.ask_past.Goals.{in-Ok, in-Err}

pub returns-in-Some-clause-told : goal.returns-in-Some-clause-told
returns-in-Some-clause-told g c = λ session.
    let language : Language = record { theory = c.args.self.now.theory; spelt = g.T.Moment.spelt; canon = g.T.Moment.canon } in
    IsAnswerTo-past-refused language c.args.self.now.state c.args.count (plain_query g.T.Moment.rank c.args.query) session (plain_answer c.in-Some.answer)
    c.in-Some.ensures.refused c.in-Some.ensures.goes_on

pub returns-clause-told : goal.returns-clause-told
returns-clause-told g c = λ session.
    let language : Language = record { theory = c.args.self.now.theory; spelt = g.T.Moment.spelt; canon = g.T.Moment.canon } in
    let rank = g.T.Moment.rank in
    let query = plain_query rank c.args.query in
    let before = c.args.self.now.state in
    let inside = c.self.inside in
    let after : State = kept_state c.go_to.new.self.events c.go_to.new.self.past inside.last inside.drafts in
    let same : after ≡ before =
    ap (λ (events : List PlainEvent). kept_state events c.go_to.new.self.past inside.last inside.drafts) c.go_to.ensures.events
    ∙ ap (λ (past : Past). kept_state inside.chronicle.events past inside.last inside.drafts) c.go_to.ensures.past
    ∙ ap (λ (d : SessionsState). d.state) c.self.view_is in
    let asked = c.in_default.ensures.asked in
    elim c.match-go_to.branch [
      | in-Ok w ↦ subst (λ (told : Told g.row.T.Denot). IsTold rank language session before (ask_past c.args.count query) told after) (sym w.result-is) (refl, asked, same)
      | in-Err w ↦ subst (λ (told : Told g.row.T.Denot). IsTold rank language session before (ask_past c.args.count query) told after) (sym w.result-is)
          (subst (λ (s : State). IsAnswerTo language session before (ask_past c.args.count query) refused_memory s) (sym same)
          (IsAnswerTo-past-memory language before c.args.count query asked session))
    ]

pub returns-in-Some-clause-steps : goal.returns-in-Some-clause-steps
returns-in-Some-clause-steps g c = omega arith

pub go_to-requires-clause-kept : goal.go_to-requires-clause-kept
go_to-requires-clause-kept g c =
    let language : Language = record { theory = c.args.self.now.theory; spelt = g.T.Moment.spelt; canon = g.T.Moment.canon } in
    subst (λ (d : SessionsState). first_kept d.state.past ≤ c.args.count) (sym c.self.view_is)
    (asked-kept language c.args.self.now.state c.args.count (plain_query g.T.Moment.rank c.args.query) c.in_default.ensures.asked)

pub go_to-requires-clause-past : goal.go_to-requires-clause-past
go_to-requires-clause-past g c =
    let language : Language = record { theory = c.args.self.now.theory; spelt = g.T.Moment.spelt; canon = g.T.Moment.canon } in
    subst (λ (d : SessionsState). c.args.count ≤ d.state.past.count) (sym c.self.view_is)
    (asked-past language c.args.self.now.state c.args.count (plain_query g.T.Moment.rank c.args.query) c.in_default.ensures.asked)

pub returns-clause-ready : goal.returns-clause-ready
returns-clause-ready g c =
    let inside = c.self.inside in
    let after : SessionsState = record {
      theory = c.go_to.new.self.theory;
      state = kept_state c.go_to.new.self.events c.go_to.new.self.past inside.last inside.drafts;
      viewed = c.go_to.new.self.viewed;
    } in
    elim c.match-go_to.branch [
      | in-Ok w ↦ subst (λ (told : Told g.row.T.Denot). IsReadyFor told after) (sym w.result-is) w.in-Ok.ensures.ready
      | in-Err w ↦ subst (λ (told : Told g.row.T.Denot). IsReadyFor told after) (sym w.result-is) tt
    ]

pub returns-clause-steps : goal.returns-clause-steps
returns-clause-steps g c =
    let language : Language = record { theory = c.args.self.now.theory; spelt = g.T.Moment.spelt; canon = g.T.Moment.canon } in
    let query = plain_query g.T.Moment.rank c.args.query in
    let way = subst (λ (d : SessionsState). c.go_to.new.steps ≤ c.args.steps.now + way_steps d.theory d.state.events d.state.past d.viewed c.args.count) c.self.view_is c.go_to.ensures.steps in
    subst (λ (n : ℕ). c.go_to.new.steps ≤ c.args.steps.now + n) (sym (unless_refused-asked language c.args.self.now.state c.args.count query c.in_default.ensures.asked _)) way

pub returns-clause-theory : goal.returns-clause-theory
returns-clause-theory g c = c.go_to.ensures.theory ∙ ap (λ (d : SessionsState). d.theory) c.self.view_is
