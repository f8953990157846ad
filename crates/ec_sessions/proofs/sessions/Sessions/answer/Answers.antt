-- Each command is answered as its reply says.
use Rattle.std.proofs.Common.{◌≡◌, ◌+◌, ◌≤◌, refl, sym, ap, ◌∙◌, subst}
use Rattle.ec_terms.specs.Term.{ground_of}
use Rattle.ec_axioms.specs.declared.event.Seen.{Seen}
use Rattle.ec_commands.specs.Answers.{answer_bye, answer_last, refused_syntax}
use Rattle.ec_commands.specs.Commands.{PlainCommand, bad, assert_event, retract_event, begin_draft, commit_draft, abort_draft, ask_last, quit}
use Rattle.ec_lines.specs.ShownAnswer.{plain_answer}
use Rattle.ec_lines.specs.ShownCommand.{plain_command}
use Rattle.ec_replies.specs.Replies.{Language}
use Rattle.ec_sessions.specs.Answering.{IsAnswerTo}
use Rattle.ec_sessions.specs.LineSteps.{most_change_steps}
use Rattle.ec_sessions.specs.SessionsState.{SessionsState, no_watches}
use Rattle.ec_sessions.proofs.AnsweredLines.{IsAnswerTo-abort, IsAnswerTo-assert, IsAnswerTo-bad, IsAnswerTo-begin, IsAnswerTo-commit, IsAnswerTo-last, IsAnswerTo-quit, IsAnswerTo-retract, IsAnswerTo-same}
use Rattle.ec_sessions.proofs.sessions.Sessions.answer.Goals as goal

-- nothing is watched
unwatched : {inside : SessionsState} {seen : SessionsState} → inside ≡ seen → inside.state.watches ≡ no_watches → seen.state.watches ≡ no_watches
unwatched same none = ap (λ (d : SessionsState). d.state.watches) (sym same) ∙ none

pub returns-in-Bad-clause-told : goal.returns-in-Bad-clause-told
returns-in-Bad-clause-told g c =
    let language : Language = record { theory = c.args.self.now.theory; spelt = g.T.Moment.spelt; canon = g.T.Moment.canon } in
    let rank = g.T.Moment.rank in
    IsAnswerTo-same language c.args.session c.args.self.now.state _ bad refused_syntax c.args.self.now.state (ap (plain_command rank) c.in-Bad.is)
    (IsAnswerTo-bad language c.args.session c.args.self.now.state)

pub returns-in-Assert-clause-told : goal.returns-in-Assert-clause-told
returns-in-Assert-clause-told g c =
    let language : Language = record { theory = c.args.self.now.theory; spelt = g.T.Moment.spelt; canon = g.T.Moment.canon } in
    let rank = g.T.Moment.rank in
    IsAnswerTo-same language c.args.session c.args.self.now.state _ (assert_event c.in-Assert.id (rank c.in-Assert.at) (ground_of c.in-Assert.event)) (plain_answer c.assert.result) c.assert.new.self.state (ap (plain_command rank) c.in-Assert.is)
    (IsAnswerTo-assert language c.args.session c.args.self.now.state c.in-Assert.id (rank c.in-Assert.at) (ground_of c.in-Assert.event) (plain_answer c.assert.result) c.assert.new.self.state (unwatched c.self.view_is refl) c.assert.ensures.reply c.assert.ensures.goes_on)

pub returns-in-Assert-clause-steps : goal.returns-in-Assert-clause-steps
unfolding most_change_steps
returns-in-Assert-clause-steps g c =
    let rank = g.T.Moment.rank in
    subst (λ (k : PlainCommand). c.assert.new.steps ≤ c.args.steps.now + most_change_steps c.args.self.now.theory c.args.session c.args.self.now.viewed c.args.self.now.state k) (sym (ap (plain_command rank) c.in-Assert.is))
    c.assert.ensures.steps

pub returns-in-Retract-clause-told : goal.returns-in-Retract-clause-told
returns-in-Retract-clause-told g c =
    let language : Language = record { theory = c.args.self.now.theory; spelt = g.T.Moment.spelt; canon = g.T.Moment.canon } in
    let rank = g.T.Moment.rank in
    IsAnswerTo-same language c.args.session c.args.self.now.state _ (retract_event c.in-Retract.id) (plain_answer c.retract.result) c.retract.new.self.state (ap (plain_command rank) c.in-Retract.is)
    (IsAnswerTo-retract language c.args.session c.args.self.now.state c.in-Retract.id (plain_answer c.retract.result) c.retract.new.self.state (unwatched c.self.view_is refl) c.retract.ensures.reply c.retract.ensures.goes_on)

pub returns-in-Retract-clause-steps : goal.returns-in-Retract-clause-steps
unfolding most_change_steps
returns-in-Retract-clause-steps g c =
    let rank = g.T.Moment.rank in
    subst (λ (k : PlainCommand). c.retract.new.steps ≤ c.args.steps.now + most_change_steps c.args.self.now.theory c.args.session c.args.self.now.viewed c.args.self.now.state k) (sym (ap (plain_command rank) c.in-Retract.is))
    c.retract.ensures.steps

pub returns-in-Begin-clause-told : goal.returns-in-Begin-clause-told
returns-in-Begin-clause-told g c =
    let language : Language = record { theory = c.args.self.now.theory; spelt = g.T.Moment.spelt; canon = g.T.Moment.canon } in
    let rank = g.T.Moment.rank in
    IsAnswerTo-same language c.args.session c.args.self.now.state _ begin_draft (plain_answer c.begin.result) c.begin.new.self.state (ap (plain_command rank) c.in-Begin.is)
    (IsAnswerTo-begin language c.args.session c.args.self.now.state (plain_answer c.begin.result) c.begin.new.self.state c.begin.ensures.reply c.begin.ensures.goes_on)

pub returns-in-Commit-clause-told : goal.returns-in-Commit-clause-told
returns-in-Commit-clause-told g c =
    let language : Language = record { theory = c.args.self.now.theory; spelt = g.T.Moment.spelt; canon = g.T.Moment.canon } in
    let rank = g.T.Moment.rank in
    IsAnswerTo-same language c.args.session c.args.self.now.state _ commit_draft (plain_answer c.commit.result) c.commit.new.self.state (ap (plain_command rank) c.in-Commit.is)
    (IsAnswerTo-commit language c.args.session c.args.self.now.state (plain_answer c.commit.result) c.commit.new.self.state (unwatched c.self.view_is refl) c.commit.ensures.reply c.commit.ensures.goes_on)

pub returns-in-Commit-clause-steps : goal.returns-in-Commit-clause-steps
unfolding most_change_steps
returns-in-Commit-clause-steps g c =
    let rank = g.T.Moment.rank in
    subst (λ (k : PlainCommand). c.commit.new.steps ≤ c.args.steps.now + most_change_steps c.args.self.now.theory c.args.session c.args.self.now.viewed c.args.self.now.state k) (sym (ap (plain_command rank) c.in-Commit.is))
    c.commit.ensures.steps

pub returns-in-Abort-clause-told : goal.returns-in-Abort-clause-told
returns-in-Abort-clause-told g c =
    let language : Language = record { theory = c.args.self.now.theory; spelt = g.T.Moment.spelt; canon = g.T.Moment.canon } in
    let rank = g.T.Moment.rank in
    IsAnswerTo-same language c.args.session c.args.self.now.state _ abort_draft (plain_answer c.abort.result) c.abort.new.self.state (ap (plain_command rank) c.in-Abort.is)
    (IsAnswerTo-abort language c.args.session c.args.self.now.state (plain_answer c.abort.result) c.abort.new.self.state c.abort.ensures.reply c.abort.ensures.goes_on)

pub returns-in-Last-clause-told : goal.returns-in-Last-clause-told
returns-in-Last-clause-told g c =
    let language : Language = record { theory = c.args.self.now.theory; spelt = g.T.Moment.spelt; canon = g.T.Moment.canon } in
    let rank = g.T.Moment.rank in
    IsAnswerTo-same language c.args.session c.args.self.now.state _ ask_last (answer_last c.self.inside.last) c.args.self.now.state (ap (plain_command rank) c.in-Last.is)
    (subst (λ (seen : Seen). IsAnswerTo language c.args.session c.args.self.now.state ask_last (answer_last seen) c.args.self.now.state) (ap (λ (d : SessionsState). d.state.last) (sym c.self.view_is)) (IsAnswerTo-last language c.args.session c.args.self.now.state))

pub returns-in-Quit-clause-told : goal.returns-in-Quit-clause-told
returns-in-Quit-clause-told g c =
    let language : Language = record { theory = c.args.self.now.theory; spelt = g.T.Moment.spelt; canon = g.T.Moment.canon } in
    let rank = g.T.Moment.rank in
    IsAnswerTo-same language c.args.session c.args.self.now.state _ quit answer_bye c.args.self.now.state (ap (plain_command rank) c.in-Quit.is)
    (IsAnswerTo-quit language c.args.session c.args.self.now.state)

pub returns-in-Past-clause-steps : goal.returns-in-Past-clause-steps
unfolding most_change_steps
returns-in-Past-clause-steps g c =
    let rank = g.T.Moment.rank in
    subst (λ (k : PlainCommand). c.ask_past.new.steps ≤ c.args.steps.now + most_change_steps c.args.self.now.theory c.args.session c.args.self.now.viewed c.args.self.now.state k) (sym (ap (plain_command rank) c.in-Past.is))
    c.ask_past.ensures.steps
