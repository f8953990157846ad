-- What answers the command is a step of the line.
use Rattle.std.proofs.Common.{◌≡◌, ℕ, ◌+◌, ◌≤◌, [], false, refl, sym, ap, ◌∙◌, subst, arith}
use Rattle.ec_terms.specs.declared.theory.Theory.{Theory}
use Rattle.ec_commands.specs.Answers.{answer_text}
use Rattle.ec_commands.specs.Commands.{PlainCommand, silent, ask, ask_past}
use Rattle.ec_lines.specs.ShownAnswer.{plain_answer}
use Rattle.ec_lines.specs.ShownCommand.{plain_command, plain_parsed, plain_query}
use Rattle.ec_outside.proofs.Streams.{Appended-nil, NothingAppended-refl}
use Rattle.ec_replies.specs.Past.{list_after}
use Rattle.ec_replies.specs.State.{State}
use Rattle.ec_replies.specs.Replies.{Language, query_text, reply_line, session_of}
use Rattle.ec_replies.specs.Runs.{command_quits}
use Rattle.ec_sessions.specs.declared.handled.Handled.TheVariants.{Go}
use Rattle.ec_sessions.specs.Answering.{IsAnswerTo, IsWritten, comparison_text, is_bye, plain_comparison}
use Rattle.ec_sessions.specs.LineSteps.{most_asked_steps, most_change_steps, most_query_steps}
use Rattle.ec_sessions.proofs.AnsweredLines.{CommandStep, CommandStep-answer, CommandStep-compared, CommandStep-query, CommandStep-silent, command_quits-compared, IsHandled-written, Step-parsed, is_quit-parsed}
use Rattle.ec_sessions.proofs.PastQuestions.{CommandStep-past, unless_refused-asked}
use Rattle.ec_sessions.proofs.sessions.Sessions.handle_parsed.Goals as goal

pub returns-in-Nothing-clause-handled : goal.returns-in-Nothing-clause-handled
returns-in-Nothing-clause-handled g c = λ line short is.
    let language : Language = record { theory = c.args.self.now.theory; spelt = g.T.Moment.spelt; canon = g.T.Moment.canon } in
    let parsed = plain_parsed g.T.Moment.rank c.args.parsed in
    let before = c.args.self.now.state in
    let after = c.answer.new.self.state in
    let told = c.in-Nothing.ensures.told in
    let step = subst (λ (k : PlainCommand). CommandStep language parsed.session (session_of parsed) before k [] after) (sym told.0)
    (subst (λ (s : State). CommandStep language parsed.session (session_of parsed) before silent [] s) (sym told.1) (CommandStep-silent language parsed.session (session_of parsed) before)) in
    IsHandled-written g.K.Sink.stands language c.args.out.now c.args.out.now Go false (Step-parsed language line [] parsed before after short is step)
    (is_quit-parsed language line parsed short is ∙ ap command_quits told.0) (refl, Appended-nil (NothingAppended-refl c.args.out.now))

pub returns-in-Answer-clause-handled : goal.returns-in-Answer-clause-handled
returns-in-Answer-clause-handled g c = λ line short is.
    let language : Language = record { theory = c.args.self.now.theory; spelt = g.T.Moment.spelt; canon = g.T.Moment.canon } in
    let parsed = plain_parsed g.T.Moment.rank c.args.parsed in
    let before = c.args.self.now.state in
    let after = c.answer.new.self.state in
    let answer = plain_answer c.in-Answer.answer in
    let to = subst (λ (n : ℕ). IsAnswerTo language n before parsed.command answer after) c.unwrap_or.ensures c.in-Answer.ensures.told in
    IsHandled-written g.K.Sink.stands language c.args.out.now c.reply.new.out c.reply.result (is_bye answer)
    (Step-parsed language line (reply_line parsed.session (answer_text answer)) parsed before after short is
    (CommandStep-answer language parsed.session (session_of parsed) before after parsed.command answer to))
    (is_quit-parsed language line parsed short is ∙ sym to.quits) c.reply.ensures.written

pub returns-in-Query-clause-handled : goal.returns-in-Query-clause-handled
returns-in-Query-clause-handled g c = λ line short is.
    let language : Language = record { theory = c.args.self.now.theory; spelt = g.T.Moment.spelt; canon = g.T.Moment.canon } in
    let parsed = plain_parsed g.T.Moment.rank c.args.parsed in
    let before = c.args.self.now.state in
    let after = c.answer.new.self.state in
    let query = plain_query g.T.Moment.rank c.in-Query.query in
    let told = c.in-Query.ensures.told in
    let text = reply_line parsed.session (query_text language before.events query) in
    let step = subst (λ (k : PlainCommand). CommandStep language parsed.session (session_of parsed) before k text after) (sym told.0)
    (subst (λ (s : State). CommandStep language parsed.session (session_of parsed) before (ask query) text s) (sym told.1)
    (CommandStep-query query language parsed.session (session_of parsed) before)) in
    let written = subst (λ (t : Theory). IsWritten g.K.Sink.stands c.ask.result false (reply_line parsed.session (query_text (record { theory = t; spelt = g.T.Moment.spelt; canon = g.T.Moment.canon }) before.events query)) c.args.out.now c.ask.new.out)
    c.answer.ensures.theory
    (subst (λ (s : State). IsWritten g.K.Sink.stands c.ask.result false (reply_line parsed.session (query_text (record { theory = c.answer.new.self.theory; spelt = g.T.Moment.spelt; canon = g.T.Moment.canon }) s.events query)) c.args.out.now c.ask.new.out)
    told.1 c.ask.ensures.written) in
    IsHandled-written g.K.Sink.stands language c.args.out.now c.ask.new.out c.ask.result false (Step-parsed language line text parsed before after short is step)
    (is_quit-parsed language line parsed short is ∙ ap command_quits told.0) written

pub returns-in-Past-clause-handled : goal.returns-in-Past-clause-handled
returns-in-Past-clause-handled g c = λ line short is.
    let language : Language = record { theory = c.args.self.now.theory; spelt = g.T.Moment.spelt; canon = g.T.Moment.canon } in
    let parsed = plain_parsed g.T.Moment.rank c.args.parsed in
    let before = c.args.self.now.state in
    let after = c.answer.new.self.state in
    let query = plain_query g.T.Moment.rank c.in-Past.query in
    let k = c.in-Past.count in
    let told = c.in-Past.ensures.told in
    let text = reply_line parsed.session (query_text language (list_after k before.events before.past) query) in
    let step = subst (λ (command : PlainCommand). CommandStep language parsed.session (session_of parsed) before command text after) (sym told.0)
    (subst (λ (s : State). CommandStep language parsed.session (session_of parsed) before (ask_past k query) text s) (sym told.2)
    (CommandStep-past language before k query told.1 parsed.session (session_of parsed))) in
    let written = subst (λ (t : Theory). IsWritten g.K.Sink.stands c.ask_ready.result false (reply_line parsed.session (query_text (record { theory = t; spelt = g.T.Moment.spelt; canon = g.T.Moment.canon }) (list_after k before.events before.past) query)) c.args.out.now c.ask_ready.new.out)
    c.answer.ensures.theory
    (subst (λ (s : State). IsWritten g.K.Sink.stands c.ask_ready.result false (reply_line parsed.session (query_text (record { theory = c.answer.new.self.theory; spelt = g.T.Moment.spelt; canon = g.T.Moment.canon }) (list_after k s.events s.past) query)) c.args.out.now c.ask_ready.new.out)
    told.2 c.ask_ready.ensures.written) in
    IsHandled-written g.K.Sink.stands language c.args.out.now c.ask_ready.new.out c.ask_ready.result false (Step-parsed language line text parsed before after short is step)
    (is_quit-parsed language line parsed short is ∙ ap command_quits told.0) written

pub returns-in-Compared-clause-handled : goal.returns-in-Compared-clause-handled
returns-in-Compared-clause-handled g c = λ line short is.
    let language : Language = record { theory = c.args.self.now.theory; spelt = g.T.Moment.spelt; canon = g.T.Moment.canon } in
    let rank = g.T.Moment.rank in
    let parsed = plain_parsed rank c.args.parsed in
    let before = c.args.self.now.state in
    let after = c.answer.new.self.state in
    let comparison = c.in-Compared.comparison in
    let told = c.in-Compared.ensures.told in
    let text = reply_line parsed.session (comparison_text rank language.theory before.events language.canon comparison) in
    let step = subst (λ (k : PlainCommand). CommandStep language parsed.session (session_of parsed) before k text after) (sym told.0)
    (subst (λ (s : State). CommandStep language parsed.session (session_of parsed) before (plain_comparison rank comparison) text s) (sym told.1)
    (CommandStep-compared rank comparison language parsed.session (session_of parsed) before)) in
    let written = subst (λ (t : Theory). IsWritten g.K.Sink.stands c.compare.result false (reply_line parsed.session (comparison_text rank t before.events g.T.Moment.canon comparison)) c.args.out.now c.compare.new.out)
    c.answer.ensures.theory
    (subst (λ (s : State). IsWritten g.K.Sink.stands c.compare.result false (reply_line parsed.session (comparison_text rank c.answer.new.self.theory s.events g.T.Moment.canon comparison)) c.args.out.now c.compare.new.out)
    told.1 c.compare.ensures.written) in
    IsHandled-written g.K.Sink.stands language c.args.out.now c.compare.new.out c.compare.result false (Step-parsed language line text parsed before after short is step)
    (is_quit-parsed language line parsed short is ∙ ap command_quits told.0 ∙ command_quits-compared rank comparison) written

pub returns-in-Query-clause-steps : goal.returns-in-Query-clause-steps
unfolding most_asked_steps
returns-in-Query-clause-steps g c =
    let before = c.args.self.now in
    let after = c.answer.new.self in
    let command = plain_command g.T.Moment.rank c.args.parsed.command in
    let query = plain_query g.T.Moment.rank c.in-Query.query in
    let told = c.in-Query.ensures.told in
    let asked : most_query_steps after.theory after.state.events query ≡ most_asked_steps before.theory before.state command =
    ap (λ (t : Theory). most_query_steps t after.state.events query) c.answer.ensures.theory
    ∙ ap (λ (s : State). most_query_steps before.theory s.events query) told.1
    ∙ sym (ap (most_asked_steps before.theory before.state) told.0) in
    let changed = subst (λ (n : ℕ). c.answer.new.steps ≤ c.args.steps.now + most_change_steps before.theory n before.viewed before.state command) c.unwrap_or.ensures c.answer.ensures.steps in
    omega (arith, c.ask.ensures.steps, changed, asked)

pub returns-in-Past-clause-steps : goal.returns-in-Past-clause-steps
unfolding most_asked_steps
returns-in-Past-clause-steps g c =
    let language : Language = record { theory = c.args.self.now.theory; spelt = g.T.Moment.spelt; canon = g.T.Moment.canon } in
    let before = c.args.self.now in
    let after = c.answer.new.self in
    let command = plain_command g.T.Moment.rank c.args.parsed.command in
    let query = plain_query g.T.Moment.rank c.in-Past.query in
    let k = c.in-Past.count in
    let told = c.in-Past.ensures.told in
    let asked : most_query_steps after.theory (list_after k after.state.events after.state.past) query ≡ most_asked_steps before.theory before.state command =
    ap (λ (t : Theory). most_query_steps t (list_after k after.state.events after.state.past) query) c.answer.ensures.theory
    ∙ ap (λ (s : State). most_query_steps before.theory (list_after k s.events s.past) query) told.2
    ∙ sym (unless_refused-asked language before.state k query told.1 _)
    ∙ sym (ap (most_asked_steps before.theory before.state) told.0) in
    let changed = subst (λ (n : ℕ). c.answer.new.steps ≤ c.args.steps.now + most_change_steps before.theory n before.viewed before.state command) c.unwrap_or.ensures c.answer.ensures.steps in
    omega (arith, c.ask_ready.ensures.steps, changed, asked)
