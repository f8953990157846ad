-- A long line is refused; of another the steps are those of its command.
use Rattle.std.proofs.Common.{ℕ, ◌+◌, ◌≤◌, false, sym, ap, ◌∙◌, subst}
use Rattle.ec_commands.specs.Commands.{parsed_of}
use Rattle.ec_lines.specs.declared.line.Line.{Line}
use Rattle.ec_lines.specs.ShownLine.{ShowsLine}
use Rattle.ec_replies.specs.Replies.{Language}
use Rattle.ec_sessions.specs.LineSteps.{most_parsed_steps}
use Rattle.ec_sessions.proofs.AnsweredLines.{IsHandled-written, Step-long, is_quit-long}
use Rattle.ec_sessions.proofs.StepCounts.{most_line_steps-short}
use Rattle.ec_sessions.proofs.sessions.Sessions.handle.Goals as goal

pub returns-in-Text-clause-steps : goal.returns-in-Text-clause-steps
returns-in-Text-clause-steps g c = λ shown shows.
    let language : Language = record { theory = c.args.self.now.theory; spelt = g.T.Moment.spelt; canon = g.T.Moment.canon } in
    let line = subst (λ (l : Line). ShowsLine l shown) c.in-Text.is shows in
    let said = c.read_command.ensures.line ∙ ap (parsed_of g.T.Moment.spelt) line.0 in
    let steps = ap (most_parsed_steps c.args.self.now.theory c.args.self.now.viewed c.args.self.now.state) said ∙ sym (most_line_steps-short language c.args.self.now.viewed c.args.self.now.state shown line.1) in
    subst (λ (n : ℕ). c.handle_parsed.new.steps ≤ c.args.steps.now + n) steps c.handle_parsed.ensures.steps

pub returns-in-Long-clause-handled : goal.returns-in-Long-clause-handled
returns-in-Long-clause-handled g c = λ shown shows.
    let language : Language = record { theory = c.args.self.now.theory; spelt = g.T.Moment.spelt; canon = g.T.Moment.canon } in
    let long = subst (λ (l : Line). ShowsLine l shown) c.in-Long.is shows in
    IsHandled-written g.K.Sink.stands language c.args.out.now c.reply.new.out c.reply.result false
    (Step-long language shown c.args.self.now.state long) (is_quit-long language shown long) c.reply.ensures.written
