-- The refusals come in the order of the reply.
use Rattle.std.proofs.Common.{sym, ap, ◌∙◌, arith}
use Rattle.ec_commands.specs.Answers.{answer_text, refused_future, refused_gone}
use Rattle.ec_lines.specs.ShownCommand.{plain_query}
use Rattle.ec_replies.specs.Past.{first_kept}
use Rattle.ec_replies.specs.Replies.{Language}
use Rattle.ec_sessions.specs.SessionsState.{SessionsState}
use Rattle.ec_sessions.proofs.PastQuestions.{past_text-future, past_text-gone, past_text-order}
use Rattle.ec_sessions.proofs.sessions.Sessions.past_refusal.Goals as goal

pub returns-then-is_backwards-clause-refused : goal.returns-then-is_backwards-clause-refused
returns-then-is_backwards-clause-refused g c =
    let language : Language = record { theory = c.args.self.now.theory; spelt = g.T.Moment.spelt; canon = g.T.Moment.canon } in
    past_text-order language c.args.self.now.state c.args.count (plain_query g.T.Moment.rank c.args.query.now) (sym c.is_backwards.ensures ∙ c.if-is_backwards.true)

pub returns-then-accepted-count-clause-refused : goal.returns-then-accepted-count-clause-refused
returns-then-accepted-count-clause-refused g c =
    let language : Language = record { theory = c.args.self.now.theory; spelt = g.T.Moment.spelt; canon = g.T.Moment.canon } in
    let state = c.args.self.now.state in
    let counted = c.count-accepted.ensures ∙ ap (λ (d : SessionsState). d.state.past.count) c.self.view_is in
    past_text-future language state c.args.count (plain_query g.T.Moment.rank c.args.query.now) (sym c.is_backwards.ensures ∙ c.if-is_backwards.false)
    (omega (arith, counted, c.if-accepted-count.true))
    ∙ ap (λ n. answer_text (refused_future n)) (sym counted)

pub returns-then-count-first-clause-refused : goal.returns-then-count-first-clause-refused
returns-then-count-first-clause-refused g c =
    let language : Language = record { theory = c.args.self.now.theory; spelt = g.T.Moment.spelt; canon = g.T.Moment.canon } in
    let state = c.args.self.now.state in
    let counted = c.count-accepted.ensures ∙ ap (λ (d : SessionsState). d.state.past.count) c.self.view_is in
    let least = c.first-first.ensures ∙ ap (λ (d : SessionsState). first_kept d.state.past) c.self.view_is in
    past_text-gone language state c.args.count (plain_query g.T.Moment.rank c.args.query.now) (sym c.is_backwards.ensures ∙ c.if-is_backwards.false)
    (omega (arith, counted, c.if-accepted-count.false)) (omega (arith, least, c.if-count-first.true))
    ∙ ap (λ n. answer_text (refused_gone n)) (sym least)
