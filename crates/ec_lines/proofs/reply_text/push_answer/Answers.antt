-- The text of an answer is its name, then what it tells.
use Rattle.std.proofs.Common.{◌++◌, ◌∙◌, ap, sym}
use Rattle.ec_commands.specs.Answers.{answer_text}
use Rattle.ec_lines.specs.ShownAnswer.{plain_answer}
use Rattle.ec_lines.proofs.ReplyTexts.{two_parts}
use Rattle.ec_lines.proofs.reply_text.push_answer.Goals as goal

pub returns-in-FullDraft-clause-text : goal.returns-in-FullDraft-clause-text
unfolding answer_text
returns-in-FullDraft-clause-text c =
    two_parts c.args.text.now _ _ c.push-in-FullDraft.ensures.text c.push_number-in-FullDraft.ensures.text
    ∙ ap (λ answer. c.args.text.now ++ answer_text (plain_answer answer)) (sym c.in-FullDraft.is)

pub returns-in-LongLine-clause-text : goal.returns-in-LongLine-clause-text
unfolding answer_text
returns-in-LongLine-clause-text c = c.push-in-LongLine.ensures.text ∙ ap (λ answer. c.args.text.now ++ answer_text (plain_answer answer)) (sym c.in-LongLine.is)

pub returns-in-Syntax-clause-text : goal.returns-in-Syntax-clause-text
unfolding answer_text
returns-in-Syntax-clause-text c = c.push-in-Syntax.ensures.text ∙ ap (λ answer. c.args.text.now ++ answer_text (plain_answer answer)) (sym c.in-Syntax.is)

pub returns-in-InDraft-clause-text : goal.returns-in-InDraft-clause-text
unfolding answer_text
returns-in-InDraft-clause-text c = c.push-in-InDraft.ensures.text ∙ ap (λ answer. c.args.text.now ++ answer_text (plain_answer answer)) (sym c.in-InDraft.is)

pub returns-in-NoDraft-clause-text : goal.returns-in-NoDraft-clause-text
unfolding answer_text
returns-in-NoDraft-clause-text c = c.push-in-NoDraft.ensures.text ∙ ap (λ answer. c.args.text.now ++ answer_text (plain_answer answer)) (sym c.in-NoDraft.is)

pub returns-in-Last-clause-text : goal.returns-in-Last-clause-text
unfolding answer_text
returns-in-Last-clause-text c =
    two_parts c.args.text.now _ _ c.push-in-Last.ensures.text c.push_seen.ensures.text
    ∙ ap (λ answer. c.args.text.now ++ answer_text (plain_answer answer)) (sym c.in-Last.is)

pub returns-in-Update-clause-text : goal.returns-in-Update-clause-text
unfolding answer_text
returns-in-Update-clause-text c =
    two_parts c.args.text.now _ _ c.push-in-Update.ensures.text c.push_cut.ensures.text
    ∙ ap (λ answer. c.args.text.now ++ answer_text (plain_answer answer)) (sym c.in-Update.is)

pub returns-in-FullPairs-clause-text : goal.returns-in-FullPairs-clause-text
unfolding answer_text
returns-in-FullPairs-clause-text c =
    two_parts c.args.text.now _ _ c.push-in-FullPairs.ensures.text c.push_number-in-FullPairs.ensures.text
    ∙ ap (λ answer. c.args.text.now ++ answer_text (plain_answer answer)) (sym c.in-FullPairs.is)

pub returns-in-Future-clause-text : goal.returns-in-Future-clause-text
unfolding answer_text
returns-in-Future-clause-text c =
    two_parts c.args.text.now _ _ c.push-in-Future.ensures.text c.push_number-in-Future.ensures.text
    ∙ ap (λ answer. c.args.text.now ++ answer_text (plain_answer answer)) (sym c.in-Future.is)

pub returns-in-Gone-clause-text : goal.returns-in-Gone-clause-text
unfolding answer_text
returns-in-Gone-clause-text c =
    two_parts c.args.text.now _ _ c.push-in-Gone.ensures.text c.push_number-in-Gone.ensures.text
    ∙ ap (λ answer. c.args.text.now ++ answer_text (plain_answer answer)) (sym c.in-Gone.is)
