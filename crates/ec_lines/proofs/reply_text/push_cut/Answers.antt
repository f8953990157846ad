-- A limit's text is its name, then the limit.
use Rattle.std.proofs.Common.{◌++◌, ◌∙◌, ap, sym}
use Rattle.ec_commands.specs.Answers.{cut_text}
use Rattle.ec_lines.proofs.ReplyTexts.{two_parts}
use Rattle.ec_lines.proofs.reply_text.push_cut.Goals as goal

pub returns-in-FullEvents-clause-text : goal.returns-in-FullEvents-clause-text
unfolding cut_text
returns-in-FullEvents-clause-text c =
    two_parts c.args.text.now _ _ c.push-in-FullEvents.ensures.text c.push_number.ensures.text
    ∙ ap (λ cut. c.args.text.now ++ cut_text cut) (sym c.in-FullEvents.is)

pub returns-in-FullMentions-clause-text : goal.returns-in-FullMentions-clause-text
unfolding cut_text
returns-in-FullMentions-clause-text c =
    two_parts c.args.text.now _ _ c.push-in-FullMentions.ensures.text c.push_number-in-FullMentions.ensures.text
    ∙ ap (λ cut. c.args.text.now ++ cut_text cut) (sym c.in-FullMentions.is)

pub returns-in-FullLinks-clause-text : goal.returns-in-FullLinks-clause-text
unfolding cut_text
returns-in-FullLinks-clause-text c =
    two_parts c.args.text.now _ _ c.push-in-FullLinks.ensures.text c.push_number-in-FullLinks.ensures.text
    ∙ ap (λ cut. c.args.text.now ++ cut_text cut) (sym c.in-FullLinks.is)
