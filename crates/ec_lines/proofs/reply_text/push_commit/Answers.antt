use Rattle.std.proofs.Common.{◌++◌, ◌∙◌, ap, sym}
use Rattle.std.specs.Prelude.{decimal}
use Rattle.ec_lines.proofs.ReplyTexts.{four_parts, answer_text-commit}
use Rattle.ec_lines.proofs.reply_text.push_commit.Goals as goal

pub returns-clause-text : goal.returns-clause-text
returns-clause-text c =
    four_parts _ _ _ _ _ c.push.ensures.text (c.push_number.ensures.text ∙ ap (λ n. c.push.new.self ++ decimal n) c.from.ensures) c.push-2.ensures.text c.push_cut.ensures.text
    ∙ ap (λ text. c.args.text.now ++ text) (sym (answer_text-commit c.args.place c.args.cut.now))
