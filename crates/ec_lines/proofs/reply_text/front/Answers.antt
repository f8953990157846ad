-- The prefix is pushed in three parts, and takes at most 1 + 20 + 1 bytes.
use Rattle.std.proofs.Common.{◌++◌, ◌∙◌, length, ap, sym, arith}
use Rattle.std.specs.Prelude.{codes, decimal}
use Rattle.ec_commands.specs.Answers.{front_text}
use Rattle.ec_lines.proofs.reply_text.front.Goals as goal

pub returns-in-Some-clause-text : goal.returns-in-Some-clause-text
unfolding front_text
returns-in-Some-clause-text c =
    c.push-in-Some.ensures.text
    ∙ ap (λ text. text ++ codes " ")
    (c.push_number.ensures.text
    ∙ ap (λ text. text ++ decimal c.from.result) (c.push.ensures.text ∙ ap (λ text. text ++ codes "@") c.new-text.ensures)
    ∙ ap (λ number. codes "@" ++ decimal number) c.from.ensures)
    ∙ ap front_text (sym c.in-Some.is)

pub returns-in-Some-clause-len : goal.returns-in-Some-clause-len
returns-in-Some-clause-len c = omega (arith, c.push.ensures.len, c.push_number.ensures.len, c.push-in-Some.ensures.len, ap length c.new-text.ensures)
