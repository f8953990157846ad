-- Digits are a text, and digits that are not read have too great a value.
use Rattle.std.proofs.Common.{◌≡◌, ◌≤◌, ◌^◌, List, ℕ, Option, IfNone, sym, subst, arith}
use Rattle.std.proofs.lemmas.Grind.{common_steps}
use Rattle.std.specs.Str.Parse.{ParsesUnsigned, digits_value}
use Rattle.ec_lines.proofs.Digits.{digits_are_text, unread_is_large}
use Rattle.ec_lines.proofs.count.value_of_digits.Goals as goal

pub returns-in_err-text-clause-none : goal.returns-in_err-text-clause-none
returns-in_err-text-clause-none c = let text = digits_are_text c.args.digits.now c.requires.digits in grind (arith, common_steps, text)

pub returns-clause-none : goal.returns-clause-none
returns-clause-none c =
    let same : c.in_ok-text.text.now ≡ c.args.digits.now = grind (arith, common_steps) in
    let parses = subst (λ (word : List ℕ). ParsesUnsigned 64 10 word c.parse.result) same c.parse.ensures.value.0 in
    subst (λ (read : Option ℕ). IfNone read (2 ^ 64 ≤ digits_value 10 c.args.digits.now)) (sym c.ok-2.ensures.value)
    (unread_is_large c.args.digits.now c.parse.result c.requires.some c.requires.digits parses)
