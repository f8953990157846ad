use Rattle.std.proofs.Common.{◌≡◌, Bool, false, arith}
use Rattle.std.proofs.lemmas.Grind.{common_steps}
use Rattle.ec_theory.specs.declared.sign.Keyword.{Keyword}
use Rattle.ec_theory.specs.Sign.{is_keyword}
use Rattle.ec_theory.specs.Reader.{left_of, next_passes}
use Rattle.ec_lists.proofs.Options.{IfNone-from}
use Rattle.ec_theory.proofs.NextTokens.{no_keyword}
use Rattle.ec_theory.proofs.cursor.Cursor.keyword.Goals as goal

pub returns-in_err-text-clause-none : goal.returns-in_err-text-clause-none
returns-in_err-text-clause-none c =
    let none_passes : (test : Keyword → Bool) → next_passes (is_keyword test) (left_of c.args.self) ≡ false = λ test. no_keyword test (left_of c.args.self) c.in_err-text.ensures.none in
    IfNone-from _ _ none_passes

pub returns-in_err-keyword_of-clause-some : goal.returns-in_err-keyword_of-clause-some
returns-in_err-keyword_of-clause-some c = grind (arith, common_steps)

pub returns-clause-some : goal.returns-clause-some
returns-clause-some c = grind (arith, common_steps)
