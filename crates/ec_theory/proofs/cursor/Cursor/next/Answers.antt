use Rattle.std.proofs.Common.{sym, ◌∙◌, subst, arith, length, ◌<◌, false-eqb}
use Rattle.std.proofs.lemmas.Grind.{common_steps}
use Rattle.ec_theory.specs.Lexeme.{lexeme_of, is_spelt}
use Rattle.ec_lists.proofs.Tests.{list_all-map_get_or}
use Rattle.ec_theory.specs.Reader.{IsNamed}
use Rattle.ec_theory.proofs.NextTokens.{spelt_named}
use Rattle.ec_theory.proofs.cursor.Cursor.next.Goals as goal

pub returns-clause-named : goal.returns-clause-named
returns-clause-named c =
    let nonempty : 0 < length c.args.self.rest.now = omega (arith, false-eqb _ 0 (sym (sym c.is_empty.ensures ∙ c.if-is_empty.false))) in
    subst IsNamed (sym c.sign_of-sign.ensures) (spelt_named _ (list_all-map_get_or is_spelt lexeme_of c.args.self.rest.now 0 _ c.args.self.spelt nonempty))

pub invariant_of-result : goal.invariant_of-result
invariant_of-result c = grind (arith, common_steps)

pub returns-then-is_empty-clause-none : goal.returns-then-is_empty-clause-none
returns-then-is_empty-clause-none c = grind (arith, common_steps)

pub returns-clause-some : goal.returns-clause-some
returns-clause-some c = grind (arith, common_steps)
