use Rattle.std.proofs.Common.{◌<◌, length, sym, ap, ◌∙◌, arith}
use Rattle.ec_theory.specs.declared.sign.Symbol.TheVariants.{Dot}
use Rattle.ec_theory.specs.Sign.{is_given, with_sign}
use Rattle.ec_theory.proofs.VariableSets.{seen_dot, seen_more, seen_all}
use Rattle.ec_theory.proofs.variables.Variables.of.Goals as goal

pub returns-then-is_given-clause-ok : goal.returns-then-is_given-clause-ok
returns-then-is_given-clause-ok c =
    let below : c.loop-token.token-index < length c.args.cursor.rest.now = omega arith in
    seen_dot c.loop-token.invariant _ below (ap (is_given Dot) (sym c.sign_of-sign.ensures) ∙ sym c.is_given.ensures ∙ c.if-is_given.true)

pub loop-token-preserved : goal.loop-token-preserved
loop-token-preserved c =
    let below : c.loop-token.token-index < length c.args.cursor.rest.now = omega arith in
    seen_more c.loop-token.invariant _ _ below (ap (is_given Dot) (sym c.sign_of-sign.ensures) ∙ sym c.is_given.ensures ∙ c.if-is_given.false)
    (c.in_ok-add.ensures.added ∙ ap (with_sign c.loop-token.variables) c.sign_of-sign.ensures) c.add.ensures.one

pub returns-clause-ok : goal.returns-clause-ok
returns-clause-ok c = seen_all c.loop-token.invariant (omega arith)
