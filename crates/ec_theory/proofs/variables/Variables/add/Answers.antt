use Rattle.std.proofs.Common.{sym, ap, ◌∙◌, arith}
use Rattle.std.proofs.lemmas.Grind.{common_steps}
use Rattle.ec_theory.specs.Sign.{with_sign, with_variable}
use Rattle.ec_theory.proofs.VariableSets.{texts_of, put_in}
use Rattle.ec_theory.proofs.variables.Variables.add.Goals as goal

pub returns-clause-added : goal.returns-clause-added
unfolding with_sign
returns-clause-added c =
    ap texts_of c.in_ok-insert.ensures.keys ∙ put_in c.self.inside.names.keys c.in-Some.name
    ∙ ap (λ names. with_variable names c.in-Some.name.now) c.self.view_is ∙ sym (ap (with_sign c.args.self.now) c.in-Some.ensures.some)

pub invariant_of-self : goal.invariant_of-self
invariant_of-self c = grind (arith, common_steps)

pub returns-clause-one : goal.returns-clause-one
returns-clause-one c = grind (arith, common_steps)

pub invariant_of-self-2 : goal.invariant_of-self-2
invariant_of-self-2 c = grind (arith, common_steps)
