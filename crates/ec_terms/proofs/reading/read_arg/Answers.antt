-- A letter in front asks for a name, and another byte for a number.
use Rattle.std.proofs.Common.{sym, refl, arith}
use Rattle.std.proofs.lemmas.Grind.{common_steps}
use Rattle.ec_terms.specs.Term.{is_argument}
use Rattle.ec_terms.proofs.Arguments.{arg_front-name, arg_front-no_name, arg_front-number, arg_front-no_number}
use Rattle.ec_terms.proofs.reading.read_arg.Goals as goal

pub returns-in_err-name-clause-exact : goal.returns-in_err-name-clause-exact
returns-in_err-name-clause-exact c = rw c.from_residual.ensures (arg_front-no_name c.args.bytes.now (sym c.if-begins_lower.ensures) c.in_err-name.ensures.exact)

pub returns-in_err-number-clause-exact : goal.returns-in_err-number-clause-exact
returns-in_err-number-clause-exact c =
    rw c.from_residual-in_err-number.ensures (arg_front-no_number c.args.bytes.now (sym c.if-begins_lower.ensures) (sym c.in_err-number.ensures.exact))

pub returns-in_ok-name-clause-exact : goal.returns-in_ok-name-clause-exact
returns-in_ok-name-clause-exact c = arg_front-name c.args.bytes.now _ _ (sym c.if-begins_lower.ensures) c.in_ok-name.ensures.exact

pub returns-in_ok-name-clause-name : goal.returns-in_ok-name-clause-name
unfolding is_argument
returns-in_ok-name-clause-name c = c.in_ok-name.ensures.name

pub returns-in_ok-number-clause-exact : goal.returns-in_ok-number-clause-exact
returns-in_ok-number-clause-exact c = arg_front-number c.args.bytes.now _ _ (sym c.if-begins_lower.ensures) (sym c.in_ok-number.ensures.exact)

pub returns-in_ok-number-clause-name : goal.returns-in_ok-number-clause-name
unfolding is_argument
returns-in_ok-number-clause-name c = refl

pub returns-in_err-number-clause-name : goal.returns-in_err-number-clause-name
returns-in_err-number-clause-name c = grind (arith, common_steps)

pub returns-in_err-name-clause-name : goal.returns-in_err-name-clause-name
returns-in_err-name-clause-name c = grind (arith, common_steps)

pub returns-in_ok-name-clause-within : goal.returns-in_ok-name-clause-within
returns-in_ok-name-clause-within c = grind (arith, common_steps)

pub returns-in_err-name-clause-within : goal.returns-in_err-name-clause-within
returns-in_err-name-clause-within c = grind (arith, common_steps)

pub returns-in_err-number-clause-within : goal.returns-in_err-number-clause-within
returns-in_err-number-clause-within c = grind (arith, common_steps)
