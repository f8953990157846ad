use Rattle.std.proofs.Common.{option_map}
use Rattle.ec_terms.specs.Binding.{values_of}
use Rattle.ec_terms.specs.Term.{arg_of}
use Rattle.ec_terms.proofs.FillingLemmas.{value_of-variable, value_of-any, value_of-fixed}
use Rattle.ec_terms.proofs.filling.place_value.Goals as goal

pub returns-in-Var-clause-value : goal.returns-in-Var-clause-value
returns-in-Var-clause-value c =
    value_of-variable (values_of c.args.binding.now) c.args.place.now c.in-Var.variable (option_map arg_of c.get.result) c.in-Var.is c.get.ensures.value

pub returns-in-Any-clause-value : goal.returns-in-Any-clause-value
returns-in-Any-clause-value c = value_of-any (values_of c.args.binding.now) c.args.place.now c.in-Any.is

pub returns-in-Fixed-clause-value : goal.returns-in-Fixed-clause-value
returns-in-Fixed-clause-value c =
    value_of-fixed (values_of c.args.binding.now) c.args.place.now c.in-Fixed.arg (arg_of c.borrow.result) c.in-Fixed.is c.borrow.ensures.same

pub returns-in-Fixed-clause-named : goal.returns-in-Fixed-clause-named
returns-in-Fixed-clause-named c = rw c.borrow.ensures.same c.borrow.ensures.name
