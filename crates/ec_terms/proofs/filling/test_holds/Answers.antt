use Rattle.std.proofs.Common.{◌∙◌}
use Rattle.ec_terms.specs.Binding.{values_of}
use Rattle.ec_terms.specs.Term.{arg_of}
use Rattle.ec_terms.proofs.FillingLemmas.{test_holds-values, test_holds-no_left, test_holds-no_right}
use Rattle.ec_terms.proofs.filling.test_holds.Goals as goal

pub returns-in-Some-Some : goal.returns-in-Some-Some
returns-in-Some-Some c =
    c.compare.ensures
    ∙ test_holds-values (values_of c.args.binding.now) c.args.test.now (arg_of c.in-Some-Some.left) (arg_of c.in-Some-Some.right) c.in-Some-Some.ensures.value c.in-Some-Some.ensures'.value

pub returns-in_default : goal.returns-in_default
returns-in_default c = test_holds-no_right (values_of c.args.binding.now) c.args.test.now (arg_of c.in_default.field-0-0) c.in_default.ensures.value c.in_default.ensures'.value

pub returns-in_default-2 : goal.returns-in_default-2
returns-in_default-2 c = test_holds-no_left (values_of c.args.binding.now) c.args.test.now c.in_default.ensures.value
