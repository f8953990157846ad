use Rattle.std.proofs.Common.{◌≡◌, true, take}
use Rattle.std.specs.List.{list_all}
use Rattle.ec_terms.specs.Binding.{values_of}
use Rattle.ec_terms.specs.Matching.{test_holds}
use Rattle.ec_terms.proofs.filling.tests_hold.Given as goal

abbrev pub invariant-loop-test : goal.invariant-loop-test
invariant-loop-test l = list_all (test_holds (values_of l.binding)) (take l.test-index l.fn.rule.tests) ≡ true
