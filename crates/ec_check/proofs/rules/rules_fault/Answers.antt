-- The first fault that is found, by the lemmas of a first one.
use Rattle.std.proofs.Common.{sym, subst, arith}
use Rattle.ec_check.proofs.FirstFound.{fault_here, fault_on, fault_end}
use Rattle.ec_terms.specs.declared.theory.Rule.{Rule}
use Rattle.ec_check.specs.Faults.{rule_places}
use Rattle.ec_check.specs.Numbering.{AreWithoutGap}
use Rattle.ec_check.proofs.rules.rules_fault.Goals as goal

pub rule_fault-requires : goal.rule_fault-requires
rule_fault-requires c = subst (λ (x : Rule). AreWithoutGap (rule_places x)) (sym c.index-rules-place.is) (c.requires c.loop-place.place c.index-rules-place.result c.loop-place-test.true)

pub loop-place-preserved : goal.loop-place-preserved
loop-place-preserved c = grind (arith, fault_here, fault_on, fault_end)

pub returns-in-Some : goal.returns-in-Some
returns-in-Some c = grind (arith, fault_here, fault_on, fault_end)
