use Rattle.std.proofs.Common.{subst, sym}
use Rattle.std.specs.List.{All}
use Rattle.ec_terms.specs.declared.theory.Rule.{Rule}
use Rattle.ec_terms.specs.declared.theory.Exclusive.{Exclusive}
use Rattle.ec_terms.specs.declared.theory.Initial.{Initial}
use Rattle.ec_check.specs.Faults.{rule_places, exclusive_places}
use Rattle.ec_check.specs.Numbering.{AreWithoutGap}
use Rattle.ec_check.proofs.checked.first_wrong.Goals as goal

pub rules_fault-rules-requires : goal.rules_fault-rules-requires
rules_fault-rules-requires c = subst (All (λ (r : Rule). AreWithoutGap (rule_places r))) (sym c.as_slice.ensures) c.requires.rules

pub exclusives_fault-exclusives-requires : goal.exclusives_fault-exclusives-requires
exclusives_fault-exclusives-requires c = subst (All (λ (e : Exclusive). AreWithoutGap (exclusive_places e))) (sym c.as_slice-2.ensures) c.requires.exclusives

pub initials_fault-initials-requires : goal.initials_fault-initials-requires
initials_fault-initials-requires c = subst (All (λ (i : Initial). AreWithoutGap i.prop.args)) (sym c.as_slice-4.ensures) c.requires.initials
