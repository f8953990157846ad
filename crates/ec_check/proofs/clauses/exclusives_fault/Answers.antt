-- The first fault that is found, by the lemmas of a first one.
use Rattle.std.proofs.Common.{sym, subst, arith}
use Rattle.ec_check.proofs.FirstFound.{fault_here, fault_on, fault_end}
use Rattle.ec_terms.specs.declared.theory.Exclusive.{Exclusive}
use Rattle.ec_check.specs.Faults.{exclusive_places}
use Rattle.ec_check.specs.Numbering.{AreWithoutGap}
use Rattle.ec_check.proofs.clauses.exclusives_fault.Goals as goal

pub exclusive_fault-requires : goal.exclusive_fault-requires
exclusive_fault-requires c = subst (λ (x : Exclusive). AreWithoutGap (exclusive_places x)) (sym c.index-declarations-place.is) (c.requires c.loop-place.place c.index-declarations-place.result c.loop-place-test.true)

pub loop-place-preserved : goal.loop-place-preserved
loop-place-preserved c = grind (arith, fault_here, fault_on, fault_end)

pub returns-in-Some : goal.returns-in-Some
returns-in-Some c = grind (arith, fault_here, fault_on, fault_end)
