use Rattle.std.proofs.Common.{◌≡◌, [], take, drop}
use Rattle.ec_check.specs.Faults.{first_fault, rule_fault}
use Rattle.ec_check.proofs.rules.rules_fault.Given as goal

abbrev pub invariant-loop-place : goal.invariant-loop-place
invariant-loop-place l = first_fault rule_fault (take l.place l.rules) (drop l.place l.rules) ≡ first_fault rule_fault [] l.rules
