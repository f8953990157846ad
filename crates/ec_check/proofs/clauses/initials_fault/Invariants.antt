use Rattle.std.proofs.Common.{◌≡◌, [], take, drop}
use Rattle.ec_check.specs.Faults.{first_fault, initial_fault}
use Rattle.ec_check.proofs.clauses.initials_fault.Given as goal

abbrev pub invariant-loop-place : goal.invariant-loop-place
invariant-loop-place l = first_fault initial_fault (take l.place l.declarations) (drop l.place l.declarations) ≡ first_fault initial_fault [] l.declarations
