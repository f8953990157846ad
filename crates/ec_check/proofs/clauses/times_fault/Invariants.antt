use Rattle.std.proofs.Common.{◌≡◌, [], take, drop}
use Rattle.ec_check.specs.Faults.{first_fault, time_fault}
use Rattle.ec_check.proofs.clauses.times_fault.Given as goal

abbrev pub invariant-loop-place : goal.invariant-loop-place
invariant-loop-place l = first_fault time_fault (take l.place l.declarations) (drop l.place l.declarations) ≡ first_fault time_fault [] l.declarations
