use Rattle.std.proofs.Common.{◌≡◌, ◌≤◌, ◌-◌, ◌++◌, length, take}
use Rattle.ec_soak.proofs.soak_source.SoakSourceSource.read.Given as goal

-- what was left began with the bytes so far
abbrev pub invariant-loop-count : goal.invariant-loop-count
invariant-loop-count l = record { within : l.count ≤ length l.into; left : l.initial.self ≡ take l.count l.into ++ l.self }

abbrev pub decreases-loop-count : goal.decreases-loop-count
decreases-loop-count l = length l.initial.into - l.count
