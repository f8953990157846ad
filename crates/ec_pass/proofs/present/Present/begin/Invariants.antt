-- The initial properties so far are current.
use Rattle.std.proofs.Common.{map, take}
use Rattle.ec_parts.specs.Initials.{initial_term}
use Rattle.ec_pass.specs.Present.{IsFirst}
use Rattle.ec_pass.proofs.present.Present.begin.Given as goal

abbrev pub invariant-loop-initial : goal.invariant-loop-initial
invariant-loop-initial l = IsFirst l.theory (map initial_term (take l.initial-index l.theory.initials)) l.present
