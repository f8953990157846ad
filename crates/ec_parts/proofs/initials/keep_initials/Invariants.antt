use Rattle.std.proofs.Common.{map, take}
use Rattle.ec_parts.specs.Initials.{KeepsOnce, initial_term}
use Rattle.ec_parts.proofs.initials.keep_initials.Given as goal

abbrev pub invariant-loop-initial : goal.invariant-loop-initial
invariant-loop-initial l = KeepsOnce (map initial_term (take l.initial-index l.theory.initials)) l.props
