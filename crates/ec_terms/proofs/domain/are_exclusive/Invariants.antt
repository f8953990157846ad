-- No declaration so far speaks of the two properties.
use Rattle.std.proofs.Common.{◌≡◌, false, take}
use Rattle.std.specs.List.{list_any}
use Rattle.ec_terms.specs.Domain.{excludes}
use Rattle.ec_terms.specs.Term.{ground_of}
use Rattle.ec_terms.proofs.domain.are_exclusive.Given as goal

abbrev pub invariant-loop-declaration : goal.invariant-loop-declaration
invariant-loop-declaration l =
    list_any (excludes (ground_of l.p) (ground_of l.q)) (take l.declaration-index l.fn.theory.exclusives) ≡ false
