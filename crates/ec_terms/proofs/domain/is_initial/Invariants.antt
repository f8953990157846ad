-- No declaration so far fits the property.
use Rattle.std.proofs.Common.{◌≡◌, false, take}
use Rattle.std.specs.List.{list_any}
use Rattle.ec_terms.specs.Matching.{fits_some}
use Rattle.ec_terms.specs.Term.{ground_of}
use Rattle.ec_terms.proofs.domain.is_initial.Given as goal

abbrev pub invariant-loop-declaration : goal.invariant-loop-declaration
invariant-loop-declaration l =
    list_any (λ i. fits_some i.prop (ground_of l.p)) (take l.declaration-index l.fn.theory.initials) ≡ false
