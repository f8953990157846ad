-- No event so far has the identity.
use Rattle.std.proofs.Common.{◌≡◌, false, take}
use Rattle.std.specs.Prelude.{bytes_eq}
use Rattle.std.specs.List.{list_any}
use Rattle.ec_axioms.proofs.in_order.is_present.Given as goal

abbrev pub invariant-loop-other : goal.invariant-loop-other
invariant-loop-other g l = list_any (λ e. bytes_eq e.id l.id) (take l.other-index l.events) ≡ false
