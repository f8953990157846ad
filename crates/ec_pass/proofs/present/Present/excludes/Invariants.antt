-- None so far is exclusive to the property.
use Rattle.std.proofs.Common.{◌≡◌, false, take}
use Rattle.ec_pass.specs.Settled.{excludes_any}
use Rattle.ec_pass.proofs.present.Present.excludes.Given as goal

abbrev pub invariant-loop-q : goal.invariant-loop-q
invariant-loop-q l = excludes_any l.theory l.self.props (take l.q-index l.self.started.items) l.p ≡ false
