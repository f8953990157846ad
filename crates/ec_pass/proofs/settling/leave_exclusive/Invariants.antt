-- What is exclusive to those so far has left.
use Rattle.std.proofs.Common.{◌≡◌, ◌&&◌, not, take}
use Rattle.ec_terms.specs.declared.ids.PropId.{PropId}
use Rattle.ec_exclusive.specs.CurrentProps.{HasForms, is_in}
use Rattle.ec_pass.specs.Settled.{excludes_any}
use Rattle.ec_pass.proofs.settling.leave_exclusive.Given as goal

abbrev pub invariant-loop-p : goal.invariant-loop-p
invariant-loop-p l =
    ((q : PropId) → is_in q.0 l.now ≡ (is_in q.0 l.initial.now && not (excludes_any l.theory l.props (take l.p-index l.started) q)))
    × HasForms l.theory l.props l.now
