-- Those so far have entered.
use Rattle.std.proofs.Common.{◌≡◌, ◌||◌, ℕ, take}
use Rattle.ec_numbered.specs.PropSet.{has_number}
use Rattle.ec_exclusive.specs.CurrentProps.{HasForms, is_in}
use Rattle.ec_pass.proofs.settling.enter_each.Given as goal

abbrev pub invariant-loop-p : goal.invariant-loop-p
invariant-loop-p l =
    ((n : ℕ) → is_in n l.now ≡ (is_in n l.initial.now || has_number n (take l.p-index l.started)))
    × HasForms l.theory l.props l.now
