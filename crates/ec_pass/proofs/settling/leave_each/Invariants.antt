-- Those so far have left.
use Rattle.std.proofs.Common.{◌≡◌, ◌&&◌, not, ℕ, List, take}
use Rattle.ec_terms.specs.declared.theory.Theory.{Theory}
use Rattle.ec_store.specs.Table.{KeptProp}
use Rattle.ec_numbered.specs.PropSet.{has_number}
use Rattle.ec_exclusive.specs.CurrentProps.{HasForms, is_in}
use Rattle.ec_pass.proofs.settling.leave_each.Given as goal

abbrev pub invariant-loop-p : goal.invariant-loop-p
invariant-loop-p l =
    ((n : ℕ) → is_in n l.now ≡ (is_in n l.initial.now && not (has_number n (take l.p-index l.props))))
    × ((theory : Theory) (table : List KeptProp) → HasForms theory table l.initial.now → HasForms theory table l.now)
