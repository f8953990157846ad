use Rattle.std.proofs.Common.{◌≡◌, IsSome, length}
use Rattle.std.specs.List.{All}
use Rattle.ec_terms.specs.declared.ids.Slot.{Slot}
use Rattle.ec_numbered.specs.ByNumber.{kept_at}
use Rattle.ec_apply.specs.Events.{with_flips}
use Rattle.ec_apply.proofs.flips.set_flips.Given as goal

abbrev pub invariant-loop-flip : goal.invariant-loop-flip
invariant-loop-flip g l = record {
  live : All (λ flip. IsSome (kept_at flip.slot.0 l.entries.slots)) l.flips;
  slots : (slot : Slot) → with_flips slot l.flips (kept_at slot.0 l.entries.slots) ≡ with_flips slot l.initial.flips (kept_at slot.0 l.initial.entries.slots);
  places : length l.entries.slots ≡ length l.initial.entries.slots;
  rows : l.entries.rows ≡ l.initial.entries.rows;
}

abbrev pub decreases-loop-flip : goal.decreases-loop-flip
decreases-loop-flip g l = length l.flips
