-- No properties that are due hit nothing.
use Rattle.std.proofs.Common.{ℤ, List, [], not, sym}
use Rattle.std.proofs.Math.Bool.{and-false}
use Rattle.std.specs.List.{IsDistinct}
use Rattle.ec_revise.specs.declared.change.Removal.{Removal}
use Rattle.ec_revise.specs.Change.{has_slot}
use Rattle.ec_sweep.specs.Hits.{Slots, AreHits}
use Rattle.ec_sweep.specs.State.{DirtyRows}

-- where no property is due there is no hit
pub AreHits-nil : {T : Type 0} (rank : T → ℤ) (slots : Slots T) (t : ℤ) (dirty : DirtyRows) (removals : List (Removal T)) → AreHits rank slots t dirty [] removals []
unfolding IsDistinct
AreHits-nil rank slots t dirty removals = record {
  once = tt;
  hit = λ slot place. sym (and-false (not (has_slot (record { 0 = slot }) removals)));
}
