-- The hits are those of before, and the dependents so far of events that stay; none stands there twice.
use Rattle.std.proofs.Common.{◌≡◌, ℕ, ◌&&◌, ◌||◌, not, take}
use Rattle.std.specs.List.{IsDistinct, list_any}
use Rattle.ec_entries.specs.Dependents.{is_from}
use Rattle.ec_revise.specs.Change.{has_slot}
use Rattle.ec_sweep.specs.Hits.{has_hit, same_hit}
use Rattle.ec_sweep.proofs.hits.gather_run.Given as goal

abbrev pub invariant-loop-dependent : goal.invariant-loop-dependent
invariant-loop-dependent g l = record {
  hit : (slot place : ℕ) → has_hit slot place l.hits
      ≡ (has_hit slot place l.fn.hits || (not (has_slot (record { 0 = slot }) l.removals) && list_any (is_from slot place) (take l.dependent-index l.run)));
  once : IsDistinct same_hit l.fn.hits → IsDistinct same_hit l.hits;
}
