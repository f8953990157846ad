-- The hits are those of before, and the dependents so far of events that stay; none stands there twice.
use Rattle.std.proofs.Common.{◌≡◌, ℕ, ◌-◌, ◌&&◌, ◌||◌, not, length, take}
use Rattle.std.specs.List.{IsDistinct, list_any}
use Rattle.ec_entries.specs.Dependents.{dependents_at, dependents_of, is_from}
use Rattle.ec_revise.specs.Change.{has_slot}
use Rattle.ec_sweep.specs.Hits.{has_hit, same_hit}
use Rattle.ec_sweep.proofs.hits.gather_each.Given as goal

abbrev pub invariant-each : goal.invariant-each
invariant-each g l = record {
  hit : (slot place : ℕ) → has_hit slot place l.hits
      ≡ (has_hit slot place l.fn.hits
      || (not (has_slot (record { 0 = slot }) l.removals)
      && list_any (is_from slot place) (take l.k (dependents_at g.T.Moment.rank (g.T.Moment.rank l.at) (dependents_of l.p.0 l.entries.rows)))));
  once : IsDistinct same_hit l.fn.hits → IsDistinct same_hit l.hits;
}

-- the dependents that are left
abbrev pub decreases-each : goal.decreases-each
decreases-each g l = length (dependents_at g.T.Moment.rank (g.T.Moment.rank l.at) (dependents_of l.p.0 l.entries.rows)) - l.k
