-- The records from the place on are taken back.
use Rattle.std.proofs.Common.{◌≡◌, ◌≤◌, ◌++◌, drop, length, map}
use Rattle.ec_axioms.specs.Events.{plain_update}
use Rattle.ec_past.specs.Logged.{plain_records}
use Rattle.ec_past.specs.Records.{undos_of}
use Rattle.ec_past.proofs.ways.push_undos.Given as goal

abbrev pub invariant-loop-place : goal.invariant-loop-place
invariant-loop-place g l = record {
  in_range : l.place ≤ length l.records;
  so_far : map (plain_update g.T.Moment.rank) l.way.items ≡ map (plain_update g.T.Moment.rank) l.initial.way.items ++ undos_of (plain_records g.T.Moment.rank (drop l.place l.records));
}

abbrev pub decreases-loop-place : goal.decreases-loop-place
decreases-loop-place g l = l.place
