-- What is kept from the place on is made again.
use Rattle.std.proofs.Common.{◌≡◌, ◌≤◌, drop, map, take}
use Rattle.ec_axioms.specs.Events.{plain_update}
use Rattle.ec_past.specs.Ways.{redos_of_all}
use Rattle.ec_past.proofs.journal.Journal.redos.Given as goal

abbrev pub invariant-loop-place : goal.invariant-loop-place
invariant-loop-place g l = record {
  above : l.low ≤ l.place;
  below : l.place ≤ l.high;
  so_far : map (plain_update g.T.Moment.rank) l.way.items ≡ redos_of_all (drop l.place (take l.high l.self.kept));
}

abbrev pub decreases-loop-place : goal.decreases-loop-place
decreases-loop-place g l = l.place
