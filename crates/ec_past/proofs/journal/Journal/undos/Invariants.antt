-- What is kept up to the place is taken back.
use Rattle.std.proofs.Common.{◌≡◌, drop, map, take}
use Rattle.ec_axioms.specs.Events.{plain_update}
use Rattle.ec_past.specs.Ways.{undos_of_all}
use Rattle.ec_past.proofs.journal.Journal.undos.Given as goal

abbrev pub invariant-loop-place : goal.invariant-loop-place
invariant-loop-place g l = map (plain_update g.T.Moment.rank) l.way.items ≡ undos_of_all (drop l.low (take l.place l.self.kept))
