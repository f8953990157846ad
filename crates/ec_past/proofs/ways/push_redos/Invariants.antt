-- The records so far are made again.
use Rattle.std.proofs.Common.{◌≡◌, ◌++◌, take, map}
use Rattle.ec_axioms.specs.Events.{plain_update}
use Rattle.ec_past.specs.Logged.{plain_records}
use Rattle.ec_past.specs.Records.{redo_of}
use Rattle.ec_past.proofs.ways.push_redos.Given as goal

abbrev pub invariant-loop-record : goal.invariant-loop-record
invariant-loop-record g l =
    map (plain_update g.T.Moment.rank) l.way.items ≡ map (plain_update g.T.Moment.rank) l.initial.way.items ++ map redo_of (plain_records g.T.Moment.rank (take l.record-index l.records))
