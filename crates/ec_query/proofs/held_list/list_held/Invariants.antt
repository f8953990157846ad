-- Those that hold among the numbers before the place are listed.
use Rattle.std.proofs.Common.{◌-◌, ◌≤◌, length, map, take}
use Rattle.ec_store.specs.Table.{number_of}
use Rattle.ec_query.specs.Holding.{held_numbers}
use Rattle.ec_query.specs.Listed.{Lists}
use Rattle.ec_query.proofs.held_list.list_held.Given as goal

abbrev pub invariant-loop-i : goal.invariant-loop-i
invariant-loop-i g l = record {
  listed : Lists l.list (held_numbers g.T.Moment.rank l.held.intervals.now (g.T.Moment.rank l.at) (take l.i (map number_of l.held.props.now)));
  within : l.list.count ≤ l.i;
}

abbrev pub decreases-loop-i : goal.decreases-loop-i
decreases-loop-i g l = length l.held.props.now - l.i
