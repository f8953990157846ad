-- Those that hold among the numbers before the place are listed.
use Rattle.std.proofs.Common.{◌+◌, ◌≤◌, List, ◌++◌, take}
use Rattle.ec_terms.specs.declared.ids.PropId.{PropId}
use Rattle.ec_query.specs.Holding.{held_numbers}
use Rattle.ec_query.specs.Listed.{Lists}
use Rattle.ec_query.proofs.held_list.list_run.Given as goal

abbrev pub invariant-loop-p : goal.invariant-loop-p
invariant-loop-p g l = record {
  listed : (ps : List PropId) → Lists l.initial.list ps → Lists l.list (ps ++ held_numbers g.T.Moment.rank l.held.intervals.now (g.T.Moment.rank l.at) (take l.p-index l.run));
  within : l.list.count ≤ l.initial.list.count + l.p-index;
}
