-- The sweep is under way, and has taken no more steps than it may.
use Rattle.std.proofs.Common.{◌+◌, ◌≤◌}
use Rattle.ec_parts.specs.StandFor.{view_of}
use Rattle.ec_sweep.specs.Sweeping.{IsSweepingTo, left_behind}
use Rattle.ec_sweep.specs.Visiting.{steps_for}
use Rattle.ec_sweep.proofs.sweep.sweep_over.Given as goal

abbrev pub invariant-loop-at : goal.invariant-loop-at
invariant-loop-at g l = record {
  sweeping : IsSweepingTo g.T.Moment.rank l.parts.checked (view_of l.parts) l.change l.sweep;
  steps : l.steps ≤ l.initial.steps + steps_for l.change l.sweep.looked l.sweep.progress;
}

abbrev pub decreases-loop-at : goal.decreases-loop-at
decreases-loop-at g l = left_behind g.T.Moment.rank l.parts.store.events l.change.add l.sweep.last
