-- The events before the cursor are done, and their lines are written.
use Rattle.std.proofs.Common.{◌≡◌, ◌-◌, ◌≤◌, drop, length, take}
use Rattle.ec_terms.specs.Term.{ground_of}
use Rattle.ec_store.specs.Store.{history_of}
use Rattle.ec_pass.specs.Passing.{IsPassing}
use Rattle.ec_pass.specs.Written.{IsWritten}
use Rattle.ec_pass.proofs.finding.write_label.Given as goal

abbrev pub invariant-loop-found : goal.invariant-loop-found
invariant-loop-found g l =
    IsPassing g.T.Moment.rank l.rules (history_of g.T.Moment.rank l.store.events) (take l.cursor (history_of g.T.Moment.rank l.store.events))
    (drop l.cursor (history_of g.T.Moment.rank l.store.events)) (ground_of l.p) l.pass
    × IsWritten l.rules (history_of g.T.Moment.rank l.store.events) (take l.cursor (history_of g.T.Moment.rank l.store.events)) g.T.Moment.canon (ground_of l.p)
    (g.T.Moment.rank l.pass.at) l.label
    × (l.cursor ≤ length l.store.events)
    × (l.pass.at ≡ l.initial.pass.at)

abbrev pub decreases-loop-found : goal.decreases-loop-found
decreases-loop-found g l = length l.store.events - l.cursor
