-- The rows up to the index are settled.
use Rattle.std.proofs.Common.{take}
use Rattle.ec_sweep.specs.Settling.{SettlesRows}
use Rattle.ec_sweep.proofs.settle_rows.settle_rows.Given as goal

abbrev pub invariant-loop-i : goal.invariant-loop-i
invariant-loop-i g l =
    SettlesRows g.T.Moment.rank l.parts.neighbours l.parts.points l.parts.entries.slots l.at (take l.i l.tally)
    (record { dirty = l.initial.dirty; agenda = l.initial.agenda; planned = l.initial.planned }) (record { dirty = l.dirty; agenda = l.agenda; planned = l.planned })
