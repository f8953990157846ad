use Rattle.std.proofs.Common.{take}
use Rattle.ec_parts.specs.Initials.{HaveFirstIntervals}
use Rattle.ec_parts.proofs.initials.begin_intervals.Given as goal

abbrev pub invariant-loop-p : goal.invariant-loop-p
invariant-loop-p g l = HaveFirstIntervals g.T.Moment.rank l.neighbours (take l.p-index l.numbers) l.intervals
