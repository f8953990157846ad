-- The entries so far were looked at.
use Rattle.std.proofs.Common.{take}
use Rattle.ec_pass.specs.Looked.{HasLooked}
use Rattle.ec_pass.proofs.present.Present.look_at.Given as goal

abbrev pub invariant-loop-entry : goal.invariant-loop-entry
invariant-loop-entry g l =
    HasLooked l.initial.self l.self l.cone (g.T.Moment.rank l.at) (take l.entry-index l.entries) l.initial.bits.items l.bits.items
