-- The entries so far are noted.
use Rattle.std.proofs.Common.{take}
use Rattle.ec_entries.specs.Noting.{AreNoted}
use Rattle.ec_entries.proofs.noting.note_all.Given as goal

abbrev pub invariant-loop-place : goal.invariant-loop-place
invariant-loop-place g l = AreNoted g.T.Moment.rank l.at l.slot.0 (take l.place l.list) l.initial.rows l.rows
