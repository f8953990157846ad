-- The lists so far have room, and all are what they were.
use Rattle.ec_exclusive.proofs.InTurn.{AreReserved}
use Rattle.ec_exclusive.proofs.rows.reserve_each.Given as goal

abbrev pub invariant-loop-q : goal.invariant-loop-q
invariant-loop-q l = AreReserved l.props l.q-index l.initial.rows l.rows
