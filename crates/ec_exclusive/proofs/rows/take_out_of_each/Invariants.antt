-- The number is gone from the lists so far, and all others are what they were.
use Rattle.std.proofs.Common.{◌≡◌, length}
use Rattle.ec_numbered.specs.PropSet.{without_number}
use Rattle.ec_exclusive.proofs.InTurn.{AreEdited}
use Rattle.ec_exclusive.proofs.rows.take_out_of_each.Given as goal

abbrev pub invariant-loop-q : goal.invariant-loop-q
invariant-loop-q l = record {
  len : length l.rows ≡ length l.initial.rows;
  edited : AreEdited l.props (without_number l.p) l.q-index l.initial.rows l.rows;
}
