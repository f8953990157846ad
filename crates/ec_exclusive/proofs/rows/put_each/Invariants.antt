-- The number stands in the lists so far, and all others are what they were.
use Rattle.std.proofs.Common.{◌≡◌, length}
use Rattle.ec_numbered.specs.PropSet.{with_number}
use Rattle.ec_exclusive.proofs.InTurn.{AreEdited}
use Rattle.ec_exclusive.proofs.rows.put_each.Given as goal

abbrev pub invariant-loop-q : goal.invariant-loop-q
invariant-loop-q l = record {
  len : length l.rows ≡ length l.initial.rows;
  edited : AreEdited l.props (with_number l.p) l.q-index l.initial.rows l.rows;
}
