-- The entries so far are taken out.
use Rattle.ec_entries.specs.Noting.{AreTakenOut}
use Rattle.ec_entries.proofs.noting.drop_all.Given as goal

abbrev pub invariant-loop-place : goal.invariant-loop-place
invariant-loop-place g l = AreTakenOut g.T.Moment.rank l.slot.0 l.place l.initial.rows l.rows
