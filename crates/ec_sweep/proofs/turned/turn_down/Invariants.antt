-- What was told, with the turns of the entries that are left, is what is to be told.
use Rattle.std.proofs.Common.{◌≡◌, ◌++◌, drop}
use Rattle.ec_sweep.specs.Acting.{turns_from}
use Rattle.ec_sweep.proofs.turned.turn_down.Given as goal

abbrev pub invariant-loop-k : goal.invariant-loop-k
invariant-loop-k l = l.fn.turns.items ++ turns_from l.active 0 l.list ≡ l.turns.items ++ turns_from l.active l.k (drop l.k l.list)
