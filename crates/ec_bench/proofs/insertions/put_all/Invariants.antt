-- As many members as were put in.
use Rattle.std.proofs.Common.{◌≡◌, length}
use Rattle.ec_bench.proofs.insertions.put_all.Given as goal

abbrev pub invariant-loop-number : goal.invariant-loop-number
invariant-loop-number l = length l.list.items ≡ l.number
