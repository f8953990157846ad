-- What was pushed, with the words that are left, is what is to be pushed.
use Rattle.std.proofs.Common.{◌≡◌, ◌++◌, map, drop}
use Rattle.ec_sweep.specs.Words.{flip_of}
use Rattle.ec_sweep.proofs.look_hits.push_flips.Given as goal

abbrev pub invariant-loop-i : goal.invariant-loop-i
invariant-loop-i l = l.fn.flips ++ map flip_of l.words ≡ l.flips ++ drop l.i (map flip_of l.words)
