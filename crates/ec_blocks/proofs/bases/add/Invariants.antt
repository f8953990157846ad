-- The numbers up to this one are changed.
use Rattle.std.proofs.Common.{◌≡◌, ℕ, ◌+◌, ◌%◌, ◌^◌, ◌<◌, ◌≤◌, ◌⊎◌, length, get_or}
use Rattle.ec_blocks.proofs.bases.add.Given as goal

abbrev pub invariant-loop-k : goal.invariant-loop-k
invariant-loop-k l = record {
  len : length l.numbers ≡ length l.fn.numbers;
  within : (j : ℕ) → l.from ≤ j → j < l.k → get_or l.numbers j 0 ≡ (get_or l.fn.numbers j 0 + l.more) % 2 ^ 64;
  others : (j : ℕ) → (j < l.from) ⊎ (l.k ≤ j) → get_or l.numbers j 0 ≡ get_or l.fn.numbers j 0;
}
