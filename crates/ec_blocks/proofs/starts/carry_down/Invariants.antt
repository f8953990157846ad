-- The last parts of the groups up to this one are moved.
use Rattle.std.proofs.Common.{◌≡◌, ℕ, ◌+◌, ◌/◌, ◌%◌, ◌^◌, ◌<◌, ◌≤◌, ◌⊎◌, length, get_or}
use Rattle.ec_blocks.specs.Starts.{number_at}
use Rattle.ec_blocks.proofs.starts.carry_down.Given as goal

abbrev pub invariant-loop-group : goal.invariant-loop-group
invariant-loop-group l = record {
  len : length l.parts ≡ length l.fn.parts;
  moved : (k : ℕ) → k < length l.fn.parts → l.from ≤ k / 64 → k / 64 < l.group → k % 64 ≡ 63 →
      number_at l.parts l.bases k ≡ (get_or l.fn.parts k 0 + get_or l.bases (k / 64 + 1) 0) % 2 ^ 64;
  others : (k : ℕ) → (k / 64 < l.from) ⊎ ((k % 64 < 63) ⊎ (l.group ≤ k / 64)) → get_or l.parts k 0 ≡ get_or l.fn.parts k 0;
}
