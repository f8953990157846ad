-- How counts of faults go on over several calls.
use Rattle.std.proofs.Common.{◌≡◌, ℕ, ◌<◌, ◌≤◌, ◌⊎◌, arith, inl, inr}
use Rattle.ec_outside.specs.Counts.{Rose, last_count, next_count}

-- a count that rose has risen at every later moment too
pub Rose-later : {before middle after : ℕ} → Rose before middle → middle ≤ after → Rose before after
Rose-later (inl up) on = inl (omega arith)
Rose-later (inr last) on = inr (omega arith)

-- a count that rose has risen since every earlier moment
pub Rose-earlier : {before middle after : ℕ} → before ≤ middle → Rose middle after → Rose before after
Rose-earlier on (inl up) = inl (omega arith)
Rose-earlier on (inr last) = inr last

-- a count rose or it did not
pub Rose-or_not : (before after : ℕ) → Rose before after ⊎ (¬ Rose before after)
Rose-or_not before after = grind arith

-- what rose is greater, or stands exactly at the last value
pub Rose-at_last : {before after : ℕ} → Rose before after → after ≤ last_count → (before < after) ⊎ (after ≡ last_count)
Rose-at_last (inl up) within = inl up
Rose-at_last (inr last) within = inr (omega arith)

-- the next count is one that rose
pub next_count-Rose : (count : ℕ) → Rose count (next_count count)
next_count-Rose count = grind arith

pub next_count-≤ : (count : ℕ) → next_count count ≤ last_count
next_count-≤ count = omega arith

pub ≤-next_count : (count : ℕ) → count ≤ last_count → count ≤ next_count count
≤-next_count count within = omega arith

-- a count that rose has risen after one more, too
pub Rose-next : (before middle : ℕ) → Rose before middle → Rose before (next_count middle)
Rose-next before middle rose = grind (arith, rose)
