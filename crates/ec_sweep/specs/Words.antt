-- Words by slot, whose bits say which entries are active.
use Rattle.std.specs.Prelude.{ℕ, ◌==◌, List, Option}
use Rattle.std.specs.Map.{lookup}
use Rattle.ec_delta.specs.declared.flips.Flip.{Flip}

-- the word of a slot, if it has one
abbrev pub word_at : ℕ → List (ℕ × ℕ) → Option ℕ
word_at n words = lookup (λ k. n == k) words

-- a slot and its word
abbrev pub flip_of : ℕ × ℕ → Flip
flip_of row = record { slot = record { 0 = row.0 }; active = row.1 }
