-- Lists that ascend by time.
use Rattle.std.specs.Prelude.{Bool, ℤ, int_le}

-- a member is not after another
abbrev pub not_after : {T X : Type 0} → (T → ℤ) → (X → T) → X → X → Bool
not_after rank time x y = int_le (rank (time x)) (rank (time y))
