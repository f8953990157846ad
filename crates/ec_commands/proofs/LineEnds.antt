-- What stands of a part of the input without its carriage return, byte by byte.
use Rattle.std.proofs.Common.{◌≡◌, ℕ, cond, List, [], ◌∷◌, refl}
use Rattle.std.specs.Prelude.{eqb}
use Rattle.ec_commands.specs.Lines.{carriage_return, without_return}

pub without_return-nil : without_return [] ≡ []
unfolding without_return
without_return-nil = refl

-- a single byte stays unless it is a carriage return
pub without_return-one : (b : ℕ) → without_return (b ∷ []) ≡ cond (eqb b carriage_return) [] (b ∷ [])
unfolding without_return
without_return-one b = refl

-- a byte that another follows stays
pub without_return-cons : (b c : ℕ) (bytes : List ℕ) → without_return (b ∷ c ∷ bytes) ≡ b ∷ without_return (c ∷ bytes)
unfolding without_return
without_return-cons b c bytes = refl
