-- The parts of a text between separators.
use Rattle.std.specs.Prelude.{ℕ, Bool, if◌then◌else◌, List, [], ◌∷◌}

-- a byte in front of the first part
abbrev pub before_first_piece : ℕ → List (List ℕ) → List (List ℕ)
before_first_piece b [] = (b ∷ []) ∷ []
before_first_piece b (piece ∷ pieces) = (b ∷ piece) ∷ pieces

-- the parts of a text between the bytes that pass the test, one more than there are such bytes
unfoldable pub pieces_between : (ℕ → Bool) → List ℕ → List (List ℕ)
pieces_between is_separator [] = [] ∷ []
pieces_between is_separator (b ∷ bytes) =
    if is_separator b then [] ∷ pieces_between is_separator bytes else before_first_piece b (pieces_between is_separator bytes)
