-- The laws of texts: the text of a term is read back as that term, and different terms have different texts.
use Rattle.std.specs.Prelude.{◌≡◌, ℕ, ◌<◌, ◌≤◌, ◌⊎◌, Bool, true, ◌||◌, ◌==◌, List, ◌++◌, length, Some, IsTrue, IsFalse}
use Rattle.std.specs.List.{list_all}
use Rattle.ec_moment.specs.Number.{is_number}
use Rattle.ec_terms.specs.declared.ground.Arg.{Arg}
use Rattle.ec_terms.specs.declared.ground.Arg.TheVariants.{Int, Word}
use Rattle.ec_terms.specs.declared.ground.Ground.{Ground}
use Rattle.ec_terms.specs.declared.limits.TheConstants.{MOST_ARGS}
use Rattle.ec_terms.specs.Spelling.{is_name_byte, begins_with}
use Rattle.ec_terms.specs.Term.{names_are_names, term_text, term_front, term_value}

-- an argument that is a number fits 64 bits
unfoldable pub has_size : Arg → Bool
has_size (Int z) = is_number z
has_size (Word w) = true

-- what each term that a program holds is
pub record IsTerm (g : Ground) : Type 0 where
  pub names : IsTrue (names_are_names g)
  pub few : length g.args ≤ MOST_ARGS
  pub sizes : IsTrue (list_all has_size g.args)

-- the text goes on with a byte that a term before it would take up: a name byte or a `(`
abbrev pub goes_on : List ℕ → Bool
goes_on rest = begins_with is_name_byte rest || begins_with (λ b. b == 40) rest

-- whatever stands behind a text, the term is read from it; a text with no arguments must not go on
abbrev pub IsReadInFront : Type 0
IsReadInFront = (g : Ground) (rest : List ℕ) → IsTerm g → (0 < length g.args) ⊎ IsFalse (goes_on rest) →
    term_front (term_text g ++ rest) ≡ Some (g, length (term_text g))

-- a whole text spells its term
abbrev pub IsReadBack : Type 0
IsReadBack = (g : Ground) → IsTerm g → term_value (term_text g) ≡ Some g

-- terms with the same text are the same
abbrev pub IsTextFaithful : Type 0
IsTextFaithful = (g h : Ground) → IsTerm g → IsTerm h → term_text g ≡ term_text h → g ≡ h
