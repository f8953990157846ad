-- What the words behind the program's name ask for.
use Rattle.std.specs.Prelude.{ℕ, nat_le, Bool, ◌&&◌, List, [], ◌∷◌, ◌++◌, length, Option, Some, None, option_map, bytes_eq, codes, if◌then◌else◌}
use Rattle.std.specs.Char.{is_ascii_digit}
use Rattle.std.specs.List.{list_all}
use Rattle.std.specs.Str.Parse.{digits_value}
use Rattle.ec_terms.specs.declared.ground.Ground.{Ground}
use Rattle.ec_terms.specs.Term.{term_value}
use Rattle.ec_files.specs.Claims.{Claim}

-- To check a theory, or to serve lines with it; each names the theory's file. To replay the lines of a file with a theory: the names of
-- both files. To serve so many generated lines, drawn from a seed. Or to write a certificate of a claim, or verify one.
pub data Shape : Type 0 where
  check_theory : List ℕ → Shape
  serve_theory : List ℕ → Shape
  replay_lines : List ℕ → List ℕ → Shape
  soak_lines : ℕ → ℕ → Shape
  certify : Claim → Shape

-- ---- numbers

-- one to so many decimal digits, with a value from the least to the greatest
abbrev pub is_number_within : ℕ → ℕ → ℕ → List ℕ → Bool
is_number_within digits least greatest word =
    (nat_le 1 (length word) && (nat_le (length word) digits && list_all is_ascii_digit word))
    && (nat_le least (digits_value 10 word) && nat_le (digits_value 10 word) greatest)

-- the value of such a word
unfoldable pub number_within : ℕ → ℕ → ℕ → List ℕ → Option ℕ
number_within digits least greatest word = if is_number_within digits least greatest word then Some (digits_value 10 word) else None

-- how many lines are to be generated: 1 to 6 digits, from 1 to 100,000
unfoldable pub line_count : List ℕ → Option ℕ
line_count word = number_within 6 1 100000 word

-- a seed: 1 to 20 digits, below 2 ^ 64
unfoldable pub seed_value : List ℕ → Option ℕ
seed_value word = number_within 20 0 18446744073709551615 word

-- ---- shapes

-- the shape of a word with one word behind it
unfoldable pub shape_by : List ℕ → List ℕ → Option Shape
shape_by word name =
    if bytes_eq word (codes "check") then Some (check_theory name)
    else (if bytes_eq word (codes "serve") then Some (serve_theory name) else None)

-- generated lines by their number and their seed, where both are there
abbrev pub soak_by : Option ℕ → Option ℕ → Option Shape
soak_by (Some lines) (Some seed) = Some (soak_lines lines seed)
soak_by lines seed = None

-- the shape of a word with two words behind it
unfoldable pub shape_by_two : List ℕ → List ℕ → List ℕ → Option Shape
shape_by_two word first second =
    if bytes_eq word (codes "replay") then Some (replay_lines first second)
    else (if bytes_eq word (codes "soak") then soak_by (line_count first) (seed_value second) else None)

-- a claim by the words that name it, where one of them is a term
abbrev pub claim_by : List ℕ → List ℕ → Option (List ℕ) → List ℕ → Option Ground → Option Shape
claim_by theory lines certificate at prop =
    option_map (λ p. certify (record { theory = theory; lines = lines; certificate = certificate; prop = p; at = at })) prop

-- the shape of a word with four words behind it
unfoldable pub shape_by_four : List ℕ → List ℕ → List ℕ → List ℕ → List ℕ → Option Shape
shape_by_four word theory lines prop at =
    if bytes_eq word (codes "prove") then claim_by theory lines None at (term_value prop) else None

-- the shape of a word with five words behind it
unfoldable pub shape_by_five : List ℕ → List ℕ → List ℕ → List ℕ → List ℕ → List ℕ → Option Shape
shape_by_five word theory lines certificate prop at =
    if bytes_eq word (codes "verify") then claim_by theory lines (Some certificate) at (term_value prop) else None

-- what the words ask for, or none where they have no shape
unfoldable pub shape_of : List (List ℕ) → Option Shape
shape_of [] = None
shape_of (word ∷ []) = None
shape_of (word ∷ name ∷ []) = shape_by word name
shape_of (word ∷ first ∷ second ∷ []) = shape_by_two word first second
shape_of (word ∷ first ∷ second ∷ third ∷ []) = None
shape_of (word ∷ theory ∷ lines ∷ prop ∷ at ∷ []) = shape_by_four word theory lines prop at
shape_of (word ∷ theory ∷ lines ∷ certificate ∷ prop ∷ at ∷ []) = shape_by_five word theory lines certificate prop at
shape_of (word ∷ first ∷ second ∷ third ∷ fourth ∷ fifth ∷ more ∷ words) = None

-- the line that is written where the words have no shape, or name a time that is none
unfoldable pub usage_line : List ℕ
usage_line = codes "usage: ec check THEORY / serve THEORY / replay THEORY LINES / soak N SEED / prove THEORY LINES P T / verify THEORY LINES CERT P T" ++ 10 ∷ []
