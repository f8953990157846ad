-- What stands at the front of a text: a run of bytes of one kind is read as a whole, and is never cut.
use Rattle.std.specs.Prelude.{ℕ, ◌+◌, if◌then◌else◌, List, ◌∷◌, length, drop, take_while, ℤ, Option, Some, None, option_map, option_and_then}
use Rattle.std.specs.Char.{is_ascii_digit}
use Rattle.std.specs.Str.Parse.{starts_with_minus}
use Rattle.ec_moment.specs.Number.{number_value}
use Rattle.ec_terms.specs.declared.ground.Arg.{Arg}
use Rattle.ec_terms.specs.Spelling.{is_lower, is_name, name_run, begins_with}
use Rattle.ec_terms.specs.Term.{arg_value, args_within, inside_of}

-- the name at the front of a text, and its length; none where the run is no name
unfoldable pub name_front : List ℕ → Option (List ℕ × ℕ)
name_front bytes = if is_name (name_run bytes) then Some (name_run bytes, length (name_run bytes)) else None

-- the longest run of digits at the front of a text
unfoldable pub digit_run : List ℕ → List ℕ
digit_run bytes = take_while is_ascii_digit bytes

-- the longest run of an optional `-` and digits at the front of a text
unfoldable pub number_run : List ℕ → List ℕ
number_run bytes = if starts_with_minus bytes then 45 ∷ digit_run (drop 1 bytes) else digit_run bytes

-- the number at the front of a text, and its length; none where the run is no number
unfoldable pub number_front : List ℕ → Option (ℤ × ℕ)
number_front bytes = option_map (λ z. (z, length (number_run bytes))) (number_value (number_run bytes))

-- the longest run at the front of a text that can be an argument
unfoldable pub arg_run : List ℕ → List ℕ
arg_run bytes = if begins_with is_lower bytes then name_run bytes else number_run bytes

-- the argument at the front of a text, and its length; none where the run is no argument
unfoldable pub arg_front : List ℕ → Option (Arg × ℕ)
arg_front bytes = option_map (λ a. (a, length (arg_run bytes))) (arg_value (arg_run bytes))

-- the arguments that stand from behind a `(` up to its `)`, and the length with the `)`
unfoldable pub args_front : List ℕ → Option (List Arg × ℕ)
args_front bytes = option_and_then (λ inside. option_map (λ args. (args, length inside + 1)) (args_within inside)) (inside_of bytes)
