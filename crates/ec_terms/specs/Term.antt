-- Ground terms: their equality, their order, their canonical text, and the term that stands at the front of a text.
use Rattle.std.specs.Prelude.{ℕ, ◌+◌, Bool, true, false, ◌&&◌, if◌then◌else◌, ◌==◌, nat_le, List, [], ◌∷◌, ◌++◌, length, drop, map, Option, Some, None, option_map, option_and_then, bytes_eq}
use Rattle.std.specs.List.{join_with_byte, before_first, list_all}
use Rattle.std.specs.declared.cmp.Ordering.{Ordering}
use Rattle.std.specs.Ordering.{nat_cmp, int_cmp, int_eq, ordering_then}
use Rattle.std.specs.declared.cmp.Ordering.TheVariants.{Less, Greater}
use Rattle.std.specs.Cmp.Lexicographic.{slice_cmp, pointwise}
use Rattle.ec_moment.specs.Number.{number_text, number_value}
use Rattle.ec_terms.specs.Pieces.{pieces_between}
use Rattle.ec_terms.specs.declared.limits.TheConstants.{MOST_ARGS}
use Rattle.ec_terms.specs.Spelling.{is_name, name_run, begins_with}
use Rattle.ec_terms.specs.declared.ground.Arg.{Arg}
use Rattle.ec_terms.specs.declared.ground.Arg.TheVariants.{Int, Word}
use Rattle.ec_terms.specs.declared.ground.Ground.{Ground}
use Rattle.ec_terms.specs.declared.ground.ArgRef.{ArgRef}
use Rattle.ec_terms.specs.declared.ground.ArgRef.TheVariants.{Int as IntRef, Word as WordRef}
use Rattle.ec_terms.specs.declared.ground.GroundRef.{GroundRef}

-- ---- borrowed terms

-- the argument that a borrowed argument shows
abbrev pub arg_of : ArgRef → Arg
arg_of (IntRef z) = Int z
arg_of (WordRef w) = Word w.now

-- the term that a borrowed term shows
abbrev pub ground_of : GroundRef → Ground
ground_of g = record { name = g.name.now; args = map arg_of g.args }

-- ---- names

-- the argument is a number, or its bytes are a name
unfoldable pub is_argument : Arg → Bool
is_argument (Int z) = true
is_argument (Word w) = is_name w

-- the name and each argument that is no number are names
unfoldable pub names_are_names : Ground → Bool
names_are_names g = is_name g.name && list_all is_argument g.args

-- ---- equality

-- two arguments are the same
unfoldable pub arg_eq : Arg → Arg → Bool
arg_eq (Int x) (Int y) = int_eq x y
arg_eq (Int x) (Word w) = false
arg_eq (Word v) (Int y) = false
arg_eq (Word v) (Word w) = bytes_eq v w

-- two terms are the same
unfoldable pub term_eq : Ground → Ground → Bool
term_eq p q = bytes_eq p.name q.name && pointwise arg_eq p.args q.args

-- ---- order

-- names go by their bytes: the first that differs decides, and a prefix comes first
abbrev pub name_cmp : List ℕ → List ℕ → Ordering
name_cmp = slice_cmp nat_cmp

-- numbers before names, numbers by value, names by bytes
unfoldable pub arg_cmp : Arg → Arg → Ordering
arg_cmp (Int x) (Int y) = int_cmp x y
arg_cmp (Int x) (Word w) = Less
arg_cmp (Word v) (Int y) = Greater
arg_cmp (Word v) (Word w) = name_cmp v w

-- terms go by name, then by number of arguments, then by the arguments from the left
unfoldable pub term_cmp : Ground → Ground → Ordering
term_cmp p q =
    ordering_then (name_cmp p.name q.name)
    (ordering_then (nat_cmp (length p.args) (length q.args)) (slice_cmp arg_cmp p.args q.args))

-- ---- canonical text

-- a number in decimal, a name as it is
unfoldable pub arg_text : Arg → List ℕ
arg_text (Int z) = number_text z
arg_text (Word w) = w

-- the arguments between parentheses with commas; nothing where there are none
unfoldable pub args_text : List Arg → List ℕ
args_text [] = []
args_text (a ∷ rest) = 40 ∷ join_with_byte 44 (map arg_text (a ∷ rest)) ++ 41 ∷ []

-- the name and its arguments, with no blank
unfoldable pub term_text : Ground → List ℕ
term_text g = g.name ++ args_text g.args

-- ---- reading

-- the argument that the bytes spell, or none: a number or a name
unfoldable pub arg_value : List ℕ → Option Arg
arg_value bytes = if is_name bytes then Some (Word bytes) else option_map Int (number_value bytes)

-- the parts of a text between its commas
abbrev pub pieces_of : List ℕ → List (List ℕ)
pieces_of inside = pieces_between (λ b. b == 44) inside

-- the arguments that the pieces spell, or none where one of them spells none
unfoldable pub args_value : List (List ℕ) → Option (List Arg)
args_value [] = Some []
args_value (piece ∷ pieces) = option_and_then (λ a. option_map (λ rest. a ∷ rest) (args_value pieces)) (arg_value piece)

-- the arguments between the parentheses, as few as a term has
unfoldable pub args_within : List ℕ → Option (List Arg)
args_within inside = if nat_le (length (pieces_of inside)) MOST_ARGS then args_value (pieces_of inside) else None

-- what stands before the first `)`, or none where there is no `)`
unfoldable pub inside_of : List ℕ → Option (List ℕ)
inside_of bytes = if nat_le (length bytes) (length (before_first (λ b. b == 41) bytes)) then None else Some (before_first (λ b. b == 41) bytes)

-- a term with the name, whose arguments stand in `rest` from behind its `(` up to its `)`, and its length
unfoldable pub term_with_args : List ℕ → List ℕ → Option (Ground × ℕ)
term_with_args name rest =
    option_and_then
    (λ inside. option_map (λ args. (record { name = name; args = args }, length name + length inside + 2)) (args_within inside))
    (inside_of rest)

-- The term at the front of a text and its length. The name is the longest run of name bytes; where a
-- `(` follows it, the whole form up to its `)` is needed.
unfoldable pub term_front : List ℕ → Option (Ground × ℕ)
term_front bytes =
    let name = name_run bytes in
    let rest = drop (length name) bytes in
    if is_name name then
    (if begins_with (λ b. b == 40) rest then term_with_args name (drop 1 rest) else Some (record { name = name; args = [] }, length name))
    else None

-- the term that the bytes spell as a whole, or none
unfoldable pub term_value : List ℕ → Option Ground
term_value bytes = option_and_then (λ found. if found.1 == length bytes then Some found.0 else None) (term_front bytes)
