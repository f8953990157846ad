-- What spells a name and a variable, and the run of their bytes that stands at the front of a text.
use Rattle.std.specs.Prelude.{ℕ, Bool, false, ◌&&◌, ◌||◌, ◌==◌, nat_le, List, [], ◌∷◌, length, take_while}
use Rattle.std.specs.List.{list_all}
use Rattle.ec_terms.specs.declared.limits.TheConstants.{LONGEST_NAME}

-- a byte from a to z
unfoldable pub is_lower : ℕ → Bool
is_lower b = nat_le 97 b && nat_le b 122

-- a byte from A to Z
unfoldable pub is_upper : ℕ → Bool
is_upper b = nat_le 65 b && nat_le b 90

-- a byte that a name or a variable may have behind its first: a letter, a digit or an underscore
unfoldable pub is_name_byte : ℕ → Bool
is_name_byte b = is_lower b || is_upper b || (nat_le 48 b && nat_le b 57) || b == 95

-- the text begins with a byte that passes the test
unfoldable pub begins_with : (ℕ → Bool) → List ℕ → Bool
begins_with test [] = false
begins_with test (b ∷ bytes) = test b

-- the longest name or variable has this many bytes
abbrev pub longest_name : ℕ
longest_name = LONGEST_NAME

-- a name: a lower case letter, then letters, digits and underscores, no more bytes in all than the longest name has
unfoldable pub is_name : List ℕ → Bool
is_name bytes = begins_with is_lower bytes && list_all is_name_byte bytes && nat_le (length bytes) longest_name

-- a variable: the same with an upper case letter in front
unfoldable pub is_variable : List ℕ → Bool
is_variable bytes = begins_with is_upper bytes && list_all is_name_byte bytes && nat_le (length bytes) longest_name

-- the longest run of name bytes at the front of a text
unfoldable pub name_run : List ℕ → List ℕ
name_run bytes = take_while is_name_byte bytes
