-- What follows for the bytes of a name: they are ASCII, and few.
use Rattle.std.proofs.Common.{◌≡◌, ℕ, ◌<◌, ◌≤◌, true, List, [], ◌∷◌, length, arith, zero, suc}
use Rattle.std.specs.List.{list_all}
use Rattle.std.specs.Str.{IsAscii, IsUtf8}
use Rattle.std.proofs.lemmas.Str.{IsUtf8-from_ascii}
use Rattle.std.proofs.lemmas.Bool.{leb-true, and_parts}
use Rattle.std.proofs.lemmas.Bool.Decides.{nat_tests}
use Rattle.ec_terms.specs.declared.limits.TheConstants.{LONGEST_NAME}
use Rattle.ec_terms.specs.Spelling.{is_lower, is_upper, is_name_byte, begins_with, is_name}

pub is_name_byte-lt : (b : ℕ) → is_name_byte b ≡ true → b < 128
unfolding is_name_byte is_lower is_upper
is_name_byte-lt b h = grind (arith, nat_tests)

pub IsAscii-from_name_bytes : (bs : List ℕ) → list_all is_name_byte bs ≡ true → IsAscii bs
IsAscii-from_name_bytes [] h i = omega arith
IsAscii-from_name_bytes (b ∷ bs) h zero = is_name_byte-lt b (and_parts _ _ h).0
IsAscii-from_name_bytes (b ∷ bs) h (suc i) = IsAscii-from_name_bytes bs (and_parts _ _ h).1 i

pub is_name-bytes : (bs : List ℕ) → is_name bs ≡ true → list_all is_name_byte bs ≡ true
unfolding is_name
is_name-bytes bs h = (and_parts _ _ (and_parts _ _ h).0).1

pub is_name-lower : (bs : List ℕ) → is_name bs ≡ true → begins_with is_lower bs ≡ true
unfolding is_name
is_name-lower bs h = (and_parts _ _ (and_parts _ _ h).0).0

pub is_name-short : (bs : List ℕ) → is_name bs ≡ true → length bs ≤ LONGEST_NAME
unfolding is_name
is_name-short bs h = leb-true _ _ (and_parts _ _ h).1

pub IsUtf8-from_name : (bs : List ℕ) → is_name bs ≡ true → IsUtf8 bs
IsUtf8-from_name bs h = IsUtf8-from_ascii bs (IsAscii-from_name_bytes bs (is_name-bytes bs h))

-- what a name's bytes are, for calls that copy them
pub ruleset name_bytes = (IsUtf8-from_name, is_name-short)
