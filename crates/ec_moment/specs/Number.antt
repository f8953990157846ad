-- What a number is: an optional `-` and then 1 to 20 digits, with a value that fits 64 bits with a sign.
use Rattle.std.specs.Prelude.{ℕ, ◌≡◌, ◌⊎◌, Bool, ◌&&◌, nat_le, if◌then◌else◌, List, drop, length, ℤ, pos, negsuc, neg_ℤ, int_le, Option, Some, None}
use Rattle.std.specs.Fmt.{signed_decimal}
use Rattle.std.specs.Int.{IsInRange}
use Rattle.std.specs.Str.{all_ascii_digits}
use Rattle.std.specs.Str.Parse.{digits_value, starts_with_minus}
use Rattle.ec_moment.specs.declared.limits.TheConstants.{MOST_DIGITS}
use Rattle.ec_moment.specs.Moment.{IsWithin}

-- the least number, -9223372036854775808
abbrev pub LEAST_NUMBER : ℤ
LEAST_NUMBER = negsuc 9223372036854775807

-- the greatest number
abbrev pub MOST_NUMBER : ℤ
MOST_NUMBER = pos 9223372036854775807

-- z is neither below the least number nor above the greatest, as a test
abbrev pub is_number : ℤ → Bool
is_number z = int_le LEAST_NUMBER z && int_le z MOST_NUMBER

-- the same as a fact
abbrev pub IsNumber : ℤ → Type 0
IsNumber z = IsWithin LEAST_NUMBER MOST_NUMBER z

-- the text behind its `-`, or all of it where it begins with none
abbrev pub without_minus : List ℕ → List ℕ
without_minus bs = if starts_with_minus bs then drop 1 bs else bs

-- 1 to 20 digits and nothing else
abbrev pub is_digit_run : List ℕ → Bool
is_digit_run ds = nat_le 1 (length ds) && nat_le (length ds) MOST_DIGITS && all_ascii_digits ds

-- n, or -n
abbrev pub with_sign : Bool → ℕ → ℤ
with_sign negative n = if negative then neg_ℤ (pos n) else pos n

-- the value of a `-`, if the text begins with one, and digits
abbrev pub signed_value : List ℕ → ℤ
signed_value bs = with_sign (starts_with_minus bs) (digits_value 10 (without_minus bs))

-- the number that the bytes spell, or none
unfoldable pub number_value : List ℕ → Option ℤ
number_value bs =
    if is_digit_run (without_minus bs) && is_number (signed_value bs) then Some (signed_value bs) else None

-- the canonical text of a number: a `-` below 0, and its decimal digits without leading zeros
abbrev pub number_text : ℤ → List ℕ
number_text z = signed_decimal z

-- a digit or `-`
abbrev pub IsNumberByte : ℕ → Type 0
IsNumberByte b = IsInRange 48 57 b ⊎ (b ≡ 45)
