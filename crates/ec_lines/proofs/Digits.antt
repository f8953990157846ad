-- Words of decimal digits.
use Rattle.std.proofs.Common.{◌≡◌, ◌<◌, ◌≤◌, ◌^◌, ℕ, zero, suc, Bool, true, ◌&&◌, List, [], ◌∷◌, length, Result, Ok, Err, IfNone, refl, sym, ap, ◌∙◌, subst, arith}
use Rattle.std.specs.Char.{is_ascii_digit}
use Rattle.std.specs.List.{list_all}
use Rattle.std.specs.Str.{IsAscii, IsUtf8, all_ascii_digits}
use Rattle.std.specs.Result.{result_ok}
use Rattle.std.specs.Str.Parse.{IsNumeral, ParsesUnsigned, digits_value, without_leading_plus}
use Rattle.std.proofs.lemmas.Bool.{ne_eqb}
use Rattle.std.proofs.lemmas.Str.{IsUtf8-from_ascii}
use Rattle.std.proofs.lemmas.Str.Parse.{numerals_by_value, tells_all_ascii_digits}

each_is_digit : (word : List ℕ) → list_all is_ascii_digit word ≡ all_ascii_digits word
each_is_digit [] = refl
each_is_digit (byte ∷ word) = ap (λ (rest : Bool). is_ascii_digit byte && rest) (each_is_digit word)

-- digits are a numeral
digits_are_numeral : (word : List ℕ) → 0 < length word → all_ascii_digits word ≡ true → IsNumeral 10 word
digits_are_numeral word some digits = (some, (numerals_by_value (λ (ds : List ℕ). all_ascii_digits ds ≡ true) tells_all_ascii_digits).to word digits)

-- and begin with no sign
digits_without_plus : (word : List ℕ) → all_ascii_digits word ≡ true → without_leading_plus word ≡ word
digits_without_plus [] digits = refl
digits_without_plus (byte ∷ word) digits =
    let parts = tells_all_ascii_digits.parts byte word digits in
    rw (ne_eqb byte 43 (λ same. omega (arith, parts.0.0, same))) refl

-- where digits are not read, their value is 2 ^ 64 or more
pub unread_digits : {E : Type 0} (word : List ℕ) (read : Result ℕ E) → 0 < length word → list_all is_ascii_digit word ≡ true → ParsesUnsigned 64 10 word read
    → (e : E) → read ≡ Err e → 2 ^ 64 ≤ digits_value 10 word
unread_digits {E} word read some each parses e is =
    let digits : all_ascii_digits word ≡ true = sym (each_is_digit word) ∙ each in
    let same = digits_without_plus word digits in
    let not : ¬ (IsNumeral 10 (without_leading_plus word) × (digits_value 10 (without_leading_plus word) < 2 ^ 64)) = subst (λ (r : Result ℕ E). ParsesUnsigned 64 10 word r) is parses in
    let never : ¬ (digits_value 10 word < 2 ^ 64) =
    λ less. not (subst (λ (w : List ℕ). IsNumeral 10 w × (digits_value 10 w < 2 ^ 64)) (sym same) (digits_are_numeral word some digits, less)) in
    omega (arith, never)

-- the same, where what is read is an option
pub unread_is_large : {E : Type 0} (word : List ℕ) (read : Result ℕ E) → 0 < length word → list_all is_ascii_digit word ≡ true → ParsesUnsigned 64 10 word read
    → IfNone (result_ok read) (2 ^ 64 ≤ digits_value 10 word)
unread_is_large word (Ok value) some each parses = tt
unread_is_large word (Err e) some each parses = unread_digits word (Err e) some each parses e refl

-- they are below 128
digits_are_ascii : (word : List ℕ) → all_ascii_digits word ≡ true → IsAscii word
digits_are_ascii [] digits i = omega arith
digits_are_ascii (byte ∷ word) digits zero = let parts = tells_all_ascii_digits.parts byte word digits in omega (arith, parts.0.1)
digits_are_ascii (byte ∷ word) digits (suc i) = let parts = tells_all_ascii_digits.parts byte word digits in digits_are_ascii word parts.1 i

-- so they are a text
pub digits_are_text : (word : List ℕ) → list_all is_ascii_digit word ≡ true → IsUtf8 word
digits_are_text word each = IsUtf8-from_ascii word (digits_are_ascii word (sym (each_is_digit word) ∙ each))
