-- Lemmas on numbers: what a run of digits is, and that the text of a number spells it.
use Rattle.std.proofs.Common.{◌≡◌, ℕ, ◌+◌, ◌*◌, ◌^◌, ◌<◌, ◌≤◌, ℤ, pos, negsuc, suc, ◌∷◌, decimal, Bool, List, Option, Some, None, SomeIff, true, false, length, take, get_or, All, IsTrue, inl, inr, ⊎_elim, refl, sym, subst, arith}
use Rattle.std.proofs.lemmas.Bool.{cases_Bool, and_left, and_right, and_from, cond-true, cond-false}
use Rattle.std.proofs.lemmas.Fmt.{decimal_is_IsNumeral, decimal_nonempty, length-decimal-le}
use Rattle.std.proofs.lemmas.Int.{ints}
use Rattle.std.proofs.lemmas.List.Elements.{All-from_get_or, All-cons}
use Rattle.std.proofs.lemmas.Int.Digits.{digits_value_more, digits_more}
use Rattle.std.proofs.lemmas.Str.{digit_value_digit}
use Rattle.std.proofs.lemmas.Str.Parse.{IsNumeralModel, numerals_by_value, tells_all_ascii_digits, digits_value-take-le, digit_at}
use Rattle.std.specs.Int.{IsInRange}
use Rattle.std.specs.Str.{all_ascii_digits}
use Rattle.std.specs.Str.Parse.{AllDigits, digits_value, starts_with_minus}
use Rattle.ec_moment.specs.declared.limits.TheConstants.{MOST_DIGITS}
use Rattle.ec_moment.specs.Moment.{IsWordByte}
use Rattle.ec_moment.specs.Number.{IsNumber, IsNumberByte, is_digit_run, is_number, number_text, number_value, signed_value, with_sign, without_minus}

-- std's words for runs of digits and their value fit one another
pub digit_runs : IsNumeralModel (λ ds. all_ascii_digits ds ≡ true) (digits_value 10)
digit_runs = numerals_by_value _ tells_all_ascii_digits

-- few enough digits are a run
pub is_digit_run-from : (ds : List ℕ) → 0 < length ds → length ds ≤ MOST_DIGITS → AllDigits 10 ds → IsTrue (is_digit_run ds)
is_digit_run-from ds some few digits = let all = digit_runs.from ds digits in grind arith

-- a run has digits alone
pub AllDigits-from_run : (ds : List ℕ) → IsTrue (is_digit_run ds) → AllDigits 10 ds
AllDigits-from_run ds run = digit_runs.to ds (grind arith)

-- each byte of a run is a digit
pub digit_of_run : (ds : List ℕ) (i : ℕ) → IsTrue (is_digit_run ds) → i < length ds → IsInRange 48 57 (get_or ds i 0)
digit_of_run ds i run within = digit_at ds i (AllDigits-from_run ds run) within

-- one more digit
pub digits_value_digit : (ds : List ℕ) (i d : ℕ) → i < length ds → IsInRange 48 57 (get_or ds i 0) → d + 48 ≡ get_or ds i 0 →
    digits_value 10 (take (i + 1) ds) ≡ digits_value 10 (take i ds) * 10 + d
digits_value_digit ds i d within digit same = omega (arith, digits_value_more 10 ds i within, digit_value_digit (get_or ds i 0) digit)

-- a front with its next digit is no larger than the whole
pub digits_value-front_le : (ds : List ℕ) (i d : ℕ) → i < length ds → IsInRange 48 57 (get_or ds i 0) → d + 48 ≡ get_or ds i 0 →
    digits_value 10 (take i ds) * 10 + d ≤ digits_value 10 ds
digits_value-front_le ds i d within digit same =
    omega (arith, digits_value_digit ds i d within digit same, digits_value-take-le 10 ds (i + 1) (omega arith))

-- the digits so far, and one more
pub AllDigits-more : (ds : List ℕ) (i : ℕ) → i < length ds → IsInRange 48 57 (get_or ds i 0) → AllDigits 10 (take i ds) → AllDigits 10 (take (i + 1) ds)
AllDigits-more ds i within digit so_far =
    digits_more 10 ds i within so_far (omega (arith, digit_value_digit (get_or ds i 0) digit))

-- the test and the fact agree
pub is_number-true : (z : ℤ) → IsNumber z → is_number z ≡ true
is_number-true z inside = grind (arith, ints)

pub IsNumber-from_true : (z : ℤ) → is_number z ≡ true → IsNumber z
IsNumber-from_true z e = grind (arith, ints)

-- 2^64 and more is no number, with either sign
pub is_number-too_large : (negative : Bool) (n : ℕ) → 2 ^ 64 ≤ n → is_number (with_sign negative n) ≡ false
is_number-too_large negative n large = grind (arith, ints)

-- no run of digits, no number
pub number_value-no_run : (bs : List ℕ) → is_digit_run (without_minus bs) ≡ false → number_value bs ≡ None
unfolding number_value
number_value-no_run bs e = cond-false _ _ _ (and_left _ _ e)

-- a value out of range is no number
pub number_value-no_number : (bs : List ℕ) → is_number (signed_value bs) ≡ false → number_value bs ≡ None
unfolding number_value
number_value-no_number bs e = cond-false _ _ _ (and_right _ _ e)

-- digits with a value in range are a number
pub number_value-number : (bs : List ℕ) → IsTrue (is_digit_run (without_minus bs)) → is_number (signed_value bs) ≡ true →
    number_value bs ≡ Some (signed_value bs)
unfolding number_value
number_value-number bs run inside = cond-true _ _ _ (and_from _ _ run inside)

-- digits whose value is too large whatever the sign
pub number_value-too_large : (bs ds : List ℕ) → ds ≡ without_minus bs →
    (IsTrue (is_digit_run ds) → 2 ^ 64 ≤ digits_value 10 ds) → number_value bs ≡ None
number_value-too_large bs ds rest large_there =
    let P : List ℕ → Type 0 = λ xs. IsTrue (is_digit_run xs) → 2 ^ 64 ≤ digits_value 10 xs in
    let large = subst P rest large_there in
    ⊎_elim (λ run. number_value-no_number bs (is_number-too_large (starts_with_minus bs) _ (large run)))
    (λ no_run. number_value-no_run bs no_run) (cases_Bool (is_digit_run (without_minus bs)))

-- what is given exactly where the value is a number is the number
pub number_value-given : (bs : List ℕ) (r : Option ℤ) → IsTrue (is_digit_run (without_minus bs)) →
    SomeIff r (IsNumber (signed_value bs)) (signed_value bs) → r ≡ number_value bs
number_value-given bs (Some z) run given =
    let e = number_value-number bs run (is_number-true _ given.0) in cc
number_value-given bs None run given =
    let e = number_value-no_number bs (⊎_elim (λ inside. absurd (given (IsNumber-from_true _ inside))) (λ outside. outside) (cases_Bool (is_number (signed_value bs)))) in cc

-- the same, of a sign, digits and a magnitude that were read off the bytes
pub number_value-of_run : (bs ds : List ℕ) (negative : Bool) (n : ℕ) (r : Option ℤ) →
    negative ≡ starts_with_minus bs → ds ≡ without_minus bs → n ≡ digits_value 10 ds → IsTrue (is_digit_run ds) →
    SomeIff r (IsNumber (with_sign negative n)) (with_sign negative n) → r ≡ number_value bs
number_value-of_run bs ds negative n r sign rest value run given =
    let P : List ℕ → Type 0 = λ xs. IsTrue (is_digit_run xs) in
    let Q : ℤ → Type 0 = λ z. SomeIff r (IsNumber z) z in
    let same : with_sign negative n ≡ signed_value bs = cc in
    number_value-given bs r (subst P rest run) (subst Q same given)

-- a text of digits begins with no `-`
pub starts_with_minus-digits : (ds : List ℕ) → 0 < length ds → AllDigits 10 ds → starts_with_minus ds ≡ false
starts_with_minus-digits ds some digits = let first = digit_at ds 0 digits some in grind arith

-- bytes that are a sign and digits spell the number with that sign and value
pub number_value-spelling : (bs ds : List ℕ) (negative : Bool) (n : ℕ) (z : ℤ) →
    negative ≡ starts_with_minus bs → ds ≡ without_minus bs → n ≡ digits_value 10 ds → IsTrue (is_digit_run ds) →
    z ≡ with_sign negative n → IsNumber z → number_value bs ≡ Some z
number_value-spelling bs ds negative n z sign rest value run same inside =
    sym (number_value-of_run bs ds negative n (Some z) sign rest value run (let P : ℤ → Type 0 = λ y. IsNumber y in subst P same inside, same))

-- decimal digits are a run
pub is_digit_run-decimal : (n : ℕ) → n < 2 ^ 64 → IsTrue (is_digit_run (decimal n))
is_digit_run-decimal n small =
    let numeral = decimal_is_IsNumeral n small in
    is_digit_run-from (decimal n) numeral.0.0 (length-decimal-le 20 n (omega arith) (omega arith) small) numeral.0.1

-- the text of a number spells that number
pub number_value-number_text : (z : ℤ) → IsNumber z → number_value (number_text z) ≡ Some z
number_value-number_text (pos n) inside =
    let small : n < 2 ^ 63 = grind (arith, ints) in
    let numeral = decimal_is_IsNumeral n (omega arith) in
    let plain = starts_with_minus-digits (decimal n) numeral.0.0 numeral.0.1 in
    number_value-spelling (decimal n) (decimal n) false n (pos n) (sym plain) (sym (cond-false _ _ _ plain)) (sym numeral.1)
    (is_digit_run-decimal n (omega arith)) refl inside
number_value-number_text (negsuc n) inside =
    let small : n < 2 ^ 63 = grind (arith, ints) in
    let numeral = decimal_is_IsNumeral (suc n) (omega arith) in
    number_value-spelling (45 ∷ decimal (suc n)) (decimal (suc n)) true (suc n) (negsuc n) refl refl (sym numeral.1)
    (is_digit_run-decimal (suc n) (omega arith)) refl inside

-- behind its `-` the text of a number is a run of digits
pub is_digit_run-number_text : (z : ℤ) → IsNumber z → IsTrue (is_digit_run (without_minus (number_text z)))
is_digit_run-number_text (pos n) inside =
    let small : n < 2 ^ 63 = grind (arith, ints) in
    let numeral = decimal_is_IsNumeral n (omega arith) in
    let P : List ℕ → Type 0 = λ ds. IsTrue (is_digit_run ds) in
    subst P (sym (cond-false _ _ _ (starts_with_minus-digits (decimal n) numeral.0.0 numeral.0.1))) (is_digit_run-decimal n (omega arith))
is_digit_run-number_text (negsuc n) inside =
    let small : n < 2 ^ 63 = grind (arith, ints) in
    is_digit_run-decimal (suc n) (omega arith)

-- each byte of a run of digits is a byte of a number
pub All-number_bytes : (ds : List ℕ) → IsTrue (is_digit_run ds) → All IsNumberByte ds
All-number_bytes ds run = All-from_get_or IsNumberByte ds 0 (λ i within. inl (digit_of_run ds i run within))

-- the text of a number is made of digits and `-`
pub All-number_text : (z : ℤ) → IsNumber z → All IsNumberByte (number_text z)
All-number_text (pos n) inside =
    let small : n < 2 ^ 63 = grind (arith, ints) in
    All-number_bytes (decimal n) (is_digit_run-decimal n (omega arith))
All-number_text (negsuc n) inside =
    let small : n < 2 ^ 63 = grind (arith, ints) in
    All-cons IsNumberByte 45 (decimal (suc n)) (inr refl) (All-number_bytes (decimal (suc n)) (is_digit_run-decimal (suc n) (omega arith)))

-- it has a byte at least, and no more than a number has digits
pub length-number_text : (z : ℤ) → IsNumber z → (1 ≤ length (number_text z)) × (length (number_text z) ≤ MOST_DIGITS)
length-number_text (pos n) inside =
    let small : n < 2 ^ 63 = grind (arith, ints) in
    (decimal_nonempty n (omega arith), length-decimal-le 20 n (omega arith) (omega arith) (omega arith))
length-number_text (negsuc n) inside =
    let small : n < 2 ^ 63 = grind (arith, ints) in
    let few = length-decimal-le 19 (suc n) (omega arith) (omega arith) (omega arith) in
    (omega arith, omega arith)

-- bytes of numbers can stand in a word
pub IsWordByte-of_number : (b : ℕ) → IsNumberByte b → IsWordByte b
IsWordByte-of_number b (inl digit) = (omega arith, omega arith, omega arith, omega arith)
IsWordByte-of_number b (inr minus) = (omega arith, omega arith, omega arith, omega arith)

-- what spells a number is a run of digits behind its `-`, and the number is its value
pub record Spells (bs : List ℕ) (z : ℤ) : Type 0 where
  pub run : IsTrue (is_digit_run (without_minus bs))
  pub value : z ≡ signed_value bs
  pub in_range : IsNumber z

pub number_value-Some : (bs : List ℕ) (z : ℤ) → number_value bs ≡ Some z → Spells bs z
number_value-Some bs z spelt =
    ⊎_elim
    (λ run. ⊎_elim
    (λ inside.
    let same : z ≡ signed_value bs = (let e = number_value-number bs run inside in cc) in
    let P : ℤ → Type 0 = λ y. IsNumber y in
    record { run = run; value = same; in_range = subst P (sym same) (IsNumber-from_true _ inside) })
    (λ outside. let e = number_value-no_number bs outside in absurd cc) (cases_Bool (is_number (signed_value bs))))
    (λ no_run. let e = number_value-no_run bs no_run in absurd cc) (cases_Bool (is_digit_run (without_minus bs)))
