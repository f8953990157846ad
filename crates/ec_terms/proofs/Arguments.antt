-- What spells an argument, and where the run of an argument ends.
use Rattle.std.proofs.Common.{◌≡◌, ℕ, ◌≤◌, Bool, true, false, ◌&&◌, ◌==◌, ◌||◌, not, List, [], ◌∷◌, ◌++◌, length, take, take_while, cond, arith, refl, ap, sym, subst, ◌∙◌, inl, inr, w64, to_z, of_z, Option, Some, None, option_map, ℤ}
use Rattle.std.specs.List.{list_all}
use Rattle.std.specs.Char.{is_ascii_digit}
use Rattle.std.specs.Str.{all_ascii_digits}
use Rattle.std.specs.Str.Parse.{starts_with_minus}
use Rattle.std.proofs.lemmas.Bool.{cases_Bool, and_left, cond-true, cond-false, false_from_ne_true, and_parts}
use Rattle.std.proofs.lemmas.Bool.Decides.{nat_tests}
use Rattle.std.proofs.lemmas.List.Sums.{take_while-cons}
use Rattle.std.proofs.lemmas.Option.{cond_some}
use Rattle.ec_moment.specs.Number.{is_digit_run, is_number, number_value, signed_value, without_minus}
use Rattle.ec_terms.specs.Spelling.{is_lower, is_upper, is_name_byte, begins_with, is_name, name_run}
use Rattle.ec_terms.specs.Front.{name_front, digit_run, number_run, number_front}
use Rattle.ec_terms.proofs.Names.{is_name-lower, is_name-bytes}
use Rattle.ec_terms.specs.declared.ground.Arg.{Arg}
use Rattle.ec_terms.specs.declared.ground.Arg.TheVariants.{Int, Word}
use Rattle.ec_terms.specs.Term.{arg_value}
use Rattle.ec_terms.specs.Front.{arg_run, arg_front}
use Rattle.std.proofs.lemmas.Int.{to_z-of_z}
use Rattle.ec_terms.proofs.Runs.{SFits-number_front, list_all-name_run, name_run-is_take, name_run-within, number_run-is_take, number_run-within, number_run-minus, number_run-plain, minus_cases}
use Rattle.ec_lists.proofs.Tests.{list_all-weaker}
use Rattle.ec_lists.proofs.Fronts.{list_all-take_while, take_while-all, take_while-seam}

-- ---- what begins with a letter, and what has the form of a number

pub begins_lower-name_run : (bs : List ℕ) → begins_with is_lower bs ≡ true → begins_with is_lower (name_run bs) ≡ true
unfolding begins_with name_run is_name_byte
begins_lower-name_run [] h = h
begins_lower-name_run (b ∷ bs) h =
    let e : is_name_byte b ≡ true = grind (arith, nat_tests) in
    subst (λ (run : List ℕ). begins_with is_lower run ≡ true) (sym (take_while-cons is_name_byte b bs ∙ cond-true (is_name_byte b) _ _ e)) h

-- std's test of digits is a test of each byte
pub all_ascii_digits-is : (ds : List ℕ) → all_ascii_digits ds ≡ list_all is_ascii_digit ds
all_ascii_digits-is [] = refl
all_ascii_digits-is (d ∷ ds) = ap (λ b. is_ascii_digit d && b) (all_ascii_digits-is ds)

pub list_all-digits : (ds : List ℕ) → is_digit_run ds ≡ true → list_all is_ascii_digit ds ≡ true
list_all-digits ds h = sym (all_ascii_digits-is ds) ∙ (and_parts _ _ h).1

-- digits do not begin with a letter
pub begins_lower-digits : (ds : List ℕ) → list_all is_ascii_digit ds ≡ true → begins_with is_lower ds ≡ false
unfolding begins_with is_lower
begins_lower-digits [] h = refl
begins_lower-digits (d ∷ ds) h = let e : is_ascii_digit d ≡ true = (and_parts _ _ h).0 in grind (arith, nat_tests)

begins_lower-minus : (xs : List ℕ) → begins_with is_lower (45 ∷ xs) ≡ false
unfolding begins_with is_lower
begins_lower-minus xs = refl

-- a text with the form of a number does not begin with a letter
pub begins_lower-number : (bs : List ℕ) → is_digit_run (without_minus bs) ≡ true → begins_with is_lower bs ≡ false
begins_lower-number bs =
    minus_cases (λ xs. is_digit_run (without_minus xs) ≡ true → begins_with is_lower xs ≡ false)
    (λ xs h. begins_lower-minus xs)
    (λ xs plain h. begins_lower-digits xs (list_all-digits xs (ap is_digit_run (sym (cond-false _ _ _ plain)) ∙ h)))
    bs

digit_run-all : (xs : List ℕ) → list_all is_ascii_digit xs ≡ true → digit_run xs ≡ xs
unfolding digit_run
digit_run-all xs h = take_while-all is_ascii_digit xs h

-- a text with the form of a number is its own run
pub number_run-all : (bs : List ℕ) → is_digit_run (without_minus bs) ≡ true → number_run bs ≡ bs
number_run-all bs =
    minus_cases (λ xs. is_digit_run (without_minus xs) ≡ true → number_run xs ≡ xs)
    (λ xs h. number_run-minus xs ∙ ap (λ ys. 45 ∷ ys) (digit_run-all xs (list_all-digits xs h)))
    (λ xs plain h. number_run-plain xs plain ∙ digit_run-all xs (list_all-digits xs (ap is_digit_run (sym (cond-false _ _ _ plain)) ∙ h)))
    bs

-- what spells a number has the form of one
pub is_digit_run-from_value : (bs : List ℕ) (z : ℤ) → number_value bs ≡ Some z → is_digit_run (without_minus bs) ≡ true
unfolding number_value
is_digit_run-from_value bs z h = (and_parts _ _ (cond_some (is_digit_run (without_minus bs) && is_number (signed_value bs)) (signed_value bs) z h).0).0

-- what begins with a letter spells no number
pub number_value-letter : (bs : List ℕ) → begins_with is_lower bs ≡ true → number_value bs ≡ None
unfolding number_value
number_value-letter bs h =
    let no_run : is_digit_run (without_minus bs) ≡ false = false_from_ne_true _ (λ run. let e = begins_lower-number bs run in cc) in
    cond-false _ _ _ (and_left _ _ no_run)

-- what begins with no letter is no name
pub is_name-no_letter : (bs : List ℕ) → begins_with is_lower bs ≡ false → is_name bs ≡ false
is_name-no_letter bs h = false_from_ne_true _ (λ name. let e = is_name-lower bs name in cc)

begins_lower-digit_run : (xs : List ℕ) → begins_with is_lower (digit_run xs) ≡ false
unfolding digit_run
begins_lower-digit_run xs = begins_lower-digits (take_while is_ascii_digit xs) (list_all-take_while is_ascii_digit xs)

-- the run of a number does not begin with a letter
pub begins_lower-number_run : (bs : List ℕ) → begins_with is_lower (number_run bs) ≡ false
begins_lower-number_run bs =
    minus_cases (λ xs. begins_with is_lower (number_run xs) ≡ false)
    (λ xs. ap (begins_with is_lower) (number_run-minus xs) ∙ begins_lower-minus (digit_run xs))
    (λ xs h. ap (begins_with is_lower) (number_run-plain xs h) ∙ begins_lower-digit_run xs)
    bs

-- ---- the run of an argument

pub arg_run-letter : (bs : List ℕ) → begins_with is_lower bs ≡ true → arg_run bs ≡ name_run bs
unfolding arg_run
arg_run-letter bs h = cond-true _ _ _ h

pub arg_run-no_letter : (bs : List ℕ) → begins_with is_lower bs ≡ false → arg_run bs ≡ number_run bs
unfolding arg_run
arg_run-no_letter bs h = cond-false _ _ _ h

-- a text begins with a letter or it does not
letter_cases : (P : List ℕ → Type 0) (bs : List ℕ) → (begins_with is_lower bs ≡ true → P (name_run bs)) → (begins_with is_lower bs ≡ false → P (number_run bs)) → P (arg_run bs)
letter_cases P bs letter other =
    elim (cases_Bool (begins_with is_lower bs)) [
      | inl e ↦ subst P (sym (arg_run-letter bs e)) (letter e)
      | inr e ↦ subst P (sym (arg_run-no_letter bs e)) (other e)
    ]

pub arg_run-is_take : (bs : List ℕ) → arg_run bs ≡ take (length (arg_run bs)) bs
arg_run-is_take bs = letter_cases (λ run. run ≡ take (length run) bs) bs (λ e. name_run-is_take bs) (λ e. number_run-is_take bs)

pub arg_run-within : (bs : List ℕ) → length (arg_run bs) ≤ length bs
arg_run-within bs = letter_cases (λ run. length run ≤ length bs) bs (λ e. name_run-within bs) (λ e. number_run-within bs)

-- a name or a number, whichever the bytes can be
pub arg_value-letter : (bs : List ℕ) → begins_with is_lower bs ≡ true → arg_value bs ≡ (cond (is_name bs) (Some (Word bs)) None)
unfolding arg_value
arg_value-letter bs h = ap (λ o. cond (is_name bs) (Some (Word bs)) (option_map Int o)) (number_value-letter bs h)

pub arg_value-no_letter : (bs : List ℕ) → begins_with is_lower bs ≡ false → arg_value bs ≡ option_map Int (number_value bs)
unfolding arg_value
arg_value-no_letter bs h = cond-false _ _ _ (is_name-no_letter bs h)

-- the argument at the front is the name there or the number there
pub arg_front-letter : (bs : List ℕ) → begins_with is_lower bs ≡ true → arg_front bs ≡ option_map {U = Arg × ℕ} (λ f. (Word f.0, f.1)) (name_front bs)
unfolding arg_front name_front
arg_front-letter bs h =
    let run = arg_run-letter bs h in
    let value = arg_value-letter (name_run bs) (begins_lower-name_run bs h) in
    ap (λ (r : List ℕ). option_map {U = Arg × ℕ} (λ (a : Arg). (a, length r)) (arg_value r)) run
    ∙ ap (option_map {U = Arg × ℕ} (λ (a : Arg). (a, length (name_run bs)))) value ∙ both (is_name (name_run bs))
  where
    both : (b : Bool) →
        option_map {U = Arg × ℕ} (λ (a : Arg). (a, length (name_run bs))) (cond b (Some (Word (name_run bs))) None)
        ≡ option_map {U = Arg × ℕ} (λ (f : List ℕ × ℕ). (Word f.0, f.1)) (cond b (Some (name_run bs, length (name_run bs))) None)
    both true = refl
    both false = refl

pub arg_front-no_letter : (bs : List ℕ) → begins_with is_lower bs ≡ false → arg_front bs ≡ option_map {U = Arg × ℕ} (λ f. (Int f.0, f.1)) (number_front bs)
unfolding arg_front number_front
arg_front-no_letter bs h =
    let run = arg_run-no_letter bs h in
    let value = arg_value-no_letter (number_run bs) (begins_lower-number_run bs) in
    ap (λ (r : List ℕ). option_map {U = Arg × ℕ} (λ (a : Arg). (a, length r)) (arg_value r)) run
    ∙ ap (option_map {U = Arg × ℕ} (λ (a : Arg). (a, length (number_run bs)))) value ∙ both (number_value (number_run bs))
  where
    both : (o : Option ℤ) →
        option_map {U = Arg × ℕ} (λ (a : Arg). (a, length (number_run bs))) (option_map Int o)
        ≡ option_map {U = Arg × ℕ} (λ (f : ℤ × ℕ). (Int f.0, f.1)) (option_map {U = ℤ × ℕ} (λ (z : ℤ). (z, length (number_run bs))) o)
    both None = refl
    both (Some z) = refl

pub arg_front-name : (bs name : List ℕ) (n : ℕ) → begins_with is_lower bs ≡ true → name_front bs ≡ Some (name, n) → arg_front bs ≡ Some (Word name, n)
arg_front-name bs name n h e = arg_front-letter bs h ∙ ap (option_map {U = Arg × ℕ} (λ (f : List ℕ × ℕ). (Word f.0, f.1))) e

pub arg_front-no_name : (bs : List ℕ) → begins_with is_lower bs ≡ true → name_front bs ≡ None → arg_front bs ≡ None
arg_front-no_name bs h e = arg_front-letter bs h ∙ ap (option_map {U = Arg × ℕ} (λ (f : List ℕ × ℕ). (Word f.0, f.1))) e

pub arg_front-number : (bs : List ℕ) (z : ℤ) (n : ℕ) → begins_with is_lower bs ≡ false → number_front bs ≡ Some (z, n) →
    arg_front bs ≡ Some (Int (to_z w64 (of_z w64 z)), n)
arg_front-number bs z n h e =
    arg_front-no_letter bs h ∙ ap (option_map {U = Arg × ℕ} (λ (f : ℤ × ℕ). (Int f.0, f.1))) e
    ∙ ap (λ (x : ℤ). Some (Int x, n)) (sym (to_z-of_z w64 z (SFits-number_front bs z n e)))

pub arg_front-no_number : (bs : List ℕ) → begins_with is_lower bs ≡ false → number_front bs ≡ None → arg_front bs ≡ None
arg_front-no_number bs h e = arg_front-no_letter bs h ∙ ap (option_map {U = Arg × ℕ} (λ (f : ℤ × ℕ). (Int f.0, f.1))) e

-- ---- where an argument ends

-- a byte that can stand in no argument: `,` or `)`
abbrev pub is_mark : ℕ → Bool
is_mark b = b == 44 || b == 41

-- a byte that ends no argument
abbrev pub is_plain : ℕ → Bool
is_plain b = not (is_mark b)

plain_name_byte : (b : ℕ) → is_name_byte b ≡ true → is_plain b ≡ true
unfolding is_name_byte is_lower is_upper
plain_name_byte b h = grind (arith, nat_tests)

plain_digit : (b : ℕ) → is_ascii_digit b ≡ true → is_plain b ≡ true
plain_digit b h = grind (arith, nat_tests)

list_all-digit_run : (bs : List ℕ) → list_all is_ascii_digit (digit_run bs) ≡ true
unfolding digit_run
list_all-digit_run bs = list_all-take_while is_ascii_digit bs

plain_number_run : (bs : List ℕ) → list_all is_plain (number_run bs) ≡ true
plain_number_run bs =
    let digits = λ (xs : List ℕ). list_all-weaker is_ascii_digit is_plain plain_digit (digit_run xs) (list_all-digit_run xs) in
    minus_cases (λ xs. list_all is_plain (number_run xs) ≡ true)
    (λ xs. ap (list_all is_plain) (number_run-minus xs) ∙ digits xs)
    (λ xs h. ap (list_all is_plain) (number_run-plain xs h) ∙ digits xs)
    bs

-- no `,` and no `)` stands in the run of an argument
pub plain_arg_run : (bs : List ℕ) → list_all is_plain (arg_run bs) ≡ true
plain_arg_run bs =
    letter_cases (λ run. list_all is_plain run ≡ true) bs
    (λ e. list_all-weaker is_name_byte is_plain plain_name_byte (name_run bs) (list_all-name_run bs))
    (λ e. plain_number_run bs)

mark_no_name_byte : (d : ℕ) → is_mark d ≡ true → is_name_byte d ≡ false
unfolding is_name_byte is_lower is_upper
mark_no_name_byte d h = grind (arith, nat_tests)

mark_no_digit : (d : ℕ) → is_mark d ≡ true → is_ascii_digit d ≡ false
mark_no_digit d h = grind (arith, nat_tests)

name_run-seam : (p : List ℕ) (d : ℕ) (r : List ℕ) → is_mark d ≡ true → name_run (p ++ d ∷ r) ≡ name_run p
unfolding name_run
name_run-seam p d r h = take_while-seam is_name_byte p d r (mark_no_name_byte d h)

digit_run-seam : (p : List ℕ) (d : ℕ) (r : List ℕ) → is_mark d ≡ true → digit_run (p ++ d ∷ r) ≡ digit_run p
unfolding digit_run
digit_run-seam p d r h = take_while-seam is_ascii_digit p d r (mark_no_digit d h)

number_run-seam : (p : List ℕ) (d : ℕ) (r : List ℕ) → is_mark d ≡ true → number_run (p ++ d ∷ r) ≡ number_run p
number_run-seam p d r h =
    minus_cases (λ xs. number_run (xs ++ d ∷ r) ≡ number_run xs)
    (λ xs. number_run-minus (xs ++ d ∷ r) ∙ ap (λ ys. 45 ∷ ys) (digit_run-seam xs d r h) ∙ sym (number_run-minus xs))
    (λ xs e. number_run-plain (xs ++ d ∷ r) (plain xs e) ∙ digit_run-seam xs d r h ∙ sym (number_run-plain xs e))
    p
  where
    plain : (xs : List ℕ) → starts_with_minus xs ≡ false → starts_with_minus (xs ++ d ∷ r) ≡ false
    plain [] e = grind (arith, nat_tests)
    plain (x ∷ xs) e = e

begins_lower-seam : (p : List ℕ) (d : ℕ) (r : List ℕ) → is_mark d ≡ true → begins_with is_lower (p ++ d ∷ r) ≡ begins_with is_lower p
unfolding begins_with is_lower
begins_lower-seam [] d r h = grind (arith, nat_tests)
begins_lower-seam (b ∷ p) d r h = refl

-- the run of an argument ends where a `,` or a `)` stands
pub arg_run-seam : (p : List ℕ) (d : ℕ) (r : List ℕ) → is_mark d ≡ true → arg_run (p ++ d ∷ r) ≡ arg_run p
unfolding arg_run
arg_run-seam p d r h =
    let first = begins_lower-seam p d r h in
    let name = name_run-seam p d r h in
    let number = number_run-seam p d r h in
    cc

name_run-all : (p : List ℕ) → list_all is_name_byte p ≡ true → name_run p ≡ p
unfolding name_run
name_run-all p h = take_while-all is_name_byte p h

-- what spells an argument is its own run
pub arg_run-all : (p : List ℕ) (a : Arg) → arg_value p ≡ Some a → arg_run p ≡ p
arg_run-all p a h =
    elim (cases_Bool (begins_with is_lower p)) [
      | inl e ↦ arg_run-letter p e ∙ name_case (cond_some (is_name p) (Word p) a (sym (arg_value-letter p e) ∙ h)).0
      | inr e ↦ arg_run-no_letter p e ∙ number_case (sym (arg_value-no_letter p e) ∙ h)
    ]
  where
    name_case : is_name p ≡ true → name_run p ≡ p
    name_case name = name_run-all p (is_name-bytes p name)

    number_of : (o : Option ℤ) → number_value p ≡ o → option_map Int o ≡ Some a → number_run p ≡ p
    number_of None e k = cc
    number_of (Some z) e k = number_run-all p (is_digit_run-from_value p z e)

    number_case : option_map Int (number_value p) ≡ Some a → number_run p ≡ p
    number_case e = number_of (number_value p) refl e
