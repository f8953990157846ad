-- The runs at the front of a text: where they lie, what they are made of, and where they end.
use Rattle.std.proofs.Common.{◌≡◌, ℕ, ◌<◌, ◌≤◌, ◌+◌, Bool, true, false, ◌&&◌, ◌==◌, List, [], ◌∷◌, ◌++◌, length, take, drop, take_while, arith, refl, ap, sym, subst, ◌∙◌, inl, inr, eqb-true, get_or, w64, SFits, to_z, of_z, pos, negsuc, ◌^◌, Option, Some, None, option_map, ℤ}
use Rattle.std.specs.List.{list_all}
use Rattle.std.specs.Char.{is_ascii_digit}
use Rattle.std.specs.Option.{unwrap_or}
use Rattle.std.specs.Str.Parse.{starts_with_minus}
use Rattle.std.proofs.lemmas.Bool.{cases_Bool, cond-true, cond-false, and_parts}
use Rattle.std.proofs.lemmas.List.Sums.{take_while-cons}
use Rattle.std.proofs.lemmas.Option.{cond_some}
use Rattle.ec_moment.specs.Number.{IsNumber, is_digit_run, is_number, number_value, signed_value, without_minus}
use Rattle.ec_terms.specs.Spelling.{is_name_byte, begins_with, is_name, name_run}
use Rattle.ec_terms.specs.Front.{name_front, digit_run, number_run, number_front}
use Rattle.std.proofs.lemmas.Option.{cond_some}
use Rattle.std.proofs.lemmas.Int.{ints, to_z-of_z}
use Rattle.ec_moment.proofs.NumberLemmas.{IsNumber-from_true}
use Rattle.ec_lists.proofs.Fronts.{list_all-take_while, take_while-is_take, take_while-within}

-- ---- runs of any kind

-- a run ends where the next element fails
pub take_while-none : (p : ℕ → Bool) (xs : List ℕ) → begins_with p xs ≡ false → take_while p xs ≡ []
unfolding begins_with
take_while-none p [] h = refl
take_while-none p (x ∷ xs) h = take_while-cons p x xs ∙ cond-false (p x) _ _ h

pub take_while-append : (p : ℕ → Bool) (xs ys : List ℕ) → list_all p xs ≡ true → begins_with p ys ≡ false → take_while p (xs ++ ys) ≡ xs
take_while-append p [] ys h e = take_while-none p ys e
take_while-append p (x ∷ xs) ys h e =
    take_while-cons p x (xs ++ ys) ∙ cond-true (p x) _ _ (and_parts _ _ h).0 ∙ ap (λ zs. x ∷ zs) (take_while-append p xs ys (and_parts _ _ h).1 e)

-- ---- runs of name bytes

pub name_run-is_take : (bs : List ℕ) → name_run bs ≡ take (length (name_run bs)) bs
unfolding name_run
name_run-is_take bs = take_while-is_take is_name_byte bs

pub name_run-within : (bs : List ℕ) → length (name_run bs) ≤ length bs
unfolding name_run
name_run-within bs = take_while-within is_name_byte bs

pub list_all-name_run : (bs : List ℕ) → list_all is_name_byte (name_run bs) ≡ true
unfolding name_run
list_all-name_run bs = list_all-take_while is_name_byte bs

-- the first n bytes, where the run has n
pub take-name_run : (bs : List ℕ) (n : ℕ) → n ≡ length (name_run bs) → take n bs ≡ name_run bs
take-name_run bs n e = ap (λ k. take k bs) e ∙ sym (name_run-is_take bs)

pub list_all-take-name_run : (bs : List ℕ) (n : ℕ) → n ≡ length (name_run bs) → list_all is_name_byte (take n bs) ≡ true
list_all-take-name_run bs n e = ap (list_all is_name_byte) (take-name_run bs n e) ∙ list_all-name_run bs

pub name_front-some : (bs : List ℕ) (n : ℕ) → n ≡ length (name_run bs) → is_name (take n bs) ≡ true → name_front bs ≡ Some (take n bs, n)
unfolding name_front
name_front-some bs n e h =
    let t = take-name_run bs n e in
    cond-true (is_name (name_run bs)) _ _ (ap is_name (sym t) ∙ h) ∙ cc

pub name_front-none : (bs : List ℕ) (n : ℕ) → n ≡ length (name_run bs) → is_name (take n bs) ≡ false → name_front bs ≡ None
unfolding name_front
name_front-none bs n e h = cond-false (is_name (name_run bs)) _ _ (ap is_name (sym (take-name_run bs n e)) ∙ h)

-- ---- runs of digits, and of a `-` and digits

pub length-digit_run : (bs : List ℕ) → length (digit_run bs) ≡ length (take_while is_ascii_digit bs)
unfolding digit_run
length-digit_run bs = refl

pub digit_run-is_take : (bs : List ℕ) → digit_run bs ≡ take (length (digit_run bs)) bs
unfolding digit_run
digit_run-is_take bs = take_while-is_take is_ascii_digit bs

pub digit_run-within : (bs : List ℕ) → length (digit_run bs) ≤ length bs
unfolding digit_run
digit_run-within bs = take_while-within is_ascii_digit bs

pub number_run-minus : (bs : List ℕ) → number_run (45 ∷ bs) ≡ 45 ∷ digit_run bs
unfolding number_run
number_run-minus bs = refl

pub number_run-plain : (bs : List ℕ) → starts_with_minus bs ≡ false → number_run bs ≡ digit_run bs
unfolding number_run
number_run-plain bs h = cond-false _ _ _ h

-- a text begins with `-` or it does not
pub minus_cases : (P : List ℕ → Type 0) → ((bs : List ℕ) → P (45 ∷ bs)) → ((bs : List ℕ) → starts_with_minus bs ≡ false → P bs) → (bs : List ℕ) → P bs
minus_cases P minus plain [] = plain [] refl
minus_cases P minus plain (b ∷ bs) =
    elim (cases_Bool (b == 45)) [
      | inl e ↦ subst (λ (x : ℕ). P (x ∷ bs)) (sym (eqb-true b 45 e)) (minus bs)
      | inr e ↦ plain (b ∷ bs) e
    ]

pub number_run-is_take : (bs : List ℕ) → number_run bs ≡ take (length (number_run bs)) bs
number_run-is_take bs =
    minus_cases (λ xs. number_run xs ≡ take (length (number_run xs)) xs)
    (λ xs. rw number_run-minus (ap (λ ys. 45 ∷ ys) (digit_run-is_take xs)))
    (λ xs h. subst (λ (run : List ℕ). run ≡ take (length run) xs) (sym (number_run-plain xs h)) (digit_run-is_take xs))
    bs

pub number_run-within : (bs : List ℕ) → length (number_run bs) ≤ length bs
number_run-within bs =
    minus_cases (λ xs. length (number_run xs) ≤ length xs)
    (λ xs. rw number_run-minus (omega (arith, digit_run-within xs)))
    (λ xs h. subst (λ (run : List ℕ). length run ≤ length xs) (sym (number_run-plain xs h)) (digit_run-within xs))
    bs

pub number_front-at : (bs : List ℕ) (n : ℕ) → n ≡ length (number_run bs) → number_front bs ≡ option_map (λ z. (z, n)) (number_value (take n bs))
unfolding number_front
number_front-at bs n e =
    let t : take n bs ≡ number_run bs = ap (λ k. take k bs) e ∙ sym (number_run-is_take bs) in
    ap (λ k. option_map (λ z. (z, k)) (number_value (number_run bs))) (sym e) ∙ ap (λ xs. option_map (λ z. (z, n)) (number_value xs)) (sym t)

-- the length of a run that begins with `-`
pub length-number_run-minus : (bs : List ℕ) (n : ℕ) → 0 < length bs → get_or bs 0 0 ≡ 45 →
    n ≡ length (digit_run (drop 1 bs)) → 1 + n ≡ length (number_run bs)
length-number_run-minus [] n some first e = absurd (omega arith)
length-number_run-minus (b ∷ bs) n some first e =
    let P : ℕ → Type 0 = λ x. 1 + n ≡ length (number_run (x ∷ bs)) in
    subst P (sym first) (rw number_run-minus (omega arith))

SFits-from_number : (z : ℤ) → IsNumber z → SFits w64 z
SFits-from_number (pos n) h = let small : n < 2 ^ 63 = grind (arith, ints) in record { sfits = small }
SFits-from_number (negsuc n) h = let small : n < 2 ^ 63 = grind (arith, ints) in record { sfits = small }

-- what spells a number is in the range of 64 bits
pub SFits-number : (bs : List ℕ) (z : ℤ) → number_value bs ≡ Some z → SFits w64 z
unfolding number_value
SFits-number bs z h =
    let found = cond_some (is_digit_run (without_minus bs) && is_number (signed_value bs)) (signed_value bs) z h in
    SFits-from_number z (IsNumber-from_true z (subst (λ (x : ℤ). is_number x ≡ true) found.1 (and_parts _ _ found.0).1))

pub number_front-some : (bs : List ℕ) (n : ℕ) (z : ℤ) → n ≡ length (number_run bs) → number_value (take n bs) ≡ Some z →
    Some (to_z w64 (of_z w64 z), n) ≡ number_front bs
number_front-some bs n z e h =
    let same = to_z-of_z w64 z (SFits-number (take n bs) z h) in
    let P : ℤ → Type 0 = λ x. Some (x, n) ≡ number_front bs in
    subst P (sym same) (sym (number_front-at bs n e ∙ ap (option_map {U = ℤ × ℕ} (λ (x : ℤ). (x, n))) h))

-- the number in front is in the range of 64 bits
pub SFits-number_front : (bs : List ℕ) (z : ℤ) (n : ℕ) → number_front bs ≡ Some (z, n) → SFits w64 z
unfolding number_front
SFits-number_front bs z n h = of (number_value (number_run bs)) refl h
  where
    of : (o : Option ℤ) → number_value (number_run bs) ≡ o → option_map {U = ℤ × ℕ} (λ x. (x, length (number_run bs))) o ≡ Some (z, n) → SFits w64 z
    of None e k = cc
    of (Some x) e k =
        let same : x ≡ z = ap (λ (o : Option (ℤ × ℕ)). (unwrap_or o (x, n)).0) k in
        subst (λ (y : ℤ). SFits w64 y) same (SFits-number (number_run bs) x e)

pub number_front-none : (bs : List ℕ) (n : ℕ) → n ≡ length (number_run bs) → number_value (take n bs) ≡ None → number_front bs ≡ None
number_front-none bs n e h = number_front-at bs n e ∙ ap (option_map {U = ℤ × ℕ} (λ (x : ℤ). (x, n))) h

pub ruleset runs = (name_run-is_take, name_run-within, list_all-take-name_run, name_front-some, name_front-none, digit_run-within, number_run-within, length-digit_run, number_run-minus, number_run-plain, number_front-at)
