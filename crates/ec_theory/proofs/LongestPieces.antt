-- The piece at the front of a text is the longest: no token is longer there, and a comment goes up to the end of its line.
use Rattle.std.proofs.Common.{◌≡◌, ℕ, ◌+◌, Bool, true, false, cond, ◌&&◌, ◌||◌, not, eqb, List, [], ◌∷◌, ◌++◌, take, drop, get_or, is_some, sym, refl, ap, ◌∙◌, arith, eqb-true, ⊎_elim}
use Rattle.std.specs.Prelude.{nat_le}
use Rattle.std.specs.List.{prefix_len, list_all, list_any}
use Rattle.std.specs.Str.{bytes_eq}
use Rattle.std.specs.Char.{is_ascii_digit}
use Rattle.std.proofs.lemmas.Bool.{cond_both, leb-true, or_cases, or_parts, or_right, and_parts, and_left, and_right, false≢true, false_from_ne_true}
use Rattle.std.proofs.Math.Bool.{and_assoc}
use Rattle.ec_moment.specs.Number.{number_value, is_digit_run, without_minus}
use Rattle.ec_moment.proofs.NumberLemmas.{number_value-no_run}
use Rattle.ec_terms.specs.Spelling.{is_lower, is_upper, is_name_byte, begins_with, is_name, is_variable, longest_name}
use Rattle.ec_terms.proofs.Arguments.{list_all-digits}
use Rattle.ec_theory.specs.declared.token.TokenKind.{TokenKind}
use Rattle.ec_theory.specs.declared.token.TokenKind.TheVariants.{Name, Variable, Number, Mark}
use Rattle.ec_theory.specs.declared.piece.Piece.{Piece}
use Rattle.ec_theory.specs.declared.piece.Piece.TheVariants as piece
use Rattle.ec_theory.specs.Lexeme.{is_spelling, marks}
use Rattle.ec_theory.specs.Tokens.{is_blank, is_mark_byte, name_piece, number_piece, mark_piece, piece_of}
use Rattle.ec_theory.specs.CutText.{IsLongest}
use Rattle.ec_theory.proofs.PieceEnds.{apart, take_front, drop_front}

-- what a piece leaves: a blank has one byte, a comment goes up to the end of its line, and a token is the longest
pub data IsGapOf (n b : ℕ) (behind : List ℕ) : Type 0 where
  is_blank_gap : n ≡ 1 → is_blank b ≡ true → IsGapOf n b behind
  is_comment : n ≡ 1 + prefix_len (λ c. not (eqb c 10)) behind → b ≡ 37 → IsGapOf n b behind

abbrev pub IsFull : Piece → ℕ → List ℕ → Type 0
IsFull (piece.Gap n) b behind = IsGapOf n b behind
IsFull (piece.Token kind n) b behind = IsLongest (take n (b ∷ behind)) (drop n (b ∷ behind))
IsFull piece.BadByte b behind = Unit {0}
IsFull piece.LongName b behind = Unit {0}
IsFull piece.BigNumber b behind = Unit {0}

-- ---- what stops a run

-- behind a run stands a byte that fails its test
pub run_stops : (p : ℕ → Bool) (bytes : List ℕ) (c : ℕ) (more : List ℕ) → drop (prefix_len p bytes) bytes ≡ c ∷ more → p c ≡ false
run_stops p [] c more e = cc
run_stops p (b ∷ bytes) c more e = by_test (p b) refl e (run_stops p bytes c more)
  where
    by_test : (t : Bool) → p b ≡ t → drop (cond t (1 + prefix_len p bytes) 0) (b ∷ bytes) ≡ c ∷ more → (drop (prefix_len p bytes) bytes ≡ c ∷ more → p c ≡ false) → p c ≡ false
    by_test true passes e later = later (sym (drop_front (prefix_len p bytes) b bytes) ∙ e)
    by_test false fails e later = let same : b ≡ c = cc in sym (ap p same) ∙ fails

list_all-stopped : (p : ℕ → Bool) (bytes : List ℕ) (c : ℕ) (more : List ℕ) → p c ≡ false → list_all p (bytes ++ c ∷ more) ≡ false
list_all-stopped p [] c more fails = and_left (p c) (list_all p more) fails
list_all-stopped p (b ∷ bytes) c more fails = and_right (p b) (list_all p (bytes ++ c ∷ more)) (list_all-stopped p bytes c more fails)

-- ---- what a byte is not

-- what begins with no byte of a mark is none
no_mark : (b : ℕ) (bytes : List ℕ) → is_mark_byte b ≡ false → eqb b 33 ≡ false → eqb b 60 ≡ false → list_any (bytes_eq (b ∷ bytes)) marks ≡ false
no_mark b bytes other bang less =
    let m61 = or_parts (eqb b 95 || eqb b 40 || eqb b 41 || eqb b 44 || eqb b 46 || eqb b 47) (eqb b 61) other in
    let m47 = or_parts (eqb b 95 || eqb b 40 || eqb b 41 || eqb b 44 || eqb b 46) (eqb b 47) m61.0 in
    let m46 = or_parts (eqb b 95 || eqb b 40 || eqb b 41 || eqb b 44) (eqb b 46) m47.0 in
    let m44 = or_parts (eqb b 95 || eqb b 40 || eqb b 41) (eqb b 44) m46.0 in
    let m41 = or_parts (eqb b 95 || eqb b 40) (eqb b 41) m44.0 in
    let m40 = or_parts (eqb b 95) (eqb b 40) m41.0 in
    rw (m40.0, m40.1, m41.1, m44.1, m46.1, m47.1, m61.1, bang, less) refl

-- what begins with no letter is no name and no variable
no_name : (b : ℕ) (bytes : List ℕ) → is_lower b ≡ false → is_name (b ∷ bytes) ≡ false
unfolding is_name begins_with
no_name b bytes other = rw other refl

no_variable : (b : ℕ) (bytes : List ℕ) → is_upper b ≡ false → is_variable (b ∷ bytes) ≡ false
unfolding is_variable begins_with
no_variable b bytes other = rw other refl

-- what has other bytes than digits behind its minus is no number
no_number : (bytes : List ℕ) → list_all is_ascii_digit (without_minus bytes) ≡ false → is_some (number_value bytes) ≡ false
no_number bytes fails = ap is_some (number_value-no_run bytes (false_from_ne_true (is_digit_run (without_minus bytes)) (λ run. false≢true (sym fails ∙ list_all-digits (without_minus bytes) run))))

-- what begins with neither a digit nor a minus is no number
no_number_first : (b : ℕ) (bytes : List ℕ) → eqb b 45 ≡ false → is_ascii_digit b ≡ false → is_some (number_value (b ∷ bytes)) ≡ false
no_number_first b bytes minus digit = no_number (b ∷ bytes) (rw minus (and_left (is_ascii_digit b) (list_all is_ascii_digit bytes) digit))

-- ---- tokens that are the longest

-- each longer text is none of the four kinds
longest : (text bytes : List ℕ) → ((c : ℕ) (more behind : List ℕ) → bytes ≡ c ∷ (more ++ behind) →
    (is_name (text ++ c ∷ more) ≡ false) × (is_variable (text ++ c ∷ more) ≡ false) × (is_some (number_value (text ++ c ∷ more)) ≡ false) × (list_any (bytes_eq (text ++ c ∷ more)) marks ≡ false)) → IsLongest text bytes
unfolding is_spelling
longest text bytes none kind [] behind cut some = absurd (omega arith)
longest text bytes none Name (c ∷ more) behind cut some = ap not (none c more behind cut).0
longest text bytes none Variable (c ∷ more) behind cut some = ap not (none c more behind cut).1
longest text bytes none Number (c ∷ more) behind cut some = ap not (none c more behind cut).2
longest text bytes none Mark (c ∷ more) behind cut some = ap not (none c more behind cut).3

-- a name and a variable
no_longer_name : (b : ℕ) (run : List ℕ) (c : ℕ) (more : List ℕ) → is_name_byte c ≡ false → is_name (b ∷ (run ++ c ∷ more)) ≡ false
unfolding is_name
no_longer_name b run c more stops = rw (and_right (is_name_byte b) _ (list_all-stopped is_name_byte run c more stops)) (and_left _ _ (and_right (begins_with is_lower (b ∷ (run ++ c ∷ more))) false refl))

no_longer_variable : (b : ℕ) (run : List ℕ) (c : ℕ) (more : List ℕ) → is_name_byte c ≡ false → is_variable (b ∷ (run ++ c ∷ more)) ≡ false
unfolding is_variable
no_longer_variable b run c more stops = rw (and_right (is_name_byte b) _ (list_all-stopped is_name_byte run c more stops)) (and_left _ _ (and_right (begins_with is_upper (b ∷ (run ++ c ∷ more))) false refl))

module _ (b : ℕ) (behind : List ℕ) where
  -- a letter and the name bytes behind it
  letter_longest : eqb b 45 ≡ false → is_ascii_digit b ≡ false → is_mark_byte b ≡ false → eqb b 33 ≡ false → eqb b 60 ≡ false →
      IsLongest (take (1 + prefix_len is_name_byte behind) (b ∷ behind)) (drop (1 + prefix_len is_name_byte behind) (b ∷ behind))
  letter_longest minus digit mark bang less =
      rw (take_front (prefix_len is_name_byte behind) b behind, drop_front (prefix_len is_name_byte behind) b behind)
      (longest (b ∷ take (prefix_len is_name_byte behind) behind) (drop (prefix_len is_name_byte behind) behind)
      (λ c more rest cut.
      let run = take (prefix_len is_name_byte behind) behind in
      let stops = run_stops is_name_byte behind c (more ++ rest) cut in
      (no_longer_name b run c more stops, no_longer_variable b run c more stops, no_number_first b (run ++ c ∷ more) minus digit, no_mark b (run ++ c ∷ more) mark bang less)))

  -- a digit or a minus, and the digits behind it
  number_longest : is_lower b ≡ false → is_upper b ≡ false → is_mark_byte b ≡ false → eqb b 33 ≡ false → eqb b 60 ≡ false →
      IsLongest (take (1 + prefix_len is_ascii_digit behind) (b ∷ behind)) (drop (1 + prefix_len is_ascii_digit behind) (b ∷ behind))
  number_longest lower upper mark bang less =
      rw (take_front (prefix_len is_ascii_digit behind) b behind, drop_front (prefix_len is_ascii_digit behind) b behind)
      (longest (b ∷ take (prefix_len is_ascii_digit behind) behind) (drop (prefix_len is_ascii_digit behind) behind)
      (λ c more rest cut.
      let run = take (prefix_len is_ascii_digit behind) behind in
      let stops = run_stops is_ascii_digit behind c (more ++ rest) cut in
      (no_name b (run ++ c ∷ more) lower, no_variable b (run ++ c ∷ more) upper, no_number (b ∷ (run ++ c ∷ more)) (digits_stop (eqb b 45) run c more stops), no_mark b (run ++ c ∷ more) mark bang less)))
    where
      digits_stop : (t : Bool) (run : List ℕ) (c : ℕ) (more : List ℕ) → is_ascii_digit c ≡ false → list_all is_ascii_digit (cond t (run ++ c ∷ more) (b ∷ (run ++ c ∷ more))) ≡ false
      digits_stop true run c more stops = list_all-stopped is_ascii_digit run c more stops
      digits_stop false run c more stops = and_right (is_ascii_digit b) _ (list_all-stopped is_ascii_digit run c more stops)

  -- a mark of one byte, behind which no mark of two bytes begins
  mark_longest : is_lower b ≡ false → is_upper b ≡ false → eqb b 45 ≡ false → is_ascii_digit b ≡ false → eqb b 33 ≡ false → ((c : ℕ) (more : List ℕ) → behind ≡ c ∷ more → (eqb b 60 && eqb c 61) ≡ false) → IsLongest (b ∷ []) behind
  mark_longest lower upper minus digit bang two =
      longest (b ∷ []) behind
      (λ c more rest cut. (no_name b (c ∷ more) lower, no_variable b (c ∷ more) upper, no_number_first b (c ∷ more) minus digit, no_longer_mark c more (two c (more ++ rest) cut)))
    where
      no_longer_mark : (c : ℕ) (more : List ℕ) → (eqb b 60 && eqb c 61) ≡ false → list_any (bytes_eq (b ∷ c ∷ more)) marks ≡ false
      no_longer_mark c more none =
          let last : (eqb b 60 && (eqb c 61 && bytes_eq more [])) ≡ false = sym (and_assoc (eqb b 60) (eqb c 61) (bytes_eq more [])) ∙ and_left (eqb b 60 && eqb c 61) (bytes_eq more []) none in
          rw (and_right (eqb b 95) false refl, and_right (eqb b 40) false refl, and_right (eqb b 41) false refl, and_right (eqb b 44) false refl, and_right (eqb b 46) false refl, and_right (eqb b 47) false refl, and_right (eqb b 61) false refl, bang, and_right (eqb b 60) false refl, last) refl

-- a mark of two bytes
pub two_longest : (b c : ℕ) (behind : List ℕ) → is_lower b ≡ false → is_upper b ≡ false → eqb b 45 ≡ false → is_ascii_digit b ≡ false → IsLongest (b ∷ c ∷ []) behind
two_longest b c behind lower upper minus digit =
    longest (b ∷ c ∷ []) behind
    (λ d more rest cut. (no_name b (c ∷ d ∷ more) lower, no_variable b (c ∷ d ∷ more) upper, no_number_first b (c ∷ d ∷ more) minus digit, no_mark_of_three d more))
  where
    no_mark_of_three : (d : ℕ) (more : List ℕ) → list_any (bytes_eq (b ∷ c ∷ d ∷ more)) marks ≡ false
    no_mark_of_three d more =
        rw (and_right (eqb b 95) false refl, and_right (eqb b 40) false refl, and_right (eqb b 41) false refl, and_right (eqb b 44) false refl, and_right (eqb b 46) false refl, and_right (eqb b 47) false refl, and_right (eqb b 61) false refl, and_right (eqb c 61) false refl, and_right (eqb b 33) false refl, and_right (eqb b 60) false refl) refl

-- ---- each piece

module _ (b : ℕ) (behind : List ℕ) where
  name_full : (kind : TokenKind) → IsLongest (take (1 + prefix_len is_name_byte behind) (b ∷ behind)) (drop (1 + prefix_len is_name_byte behind) (b ∷ behind)) → IsFull (name_piece kind behind) b behind
  unfolding name_piece
  name_full kind full = cond_both (nat_le (1 + prefix_len is_name_byte behind) longest_name) _ _ (λ p. IsFull p b behind) (λ short. full) (λ long. tt)

  number_full : IsLongest (take (1 + prefix_len is_ascii_digit behind) (b ∷ behind)) (drop (1 + prefix_len is_ascii_digit behind) (b ∷ behind)) → IsFull (number_piece (b ∷ behind)) b behind
  unfolding number_piece
  number_full full = cond_both (is_some (number_value (take (1 + prefix_len is_ascii_digit behind) (b ∷ behind)))) _ _ (λ p. IsFull p b behind) (λ valued. full) (λ none. tt)

two_full : (b : ℕ) (behind : List ℕ) → is_lower b ≡ false → is_upper b ≡ false → eqb b 45 ≡ false → is_ascii_digit b ≡ false → eqb (get_or behind 0 0) 61 ≡ true → IsLongest (take 2 (b ∷ behind)) (drop 2 (b ∷ behind))
two_full b [] lower upper minus digit equals = absurd (false≢true equals)
two_full b (c ∷ behind) lower upper minus digit equals = two_longest b c behind lower upper minus digit

mark_full : (b : ℕ) (behind : List ℕ) → is_lower b ≡ false → is_upper b ≡ false → is_ascii_digit b ≡ false → IsFull (mark_piece b behind) b behind
unfolding mark_piece
mark_full b behind lower upper digit =
    cond_both (is_mark_byte b) _ _ (λ p. IsFull p b behind)
    (λ mark. mark_longest b behind lower upper (apart is_mark_byte 45 refl b mark) digit (apart is_mark_byte 33 refl b mark) (λ c more e. and_left (eqb b 60) (eqb c 61) (apart is_mark_byte 60 refl b mark)))
    (λ no. cond_both (eqb b 60) _ _ (λ p. IsFull p b behind)
    (λ less. let is = eqb-true b 60 less in
    cond_both (eqb (get_or behind 0 0) 61) 2 1 (λ n. IsFull (piece.Token Mark n) b behind)
    (λ equals. two_full b behind lower upper (ap (λ x. eqb x 45) is) digit equals)
    (λ alone. mark_longest b behind lower upper (ap (λ x. eqb x 45) is) digit (ap (λ x. eqb x 33) is) (λ c more e. and_right (eqb b 60) (eqb c 61) (sym (ap (λ l. eqb (get_or l 0 0) 61) e) ∙ alone))))
    (λ no2. cond_both (eqb b 33 && eqb (get_or behind 0 0) 61) _ _ (λ p. IsFull p b behind)
    (λ differs. let parts = and_parts (eqb b 33) (eqb (get_or behind 0 0) 61) differs in two_full b behind lower upper (ap (λ x. eqb x 45) (eqb-true b 33 parts.0)) digit parts.1)
    (λ no3. tt)))

-- a byte that passes a test which all of them fail is no byte of a mark
no_mark_byte : (p : ℕ → Bool) → p 95 ≡ false → p 40 ≡ false → p 41 ≡ false → p 44 ≡ false → p 46 ≡ false → p 47 ≡ false → p 61 ≡ false → (b : ℕ) → p b ≡ true → is_mark_byte b ≡ false
no_mark_byte p f95 f40 f41 f44 f46 f47 f61 b passes = rw (apart p 95 f95 b passes, apart p 40 f40 b passes, apart p 41 f41 b passes, apart p 44 f44 b passes, apart p 46 f46 b passes, apart p 47 f47 b passes, apart p 61 f61 b passes) refl

lower_no_digit : (b : ℕ) → is_lower b ≡ true → is_ascii_digit b ≡ false
unfolding is_lower
lower_no_digit b lower = false_from_ne_true (is_ascii_digit b) (λ digit. let low = leb-true 97 b (and_parts (nat_le 97 b) (nat_le b 122) lower).0 in let high = leb-true b 57 (and_parts (nat_le 48 b) (nat_le b 57) digit).1 in absurd (omega arith))

upper_no_digit : (b : ℕ) → is_upper b ≡ true → is_ascii_digit b ≡ false
unfolding is_upper
upper_no_digit b upper = false_from_ne_true (is_ascii_digit b) (λ digit. let low = leb-true 65 b (and_parts (nat_le 65 b) (nat_le b 90) upper).0 in let high = leb-true b 57 (and_parts (nat_le 48 b) (nat_le b 57) digit).1 in absurd (omega arith))

-- a digit or a minus
abbrev starts_number : ℕ → Bool
starts_number b = is_ascii_digit b || eqb b 45

number_start : (b first : ℕ) → (is_ascii_digit b || (eqb b 45 && is_ascii_digit first)) ≡ true → starts_number b ≡ true
number_start b first either =
    ⊎_elim (λ digit. ap (λ t. t || eqb b 45) digit) (λ minus. or_right (is_ascii_digit b) (eqb b 45) (and_parts (eqb b 45) (is_ascii_digit first) minus).0)
    (or_cases (is_ascii_digit b) (eqb b 45 && is_ascii_digit first) either)

pub piece_full : (b : ℕ) (behind : List ℕ) → IsFull (piece_of (b ∷ behind)) b behind
unfolding piece_of is_lower is_upper
piece_full b behind =
    cond_both (is_blank b) _ _ (λ p. IsFull p b behind) (λ blank. is_blank_gap refl blank)
    (λ no. cond_both (eqb b 37) _ _ (λ p. IsFull p b behind) (λ comment. is_comment refl (eqb-true b 37 comment))
    (λ no2. cond_both (is_lower b) _ _ (λ p. IsFull p b behind)
    (λ lower. name_full b behind Name
    (letter_longest b behind (apart is_lower 45 refl b lower) (lower_no_digit b lower) (no_mark_byte is_lower refl refl refl refl refl refl refl b lower) (apart is_lower 33 refl b lower) (apart is_lower 60 refl b lower)))
    (λ no3. cond_both (is_upper b) _ _ (λ p. IsFull p b behind)
    (λ upper. name_full b behind Variable
    (letter_longest b behind (apart is_upper 45 refl b upper) (upper_no_digit b upper) (no_mark_byte is_upper refl refl refl refl refl refl refl b upper) (apart is_upper 33 refl b upper) (apart is_upper 60 refl b upper)))
    (λ no4. cond_both (is_ascii_digit b || (eqb b 45 && is_ascii_digit (get_or behind 0 0))) _ _ (λ p. IsFull p b behind)
    (λ number. let starts = number_start b (get_or behind 0 0) number in
    number_full b behind (number_longest b behind no3 no4 (no_mark_byte starts_number refl refl refl refl refl refl refl b starts) (apart starts_number 33 refl b starts) (apart starts_number 60 refl b starts)))
    (λ no5. mark_full b behind no3 no4 (or_parts (is_ascii_digit b) (eqb b 45 && is_ascii_digit (get_or behind 0 0)) no5).0)))))
