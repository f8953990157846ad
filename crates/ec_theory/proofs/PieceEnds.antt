-- What a piece at the front of a text has: where its bytes end, and that the text of a token is a spelling of its kind.
use Rattle.std.proofs.Common.{◌≡◌, ℕ, ◌+◌, ◌≤◌, suc, Bool, true, false, ◌&&◌, ◌||◌, not, cond, eqb, leb, List, [], ◌∷◌, length, take, drop, get_or, is_some, sym, refl, ap, ◌∙◌, arith, eqb-true, ⊎_elim}
use Rattle.std.specs.List.{prefix_len, list_all, list_any}
use Rattle.std.specs.Str.{bytes_eq}
use Rattle.std.specs.Char.{is_ascii_digit}
use Rattle.std.proofs.lemmas.Bool.{cond_both, or_cases, or_parts, and_parts, and_from, leb-true, false≢true, false_from_ne_true, cond-false, le-leb}
use Rattle.std.proofs.lemmas.List.Sums.{prefix_len-le-length}
use Rattle.std.proofs.lemmas.List.Folds.{length-prefix_len}
use Rattle.ec_lists.proofs.Fronts.{list_all-take_while}
use Rattle.ec_moment.specs.Number.{number_value}
use Rattle.ec_terms.specs.Spelling.{is_lower, is_upper, is_name_byte, begins_with, is_name, is_variable}
use Rattle.ec_theory.specs.declared.place.Place.{Place}
use Rattle.ec_theory.specs.declared.token.TokenKind.{TokenKind}
use Rattle.ec_theory.specs.declared.token.TokenKind.TheVariants.{Name, Variable, Mark}
use Rattle.ec_theory.specs.declared.piece.Piece.{Piece}
use Rattle.ec_theory.specs.declared.piece.Piece.TheVariants as piece
use Rattle.ec_theory.specs.Lexeme.{is_spelling, marks}
use Rattle.ec_theory.specs.Tokens.{place_behind_byte, place_behind, is_blank, is_mark_byte, name_piece, number_piece, mark_piece, piece_of, piece_length}

-- the place behind a piece of n bytes that begins with b
abbrev pub behind_piece : Place → ℕ → ℕ → Place
behind_piece place b n = cond (eqb b 10) (record { line = place.line + 1; col = 1 }) (record { line = place.line; col = place.col + n })

-- the text of a token is a spelling; a piece that is no token has none
abbrev pub IsSpelt : Piece → List ℕ → Type 0
IsSpelt (piece.Gap n) bytes = Unit {0}
IsSpelt (piece.Token kind n) bytes = is_spelling kind (take n bytes) ≡ true
IsSpelt piece.BadByte bytes = Unit {0}
IsSpelt piece.LongName bytes = Unit {0}
IsSpelt piece.BigNumber bytes = Unit {0}

-- the piece that begins with b: how many bytes it has behind b, where it ends, and that it is spelt
pub record PieceFacts (p : Piece) (b : ℕ) (behind : List ℕ) : Type 0 where
  pub more : ℕ
  pub size : piece_length p ≡ 1 + more
  pub within : more ≤ length behind
  pub places : (place : Place) → place_behind (place_behind_byte place b) (take more behind) ≡ behind_piece place b (1 + more)
  pub spelt : IsSpelt p (b ∷ behind)

-- one more byte at the front
pub take_front : {A : Type 0} (n : ℕ) (b : A) (bytes : List A) → take (1 + n) (b ∷ bytes) ≡ b ∷ take n bytes
take_front n b bytes = let e : 1 + n ≡ suc n = omega arith in rw e refl

pub drop_front : {A : Type 0} (n : ℕ) (b : A) (bytes : List A) → drop (1 + n) (b ∷ bytes) ≡ drop n bytes
drop_front n b bytes = let e : 1 + n ≡ suc n = omega arith in rw e refl

-- a byte that passes a test is none that fails it
pub apart : (p : ℕ → Bool) (m : ℕ) → p m ≡ false → (b : ℕ) → p b ≡ true → eqb b m ≡ false
apart p m fails b passes = false_from_ne_true (eqb b m) (λ same. false≢true (sym fails ∙ ap p (sym (eqb-true b m same)) ∙ passes))

-- a byte that is no line feed goes one column on
pub next_column : (b line col : ℕ) → eqb b 10 ≡ false → place_behind_byte (record { line = line; col = col }) b ≡ record { line = line; col = col + 1 }
next_column b line col other = rw other refl

module _ (p : ℕ → Bool) (fails : p 10 ≡ false) where
  run_step : (b : ℕ) (bytes : List ℕ) (line col : ℕ) (t : Bool) → p b ≡ t → (place_behind (record { line = line; col = col + 1 }) (take (prefix_len p bytes) bytes) ≡ record { line = line; col = col + 1 + prefix_len p bytes }) → place_behind (record { line = line; col = col }) (take (cond t (1 + prefix_len p bytes) 0) (b ∷ bytes)) ≡ record { line = line; col = col + cond t (1 + prefix_len p bytes) 0 }
  unfolding place_behind
  run_step b bytes line col true passes rest =
      ap (λ l. place_behind (record { line = line; col = col }) l) (take_front (prefix_len p bytes) b bytes)
      ∙ ap (λ q. place_behind q (take (prefix_len p bytes) bytes)) (next_column b line col (apart p 10 fails b passes))
      ∙ rest ∙ ap (λ n. record { line = line; col = n }) (omega arith)
  run_step b bytes line col false passes rest = ap (λ n. record { line = line; col = n }) (omega arith)

  -- bytes that pass a test which a line feed fails stay in their line
  pub run_places : (bytes : List ℕ) (line col : ℕ) → place_behind (record { line = line; col = col }) (take (prefix_len p bytes) bytes) ≡ record { line = line; col = col + prefix_len p bytes }
  unfolding place_behind
  run_places [] line col = ap (λ n. record { line = line; col = n }) (omega arith)
  run_places (b ∷ bytes) line col = run_step b bytes line col (p b) refl (run_places bytes line (col + 1))

  -- a piece of one byte that is no line feed, and of the run behind it, stays in its line
  pub tail_places : (b : ℕ) (behind : List ℕ) (place : Place) → eqb b 10 ≡ false → place_behind (place_behind_byte place b) (take (prefix_len p behind) behind) ≡ behind_piece place b (1 + prefix_len p behind)
  tail_places b behind place other =
      ap (λ q. place_behind q (take (prefix_len p behind) behind)) (next_column b place.line place.col other)
      ∙ run_places behind place.line (place.col + 1)
      ∙ ap (λ n. record { line = place.line; col = n }) (omega arith)
      ∙ sym (cond-false (eqb b 10) _ _ other)

-- a piece of one byte
one_byte : (b : ℕ) (behind : List ℕ) (place : Place) → place_behind (place_behind_byte place b) (take 0 behind) ≡ behind_piece place b 1
unfolding place_behind
one_byte b behind place = refl

lower_name_byte : (b : ℕ) → is_lower b ≡ true → is_name_byte b ≡ true
unfolding is_name_byte
lower_name_byte b lower = rw lower refl

upper_name_byte : (b : ℕ) → is_upper b ≡ true → is_name_byte b ≡ true
unfolding is_name_byte
upper_name_byte b upper = rw upper (elim (is_lower b) as (λ t. ((t || true) || (leb 48 b && leb b 57) || eqb b 95) ≡ true) [ true ↦ refl | false ↦ refl ])

-- a letter with name bytes behind it, not too long, is a name or a variable
letter_and_run : (starts : ℕ → Bool) (b : ℕ) (behind : List ℕ) → starts b ≡ true → is_name_byte b ≡ true → leb (1 + prefix_len is_name_byte behind) 64 ≡ true → (begins_with starts (take (1 + prefix_len is_name_byte behind) (b ∷ behind)) && list_all is_name_byte (take (1 + prefix_len is_name_byte behind) (b ∷ behind)) && leb (length (take (1 + prefix_len is_name_byte behind) (b ∷ behind))) 64) ≡ true
unfolding begins_with
letter_and_run starts b behind letter name short =
    rw take_front
    (and_from _ _ (and_from _ _ letter (and_from _ _ name (list_all-take_while is_name_byte behind)))
    (le-leb _ _ (omega (arith, length-prefix_len is_name_byte behind, leb-true _ _ short))))

module _ (b : ℕ) (behind : List ℕ) (not_line_feed : eqb b 10 ≡ false) where
  -- a piece of one byte
  single : (p : Piece) → piece_length p ≡ 1 → IsSpelt p (b ∷ behind) → PieceFacts p b behind
  single p size spelt = record { more = 0; size = size; within = omega arith; places = one_byte b behind; spelt = spelt }

  -- a byte, and a run of bytes that pass a test behind it
  run_facts : (p : Piece) (passes : ℕ → Bool) → passes 10 ≡ false → piece_length p ≡ 1 + prefix_len passes behind → IsSpelt p (b ∷ behind) → PieceFacts p b behind
  run_facts p passes fails size spelt = record { more = prefix_len passes behind; size = size; within = prefix_len-le-length passes behind; places = λ place. tail_places passes fails b behind place not_line_feed; spelt = spelt }

  name_facts : (kind : TokenKind) → (leb (1 + prefix_len is_name_byte behind) 64 ≡ true → is_spelling kind (take (1 + prefix_len is_name_byte behind) (b ∷ behind)) ≡ true) → PieceFacts (name_piece kind behind) b behind
  unfolding name_piece piece_length is_name_byte is_lower is_upper
  name_facts kind spelt =
      cond_both (leb (1 + prefix_len is_name_byte behind) 64) _ _ (λ p. PieceFacts p b behind)
      (λ short. run_facts _ is_name_byte refl refl (spelt short))
      (λ long. single _ refl tt)

  number_facts : PieceFacts (number_piece (b ∷ behind)) b behind
  unfolding number_piece piece_length is_spelling
  number_facts =
      cond_both (is_some (number_value (take (1 + prefix_len is_ascii_digit behind) (b ∷ behind)))) _ _ (λ p. PieceFacts p b behind)
      (λ valued. run_facts _ is_ascii_digit refl refl valued)
      (λ none. single _ refl tt)

-- a mark of one byte
mark_spelt : (b : ℕ) → is_mark_byte b ≡ true → list_any (bytes_eq (b ∷ [])) marks ≡ true
mark_spelt b mark =
    let at : (m : ℕ) → list_any (bytes_eq (m ∷ [])) marks ≡ true → eqb b m ≡ true → list_any (bytes_eq (b ∷ [])) marks ≡ true = λ m spelt same. rw (eqb-true b m same) spelt in
    ⊎_elim (λ c1. ⊎_elim (λ c2. ⊎_elim (λ c3. ⊎_elim (λ c4. ⊎_elim (λ c5. ⊎_elim (at 95 refl) (at 40 refl) (or_cases _ _ c5)) (at 41 refl) (or_cases _ _ c4)) (at 44 refl) (or_cases _ _ c3)) (at 46 refl) (or_cases _ _ c2)) (at 47 refl) (or_cases _ _ c1)) (at 61 refl) (or_cases _ _ mark)

-- a mark of two bytes, whose second is an equals sign
two_facts : (b : ℕ) (behind : List ℕ) → eqb b 10 ≡ false → (list_any (bytes_eq (b ∷ 61 ∷ [])) marks ≡ true) → eqb (get_or behind 0 0) 61 ≡ true → PieceFacts (piece.Token Mark 2) b behind
unfolding piece_length is_spelling place_behind
two_facts b [] other spelt equals = absurd (false≢true equals)
two_facts b (c ∷ behind) other spelt equals = record {
  more = 1;
  size = refl;
  within = omega arith;
  places = λ place. rw (eqb-true c 61 equals) (rw other (ap (λ n. record { line = place.line; col = n }) (omega arith)));
  spelt = rw (eqb-true c 61 equals) spelt;
}

mark_facts : (b : ℕ) (behind : List ℕ) → eqb b 10 ≡ false → PieceFacts (mark_piece b behind) b behind
unfolding mark_piece piece_length is_spelling
mark_facts b behind other =
    cond_both (is_mark_byte b) _ _ (λ p. PieceFacts p b behind)
    (λ mark. single b behind other _ refl (mark_spelt b mark))
    (λ no. cond_both (eqb b 60) _ _ (λ p. PieceFacts p b behind)
    (λ less. cond_both (eqb (get_or behind 0 0) 61) 2 1 (λ n. PieceFacts (piece.Token Mark n) b behind)
    (λ equals. two_facts b behind other (rw (eqb-true b 60 less) refl) equals)
    (λ alone. single b behind other _ refl (rw (eqb-true b 60 less) refl)))
    (λ no2. cond_both (eqb b 33 && eqb (get_or behind 0 0) 61) _ _ (λ p. PieceFacts p b behind)
    (λ differs. two_facts b behind other (rw (eqb-true b 33 (and_parts _ _ differs).0) refl) (and_parts _ _ differs).1)
    (λ no3. single b behind other _ refl tt)))

pub piece_facts : (b : ℕ) (behind : List ℕ) → PieceFacts (piece_of (b ∷ behind)) b behind
unfolding piece_of piece_length is_spelling is_name is_variable
piece_facts b behind =
    cond_both (is_blank b) _ _ (λ p. PieceFacts p b behind)
    (λ blank. record { more = 0; size = refl; within = omega arith; places = one_byte b behind; spelt = tt })
    (λ no. let other = (or_parts _ _ no).1 in
    cond_both (eqb b 37) _ _ (λ p. PieceFacts p b behind)
    (λ comment. run_facts b behind other _ (λ c. not (eqb c 10)) refl refl tt)
    (λ no2. cond_both (is_lower b) _ _ (λ p. PieceFacts p b behind)
    (λ lower. name_facts b behind other Name (letter_and_run is_lower b behind lower (lower_name_byte b lower)))
    (λ no3. cond_both (is_upper b) _ _ (λ p. PieceFacts p b behind)
    (λ upper. name_facts b behind other Variable (letter_and_run is_upper b behind upper (upper_name_byte b upper)))
    (λ no4. cond_both (is_ascii_digit b || (eqb b 45 && is_ascii_digit (get_or behind 0 0))) _ _ (λ p. PieceFacts p b behind)
    (λ number. number_facts b behind other)
    (λ no5. mark_facts b behind other)))))
