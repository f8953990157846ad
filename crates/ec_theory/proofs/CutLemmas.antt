-- A text that has tokens is its gaps and its tokens, joined in order.
use Rattle.std.proofs.Common.{◌≡◌, ℕ, ◌+◌, ◌-◌, ◌≤◌, zero, suc, not, eqb, List, [], ◌∷◌, length, take, drop, Result, Ok, Err, sym, refl, ap, ◌∙◌, subst, arith, eqb-true, length-drop}
use Rattle.std.specs.List.{prefix_len, list_all}
use Rattle.std.proofs.lemmas.Bool.{not-false}
use Rattle.std.proofs.lemmas.List.{take-append-drop}
use Rattle.ec_lists.proofs.Fronts.{list_all-take_while}
use Rattle.ec_theory.specs.declared.place.Place.{Place}
use Rattle.ec_theory.specs.declared.token_fault.TokenFault.{TokenFault}
use Rattle.ec_theory.specs.declared.piece.Piece.{Piece}
use Rattle.ec_theory.specs.declared.piece.Piece.TheVariants as piece
use Rattle.ec_theory.specs.Lexeme.{Lexeme, Lexemes}
use Rattle.ec_theory.specs.Tokens.{start, place_behind_byte, place_behind, piece_of, piece_length, with_front, with_piece, with_end, tokens_from, tokens_of}
use Rattle.ec_theory.specs.CutText.{EndsLine, IsCut, nothing, blank, comment, token}
use Rattle.ec_theory.proofs.PieceEnds.{IsSpelt, piece_facts, take_front, drop_front}
use Rattle.ec_theory.proofs.LongestPieces.{IsFull, is_blank_gap, is_comment, piece_full, run_stops}
use Rattle.ec_theory.proofs.TokenLoop.{skipped}

-- what a run of bytes that are no line feed stops at is a line's end
line_ends : (bytes : List ℕ) → EndsLine (drop (prefix_len (λ c. not (eqb c 10)) bytes) bytes)
line_ends bytes = by_rest (drop (prefix_len (λ c. not (eqb c 10)) bytes) bytes) refl
  where
    by_rest : (rest : List ℕ) → drop (prefix_len (λ c. not (eqb c 10)) bytes) bytes ≡ rest → EndsLine rest
    by_rest [] e = tt
    by_rest (c ∷ more) e = eqb-true c 10 (not-false (eqb c 10) (run_stops (λ c. not (eqb c 10)) bytes c more e))

-- a token in front of those that were read
front_ok : (t : Lexeme) (r : Result (List Lexeme) TokenFault) (tokens : List Lexeme) → with_front t r ≡ Ok tokens → (later : List Lexeme) × (r ≡ Ok later) × (tokens ≡ t ∷ later)
unfolding with_front
front_ok t (Ok later) tokens e = (later, refl, cc)
front_ok t (Err fault) tokens e = cc

module _ (b : ℕ) (behind : List ℕ) (place : Place) (read : (n : ℕ) → n ≤ length behind → (at : Place) (tokens : List Lexeme) → tokens_from 0 at (drop n behind) ≡ Ok tokens → IsCut at (drop n behind) tokens) where
  -- a piece of so many bytes more than one, and the tokens behind it
  piece_cut : (p : Piece) (more : ℕ) → piece_length p ≡ 1 + more → more ≤ length behind → IsSpelt p (b ∷ behind) → IsFull p b behind → (r : Result (List Lexeme) TokenFault) (tokens : List Lexeme) →
      r ≡ tokens_from 0 (place_behind place (b ∷ take more behind)) (drop more behind) → with_piece p place (b ∷ behind) r ≡ Ok tokens → IsCut place (b ∷ behind) tokens
  unfolding with_piece piece_length
  piece_cut (piece.Gap n) more size within spelt (is_blank_gap one is) r tokens rest e =
      let none : more ≡ 0 = omega (arith, one, size) in
      blank b behind is (read 0 (omega arith) (place_behind place (b ∷ [])) tokens (ap (λ k. tokens_from 0 (place_behind place (b ∷ take k behind)) (drop k behind)) (sym none) ∙ sym rest ∙ e))
  piece_cut (piece.Gap n) more size within spelt (is_comment run is) r tokens rest e =
      let length_is : more ≡ prefix_len (λ c. not (eqb c 10)) behind = omega (arith, run, size) in
      subst (λ l. IsCut place l tokens) ((λ i. sym is i ∷ take-append-drop more behind i))
      (comment (take more behind) (drop more behind)
      (ap (λ k. list_all (λ c. not (eqb c 10)) (take k behind)) length_is ∙ list_all-take_while (λ c. not (eqb c 10)) behind)
      (subst (λ k. EndsLine (drop k behind)) (sym length_is) (line_ends behind))
      (read more within (place_behind place (37 ∷ take more behind)) tokens (ap (λ x. tokens_from 0 (place_behind place (x ∷ take more behind)) (drop more behind)) (sym is) ∙ sym rest ∙ e)))
  piece_cut (piece.Token kind n) more size within spelt full r tokens rest e =
      let front = front_ok (record { kind = kind; text = take n (b ∷ behind); place = place }) r tokens e in
      let text : take n (b ∷ behind) ≡ b ∷ take more behind = ap (λ k. take k (b ∷ behind)) size ∙ take_front more b behind in
      let left : drop n (b ∷ behind) ≡ drop more behind = ap (λ k. drop k (b ∷ behind)) size ∙ drop_front more b behind in
      subst (λ ts. IsCut place (b ∷ behind) ts) (sym front.2)
      (subst (λ l. IsCut place l (record { kind = kind; text = take n (b ∷ behind); place = place } ∷ front.0)) (take-append-drop n (b ∷ behind))
      (token kind (take n (b ∷ behind)) (drop n (b ∷ behind)) spelt full
      (subst (λ l. IsCut (place_behind place (take n (b ∷ behind))) l front.0) (sym left)
      (read more within (place_behind place (take n (b ∷ behind))) front.0 (ap (λ l. tokens_from 0 (place_behind place l) (drop more behind)) text ∙ sym rest ∙ front.1)))))
  piece_cut piece.BadByte more size within spelt full r tokens rest e = cc
  piece_cut piece.LongName more size within spelt full r tokens rest e = cc
  piece_cut piece.BigNumber more size within spelt full r tokens rest e = cc

cut_from : (most : ℕ) (bytes : List ℕ) (place : Place) (tokens : List Lexeme) → length bytes ≤ most → tokens_from 0 place bytes ≡ Ok tokens → IsCut place bytes tokens
unfolding tokens_from place_behind
cut_from most [] place tokens within e = let same : [] ≡ tokens = cc in subst (λ ts. IsCut place [] ts) same nothing
cut_from zero (b ∷ behind) place tokens within e = absurd (omega arith)
cut_from (suc most) (b ∷ behind) place tokens within e =
    let facts = piece_facts b behind in
    piece_cut b behind place (λ n fits at ts read. cut_from most (drop n behind) at ts (let left = length-drop n behind in omega (arith, left, fits, within)) read)
    (piece_of (b ∷ behind)) facts.more facts.size facts.within facts.spelt (piece_full b behind)
    (tokens_from (piece_length (piece_of (b ∷ behind)) - 1) (place_behind_byte place b) behind) tokens
    (ap (λ k. tokens_from k (place_behind_byte place b) behind) (let e : piece_length (piece_of (b ∷ behind)) - 1 ≡ facts.more = omega (arith, facts.size) in e) ∙ skipped facts.more (place_behind_byte place b) behind)
    e

-- a text that has tokens is its gaps and its tokens
pub text_is_cut : (bytes : List ℕ) (l : Lexemes) → tokens_of bytes ≡ Ok l → IsCut start bytes l.tokens × (l.end ≡ place_behind start bytes)
unfolding tokens_of with_end
text_is_cut bytes l e = by_tokens (tokens_from 0 start bytes) refl e
  where
    by_tokens : (r : Result (List Lexeme) TokenFault) → tokens_from 0 start bytes ≡ r → with_end bytes r ≡ Ok l → IsCut start bytes l.tokens × (l.end ≡ place_behind start bytes)
    by_tokens (Ok tokens) read e =
        let same : record { tokens = tokens; end = place_behind start bytes } ≡ l = cc in
        (subst (λ ts. IsCut start bytes ts) (ap (λ (x : Lexemes). x.tokens) same) (cut_from (length bytes) bytes start tokens (omega arith) read), sym (ap (λ (x : Lexemes). x.end) same))
    by_tokens (Err fault) read e = cc
