-- The loop that cuts a text into tokens: what one piece leaves of the text.
use Rattle.std.proofs.Common.{◌≡◌, ℕ, ◌+◌, ◌-◌, ◌<◌, ◌≤◌, zero, suc, true, eqb, List, [], ◌∷◌, ◌++◌, length, take, drop, map, get_or, Result, Ok, Err, sym, refl, ap, ◌∙◌, subst, arith, append_assoc, append-nil, length-append, length-drop}
use Rattle.std.specs.List.{list_all}
use Rattle.ec_theory.specs.declared.place.Place.{Place}
use Rattle.ec_theory.specs.declared.token_fault.TokenFault.{TokenFault}
use Rattle.ec_theory.specs.declared.token_fault.TokenFault.TheVariants.{BadByte, LongName, BigNumber}
use Rattle.ec_theory.specs.declared.token.TokenKind.{TokenKind}
use Rattle.std.proofs.lemmas.Bool.{cond_both, and_from, and_parts}
use Rattle.ec_theory.specs.declared.piece.Piece.{Piece}
use Rattle.ec_theory.specs.declared.piece.Piece.TheVariants as piece
use Rattle.ec_theory.specs.declared.token.Token.{Token}
use Rattle.ec_theory.specs.Lexeme.{Lexeme, lexeme_of, is_spelt, is_spelling}
use Rattle.ec_theory.specs.Tokens.{start, place_behind_byte, place_behind, piece_of, piece_length, with_front, with_piece, with_end, tokens_from, tokens_of}
use Rattle.ec_theory.proofs.PieceEnds.{behind_piece, IsSpelt, piece_facts, drop_front}

-- the bytes of a piece are skipped
pub skipped : (n : ℕ) (place : Place) (bytes : List ℕ) → tokens_from n place bytes ≡ tokens_from 0 (place_behind place (take n bytes)) (drop n bytes)
unfolding tokens_from place_behind
skipped zero place [] = refl
skipped zero place (b ∷ bytes) = refl
skipped (suc n) place [] = refl
skipped (suc n) place (b ∷ bytes) = skipped n (place_behind_byte place b) bytes

-- the place behind a text is the place behind its rest, from where the rest begins
pub place_behind-split : (n : ℕ) (place : Place) (bytes : List ℕ) → place_behind place bytes ≡ place_behind (place_behind place (take n bytes)) (drop n bytes)
unfolding place_behind
place_behind-split zero place [] = refl
place_behind-split zero place (b ∷ bytes) = refl
place_behind-split (suc n) place [] = refl
place_behind-split (suc n) place (b ∷ bytes) = place_behind-split n (place_behind_byte place b) bytes

-- one piece is taken from the front of a text
pub record Taken (place : Place) (bytes : List ℕ) : Type 0 where
  pub n : ℕ
  pub size : piece_length (piece_of bytes) ≡ n
  pub some : 0 < n
  pub within : n ≤ length bytes
  pub tokens : tokens_from 0 place bytes ≡ with_piece (piece_of bytes) place bytes (tokens_from 0 (behind_piece place (get_or bytes 0 0) n) (drop n bytes))
  pub end : place_behind place bytes ≡ place_behind (behind_piece place (get_or bytes 0 0) n) (drop n bytes)
  pub spelt : IsSpelt (piece_of bytes) bytes

pub taken : (place : Place) (bytes : List ℕ) → 0 < length bytes → Taken place bytes
unfolding tokens_from place_behind
taken place [] nonempty = absurd (omega arith)
taken place (b ∷ behind) nonempty =
    let facts = piece_facts b behind in
    let less_one : piece_length (piece_of (b ∷ behind)) - 1 ≡ facts.more = omega (arith, facts.size) in
    let rest : tokens_from (piece_length (piece_of (b ∷ behind)) - 1) (place_behind_byte place b) behind ≡ tokens_from 0 (behind_piece place b (1 + facts.more)) (drop (1 + facts.more) (b ∷ behind)) =
    ap (λ k. tokens_from k (place_behind_byte place b) behind) less_one ∙ skipped facts.more (place_behind_byte place b) behind
    ∙ ap (λ q. tokens_from 0 q (drop facts.more behind)) (facts.places place)
    ∙ ap (λ l. tokens_from 0 (behind_piece place b (1 + facts.more)) l) (sym (drop_front facts.more b behind)) in
    record {
      n = 1 + facts.more;
      size = facts.size;
      some = omega arith;
      within = omega (arith, facts.within);
      tokens = ap (λ r. with_piece (piece_of (b ∷ behind)) place (b ∷ behind) r) rest;
      end = place_behind-split facts.more (place_behind_byte place b) behind ∙ ap (λ q. place_behind q (drop facts.more behind)) (facts.places place) ∙ ap (λ l. place_behind (behind_piece place b (1 + facts.more)) l) (sym (drop_front facts.more b behind));
      spelt = facts.spelt;
    }

-- tokens before what the rest gives
unfoldable pub with_tokens : List Lexeme → Result (List Lexeme) TokenFault → Result (List Lexeme) TokenFault
with_tokens before (Ok behind) = Ok (before ++ behind)
with_tokens before (Err fault) = Err fault

pub with_tokens_more : (before : List Lexeme) (t : Lexeme) (rest : Result (List Lexeme) TokenFault) → with_tokens before (with_front t rest) ≡ with_tokens (before ++ t ∷ []) rest
unfolding with_tokens with_front
with_tokens_more before t (Ok behind) = ap Ok (sym (append_assoc before (t ∷ []) behind))
with_tokens_more before t (Err fault) = refl

-- the loop's invariant: what was taken so far, and where the rest begins
pub record Cut (bytes : List ℕ) (items : List Token) (place : Place) (rest : List ℕ) : Type 0 where
  pub few : length items + length rest ≤ length bytes
  pub line : place.line + length rest ≤ length bytes + 1
  pub col : place.col + length rest ≤ length bytes + 1
  pub spelt : list_all is_spelt (map lexeme_of items) ≡ true
  pub tokens : with_tokens (map lexeme_of items) (tokens_from 0 place rest) ≡ tokens_from 0 start bytes
  pub end : place_behind place rest ≡ place_behind start bytes

with_none : (r : Result (List Lexeme) TokenFault) → with_tokens [] r ≡ r
unfolding with_tokens
with_none (Ok l) = refl
with_none (Err e) = refl

-- nothing is taken at first
pub cut_start : (bytes : List ℕ) → Cut bytes [] start bytes
cut_start bytes = record { few = omega arith; line = omega arith; col = omega arith; spelt = refl; tokens = with_none (tokens_from 0 start bytes); end = refl }

-- the bounds of the place behind a piece, where so many bytes are left behind it
next_bounds : (place : Place) (b n left most : ℕ) → place.line + (n + left) ≤ most → place.col + (n + left) ≤ most → 0 < n → n + left < most → ((behind_piece place b n).line + left ≤ most) × ((behind_piece place b n).col + left ≤ most)
next_bounds place b n left most line col some all =
    cond_both (eqb b 10) _ _ (λ (q : Place). (q.line + left ≤ most) × (q.col + left ≤ most)) (λ _. (omega arith, omega arith)) (λ _. (omega arith, omega arith))

-- a list of tokens that are spelt, and one more
spelt_push : (items : List Token) (t : Token) → list_all is_spelt (map lexeme_of items) ≡ true → is_spelt (lexeme_of t) ≡ true → list_all is_spelt (map lexeme_of (items ++ t ∷ [])) ≡ true
spelt_push [] t all one = and_from _ _ one refl
spelt_push (x ∷ items) t all one = let parts = and_parts _ _ all in and_from _ _ parts.0 (spelt_push items t parts.1 one)

lexemes_push : (items : List Token) (t : Token) → map lexeme_of (items ++ t ∷ []) ≡ map lexeme_of items ++ lexeme_of t ∷ []
lexemes_push [] t = refl
lexemes_push (x ∷ items) t = ap (λ l. lexeme_of x ∷ l) (lexemes_push items t)

module _ {bytes : List ℕ} {items : List Token} {place : Place} {rest : List ℕ} (cut : Cut bytes items place rest) (nonempty : 0 < length rest) where
  -- the next piece adds at most one token
  cut_more : (n : ℕ) → piece_length (piece_of rest) ≡ n → (items' : List Token) → length items' ≤ length items + 1 → list_all is_spelt (map lexeme_of items') ≡ true → ((r : Result (List Lexeme) TokenFault) → with_tokens (map lexeme_of items) (with_piece (piece_of rest) place rest r) ≡ with_tokens (map lexeme_of items') r) → Cut bytes items' (behind_piece place (get_or rest 0 0) n) (drop n rest)
  cut_more n size items' few' spelt' same =
      let t = taken place rest nonempty in
      let left = length-drop t.n rest in
      let bounds = next_bounds place (get_or rest 0 0) t.n (length (drop t.n rest)) (length bytes + 1) (omega (arith, left, t.within, cut.line)) (omega (arith, left, t.within, cut.col)) t.some (omega (arith, left, t.within, cut.few)) in
      subst (λ k. Cut bytes items' (behind_piece place (get_or rest 0 0) k) (drop k rest)) (sym t.size ∙ size)
      (record {
        few = omega (arith, left, t.some, t.within, cut.few, few');
        line = bounds.0;
        col = bounds.1;
        spelt = spelt';
        tokens = sym (same _) ∙ ap (with_tokens (map lexeme_of items)) (sym t.tokens) ∙ cut.tokens;
        end = sym t.end ∙ cut.end;
      })

  -- what the code has at hand of a piece that it took
  module _ {p : Piece} {len : ℕ} {q : Place} {after : List ℕ} (found : p ≡ piece_of rest) (size : len ≡ piece_length p) (next : q ≡ behind_piece place (get_or rest 0 0) len) (left : after ≡ drop len rest) where
    moved : (items' : List Token) → Cut bytes items' (behind_piece place (get_or rest 0 0) len) (drop len rest) → Cut bytes items' q after
    moved items' next_cut = subst (λ l. Cut bytes items' q l) (sym left) (subst (λ x. Cut bytes items' x (drop len rest)) (sym next) next_cut)

    -- a gap adds no token
    pub gap_next : (n : ℕ) → p ≡ piece.Gap n → Cut bytes items q after
    unfolding piece_length with_piece
    gap_next n gap =
        moved items (cut_more len (ap piece_length (sym found) ∙ sym size) items (omega arith) cut.spelt
        (λ r. ap (λ x. with_tokens (map lexeme_of items) (with_piece x place rest r)) (sym found ∙ gap)))

    -- a token is added
    pub token_next : (n : ℕ) (kind : TokenKind) (t : Token) → p ≡ piece.Token kind n → lexeme_of t ≡ record { kind = kind; text = take len rest; place = place } → Cut bytes (items ++ t ∷ []) q after
    unfolding piece_length with_piece is_spelt
    token_next n kind t token is =
        let same : len ≡ n = size ∙ ap piece_length token in
        let shown : lexeme_of t ≡ record { kind = kind; text = take n rest; place = place } = is ∙ ap (λ k. record { kind = kind; text = take k rest; place = place }) same in
        let spelt : is_spelling kind (take n rest) ≡ true = subst (λ x. IsSpelt x rest) (sym found ∙ token) (taken place rest nonempty).spelt in
        moved (items ++ t ∷ []) (cut_more len (ap piece_length (sym found) ∙ sym size) (items ++ t ∷ []) (omega (arith, length-append items (t ∷ [])))
        (spelt_push items t cut.spelt (ap is_spelt shown ∙ spelt))
        (λ r. ap (λ x. with_tokens (map lexeme_of items) (with_piece x place rest r)) (sym found ∙ token)
        ∙ with_tokens_more (map lexeme_of items) (record { kind = kind; text = take n rest; place = place }) r
        ∙ ap (λ x. with_tokens (map lexeme_of items ++ x ∷ []) r) (sym shown)
        ∙ ap (λ l. with_tokens l r) (sym (lexemes_push items t))))

  -- the rest begins with a fault
  failed : (p : Piece) (fault : TokenFault) → p ≡ piece_of rest → ((r : Result (List Lexeme) TokenFault) → with_piece p place rest r ≡ Err fault) → tokens_of bytes ≡ Err fault
  unfolding tokens_of with_end with_tokens
  failed p fault is fails =
      let t = taken place rest nonempty in
      ap (with_end bytes) (sym cut.tokens ∙ ap (with_tokens (map lexeme_of items)) (t.tokens ∙ ap (λ q. with_piece q place rest (tokens_from 0 (behind_piece place (get_or rest 0 0) t.n) (drop t.n rest))) (sym is) ∙ fails _))

  pub bad_byte : piece.BadByte ≡ piece_of rest → tokens_of bytes ≡ Err (BadByte place)
  unfolding with_piece
  bad_byte bad = failed _ _ bad (λ r. refl)

  pub long_name : piece.LongName ≡ piece_of rest → tokens_of bytes ≡ Err (LongName place)
  unfolding with_piece
  long_name long = failed _ _ long (λ r. refl)

  pub big_number : piece.BigNumber ≡ piece_of rest → tokens_of bytes ≡ Err (BigNumber place)
  unfolding with_piece
  big_number big = failed _ _ big (λ r. refl)

-- at the end all tokens are there
pub cut_end : (bytes : List ℕ) (items : List Token) (place : Place) (rest : List ℕ) → Cut bytes items place rest → length rest ≡ 0 → tokens_of bytes ≡ Ok (record { tokens = map lexeme_of items; end = place })
unfolding tokens_of with_end with_tokens tokens_from place_behind
cut_end bytes items place [] cut empty =
    ap (with_end bytes) (sym cut.tokens ∙ ap Ok (append-nil (map lexeme_of items))) ∙ ap (λ q. Ok (record { tokens = map lexeme_of items; end = q })) (sym cut.end)
cut_end bytes items place (b ∷ rest) cut empty = absurd (omega arith)
