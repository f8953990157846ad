-- The variables of a clause and their numbers.
use Rattle.std.proofs.Common.{◌≡◌, ℕ, ◌+◌, ◌<◌, ◌≤◌, suc, Bool, true, false, cond, not, List, [], ◌∷◌, ◌++◌, length, map, drop, get_or, sym, refl, ap, ◌∙◌, arith, ⊎_elim, lt-ltb, le-ltb}
use Rattle.std.specs.Prelude.{unwrap_or, bytes_eq}
use Rattle.std.specs.List.{position, position_or_len, list_any}
use Rattle.std.proofs.Common.{Bor, ◌||◌, add-one, drop-cons}
use Rattle.std.proofs.lemmas.List.{drop_all}
use Rattle.ec_theory.specs.declared.token.Token.{Token}
use Rattle.ec_theory.specs.Lexeme.{lexeme_of}
use Rattle.ec_theory.specs.declared.sign.Symbol.TheVariants.{Dot}
use Rattle.std.proofs.lemmas.Bool.{cases_lt, cond-true, cond-false}
use Rattle.std.proofs.lemmas.List.Sums.{prefix_len-le-length}
use Rattle.ec_theory.specs.Sign.{Sign, sign_of, is_given, with_variable, with_sign, variables_from, number_of}

-- what a list shows of its references
abbrev pub texts_of : List (Bor (List ℕ)) → List (List ℕ)
texts_of keys = map (λ k. k.now) keys

place_shown : (name : List ℕ) (keys : List (Bor (List ℕ))) → position_or_len (λ k. bytes_eq name k.now) keys ≡ position_or_len (bytes_eq name) (texts_of keys)
place_shown name [] = refl
place_shown name (k ∷ keys) = ap (λ n. cond (not (bytes_eq name k.now)) (1 + n) 0) (place_shown name keys)

place_or_length : {A : Type 0} (p : A → Bool) (xs : List A) → unwrap_or (position p xs) (length xs) ≡ position_or_len p xs
place_or_length p xs =
    ⊎_elim (λ below. rw (lt-ltb (position_or_len p xs) (length xs) below) refl)
    (λ above. rw (le-ltb (position_or_len p xs) (length xs) above) (let le = prefix_len-le-length (λ x. not (p x)) xs in omega arith)) (cases_lt (position_or_len p xs) (length xs))

-- the number of a variable is found in the set, or is the next
pub number_found : (name : List ℕ) (keys : List (Bor (List ℕ))) → unwrap_or (position (λ k. bytes_eq name k.now) keys) (length keys) ≡ number_of (texts_of keys) name
number_found name keys = place_or_length (λ k. bytes_eq name k.now) keys ∙ place_shown name keys

-- the signs of borrowed tokens
abbrev pub token_signs : List Token → List Sign
token_signs tokens = map sign_of (map lexeme_of tokens)

-- the variables among the first tokens, none of which is a dot
pub record Seen (tokens : List Token) (names : List (List ℕ)) (i : ℕ) : Type 0 where
  pub few : length names ≤ i
  pub same : variables_from names (token_signs (drop i tokens)) ≡ variables_from [] (token_signs tokens)

pub seen_none : (tokens : List Token) → Seen tokens [] 0
seen_none tokens = record { few = omega arith; same = refl }

module _ {tokens : List Token} {names : List (List ℕ)} {i : ℕ} (seen : Seen tokens names i) where
  -- a dot ends them
  pub seen_dot : (d : Token) → i < length tokens → is_given Dot (sign_of (lexeme_of (get_or tokens i d))) ≡ true → names ≡ variables_from [] (token_signs tokens)
  unfolding variables_from
  seen_dot d below dot =
      let t = get_or tokens i d in
      let front : drop i tokens ≡ t ∷ drop (suc i) tokens = drop-cons tokens i d below in
      sym (ap (λ l. variables_from names (token_signs l)) front ∙ cond-true (is_given Dot (sign_of (lexeme_of t))) _ _ dot) ∙ seen.same

  -- another token adds its variable
  pub seen_more : (d : Token) (names' : List (List ℕ)) → i < length tokens → is_given Dot (sign_of (lexeme_of (get_or tokens i d))) ≡ false → names' ≡ with_sign names (sign_of (lexeme_of (get_or tokens i d))) → length names' ≤ length names + 1 → Seen tokens names' (i + 1)
  unfolding variables_from
  seen_more d names' below no_dot added few =
      let t = get_or tokens i d in
      let front : drop i tokens ≡ t ∷ drop (suc i) tokens = drop-cons tokens i d below in
      record {
        few = omega (arith, few, seen.few);
        same = ap (λ n. variables_from n (token_signs (drop (i + 1) tokens))) added ∙ ap (λ k. variables_from (with_sign names (sign_of (lexeme_of t))) (token_signs (drop k tokens))) (add-one i)
            ∙ sym (ap (λ l. variables_from names (token_signs l)) front ∙ cond-false (is_given Dot (sign_of (lexeme_of t))) _ _ no_dot) ∙ seen.same;
      }

  -- all tokens are seen
  pub seen_all : length tokens ≤ i → names ≡ variables_from [] (token_signs tokens)
  unfolding variables_from
  seen_all all = sym (ap (λ l. variables_from names (token_signs l)) (drop_all i tokens all)) ∙ seen.same

-- a name that is put into the set
texts_push : (keys : List (Bor (List ℕ))) (k : Bor (List ℕ)) → texts_of (keys ++ k ∷ []) ≡ texts_of keys ++ k.now ∷ []
texts_push [] k = refl
texts_push (x ∷ keys) k = ap (λ l. x.now ∷ l) (texts_push keys k)

any_shown : (name : List ℕ) (keys : List (Bor (List ℕ))) → list_any (λ k. bytes_eq name k.now) keys ≡ list_any (bytes_eq name) (texts_of keys)
any_shown name [] = refl
any_shown name (k ∷ keys) = ap (λ b. bytes_eq name k.now || b) (any_shown name keys)

pub put_in : (keys : List (Bor (List ℕ))) (k : Bor (List ℕ)) → texts_of (cond (list_any (λ x. bytes_eq k.now x.now) keys) keys (keys ++ k ∷ [])) ≡ with_variable (texts_of keys) k.now
unfolding with_variable
put_in keys k = rw (any_shown k.now keys) (cond_texts (list_any (bytes_eq k.now) (texts_of keys)))
  where
    cond_texts : (t : Bool) → texts_of (cond t keys (keys ++ k ∷ [])) ≡ cond t (texts_of keys) (texts_of keys ++ k.now ∷ [])
    cond_texts true = refl
    cond_texts false = texts_push keys k
