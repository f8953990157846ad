-- How the words of a line are taken one after another.
use Rattle.std.proofs.Common.{◌≡◌, ℕ, ◌-◌, eqb, Bool, true, false, not, List, [], ◌∷◌, length, take, drop, filter, take_while, refl, sym, ap, ◌∙◌, ⊎_elim}
use Rattle.std.proofs.lemmas.Bool.{cond-true, cond-false, cases_Bool, false≢true, eqb-true, not-false}
use Rattle.std.proofs.lemmas.List.{nil_from_length, take_rest}
use Rattle.ec_lists.proofs.Fronts.{take_while-is_take}
use Rattle.std.proofs.lemmas.List.Sums.{take_while-cons}
use Rattle.ec_terms.specs.Pieces.{pieces_between, before_first_piece}
use Rattle.ec_terms.specs.Spelling.{begins_with}
use Rattle.ec_commands.specs.Lines.{is_blank, is_word, words_of}

-- the test that a byte is no blank
abbrev pub is_no_blank : ℕ → Bool
is_no_blank b = not (is_blank b)

-- the bytes behind the blanks at the front
abbrev pub behind_blanks : List ℕ → List ℕ
behind_blanks bytes = drop (length (take_while is_blank bytes)) bytes

-- the bytes behind the word at the front
abbrev pub behind_word : List ℕ → List ℕ
behind_word bytes = drop (length (take_while is_no_blank bytes)) bytes

-- a blank is in front of no word
words_of-blank : (b : ℕ) (bytes : List ℕ) → is_blank b ≡ true → words_of (b ∷ bytes) ≡ words_of bytes
unfolding words_of pieces_between
words_of-blank b bytes blank = ap (λ pieces. filter is_word pieces) (cond-true _ _ _ blank)

behind_blanks-yes : (b : ℕ) (bytes : List ℕ) → is_blank b ≡ true → behind_blanks (b ∷ bytes) ≡ behind_blanks bytes
behind_blanks-yes b bytes blank = ap (λ (front : List ℕ). drop (length front) (b ∷ bytes)) (take_while-cons is_blank b bytes ∙ cond-true _ _ _ blank)

behind_blanks-no : (b : ℕ) (bytes : List ℕ) → is_blank b ≡ false → behind_blanks (b ∷ bytes) ≡ b ∷ bytes
behind_blanks-no b bytes other = ap (λ (front : List ℕ). drop (length front) (b ∷ bytes)) (take_while-cons is_blank b bytes ∙ cond-false _ _ _ other)

-- blanks at the front change no word
pub words_of-behind_blanks : (bytes : List ℕ) → words_of bytes ≡ words_of (behind_blanks bytes)
words_of-behind_blanks [] = refl
words_of-behind_blanks (b ∷ bytes) =
    ⊎_elim
    (λ blank. words_of-blank b bytes blank ∙ words_of-behind_blanks bytes ∙ ap words_of (sym (behind_blanks-yes b bytes blank)))
    (λ other. ap words_of (sym (behind_blanks-no b bytes other)))
    (cases_Bool (is_blank b))

-- no blank follows them
pub behind_blanks-begins : (bytes : List ℕ) → begins_with is_blank (behind_blanks bytes) ≡ false
unfolding begins_with
behind_blanks-begins [] = refl
behind_blanks-begins (b ∷ bytes) =
    ⊎_elim
    (λ blank. ap (begins_with is_blank) (behind_blanks-yes b bytes blank) ∙ behind_blanks-begins bytes)
    (λ other. ap (begins_with is_blank) (behind_blanks-no b bytes other) ∙ other)
    (cases_Bool (is_blank b))

-- the pieces behind the first, where its end is at the front
pieces_behind : List ℕ → List (List ℕ)
pieces_behind [] = []
pieces_behind (b ∷ bytes) = pieces_between is_blank bytes

-- the first piece is the word at the front
pieces_between-word : (bytes : List ℕ) → pieces_between is_blank bytes ≡ take_while is_no_blank bytes ∷ pieces_behind (behind_word bytes)
unfolding pieces_between pieces_behind
pieces_between-word [] = refl
pieces_between-word (b ∷ bytes) =
    ⊎_elim
    (λ blank. cond-true _ _ _ blank ∙ ap (λ (front : List ℕ). front ∷ pieces_behind (drop (length front) (b ∷ bytes))) (sym (take_while-cons is_no_blank b bytes ∙ cond-false _ _ _ (ap not blank))))
    (λ other. cond-false _ _ _ other
    ∙ ap (before_first_piece b) (pieces_between-word bytes)
    ∙ ap (λ (front : List ℕ). front ∷ pieces_behind (drop (length front) (b ∷ bytes))) (sym (take_while-cons is_no_blank b bytes ∙ cond-true _ _ _ (ap not other))))
    (cases_Bool (is_blank b))

-- behind a word there is nothing, or a blank
behind_word-begins : (bytes : List ℕ) → begins_with is_no_blank (behind_word bytes) ≡ false
unfolding begins_with
behind_word-begins [] = refl
behind_word-begins (b ∷ bytes) =
    ⊎_elim
    (λ blank. ap (λ (front : List ℕ). begins_with is_no_blank (drop (length front) (b ∷ bytes))) (take_while-cons is_no_blank b bytes ∙ cond-false _ _ _ (ap not blank)) ∙ ap not blank)
    (λ other. ap (λ (front : List ℕ). begins_with is_no_blank (drop (length front) (b ∷ bytes))) (take_while-cons is_no_blank b bytes ∙ cond-true _ _ _ (ap not other)) ∙ behind_word-begins bytes)
    (cases_Bool (is_blank b))

-- so the pieces behind it have the words of the bytes behind it
words_of-pieces_behind : (bytes : List ℕ) → begins_with is_no_blank bytes ≡ false → filter is_word (pieces_behind bytes) ≡ words_of bytes
unfolding words_of pieces_between pieces_behind begins_with
words_of-pieces_behind [] ends = refl
words_of-pieces_behind (b ∷ bytes) ends = ap (λ pieces. filter is_word pieces) (sym (cond-true _ _ _ (not-false (is_blank b) ends)))

-- the words are those of the first piece and those behind it
words_of-split : (bytes : List ℕ) → words_of bytes ≡ filter is_word (take_while is_no_blank bytes ∷ pieces_behind (behind_word bytes))
unfolding words_of
words_of-split bytes = ap (λ pieces. filter is_word pieces) (pieces_between-word bytes)

-- where a word is at the front, it is the first, and the other words stand behind it
pub words_of-word : (bytes : List ℕ) → is_word (take_while is_no_blank bytes) ≡ true
    → words_of bytes ≡ take_while is_no_blank bytes ∷ words_of (behind_word bytes)
words_of-word bytes word =
    words_of-split bytes
    ∙ filter-yes (take_while is_no_blank bytes) (pieces_behind (behind_word bytes)) word
    ∙ ap (λ words. take_while is_no_blank bytes ∷ words) (words_of-pieces_behind (behind_word bytes) (behind_word-begins bytes))
  where
    filter-yes : (piece : List ℕ) (pieces : List (List ℕ)) → is_word piece ≡ true → filter is_word (piece ∷ pieces) ≡ piece ∷ filter is_word pieces
    filter-yes (b ∷ piece) pieces some = refl
    filter-yes [] pieces some = absurd (false≢true some)

-- where neither a blank nor a word is at the front, no byte is there
pub words_of-none : (bytes : List ℕ) → begins_with is_blank bytes ≡ false → take_while is_no_blank bytes ≡ [] → words_of bytes ≡ []
unfolding words_of pieces_between begins_with
words_of-none [] other none = refl
words_of-none (b ∷ bytes) other none = absurd (false≢true (ap (λ front. is_word front) (sym none ∙ take_while-cons is_no_blank b bytes ∙ cond-true _ _ _ (ap not other))))

-- bytes that are not none are a word
some_is_word : (word : List ℕ) → eqb (length word) 0 ≡ false → is_word word ≡ true
some_is_word [] some = absurd (false≢true (sym some))
some_is_word (b ∷ word) some = refl

-- the next word, as it is found from where its blanks and its bytes end
module _ (bytes : List ℕ) (blanks count : ℕ) (word rest : List ℕ)
    (blanks_is : blanks ≡ length (take_while is_blank bytes))
    (count_is : count ≡ length (take_while is_no_blank (take (length bytes - blanks) (drop blanks bytes))))
    (word_is : word ≡ take count (take (length bytes - blanks) (drop blanks bytes)))
    (rest_is : rest ≡ drop count (take (length bytes - blanks) (drop blanks bytes))) where
  tail_is : take (length bytes - blanks) (drop blanks bytes) ≡ behind_blanks bytes
  tail_is = take_rest bytes blanks ∙ ap (λ (n : ℕ). drop n bytes) blanks_is

  size_is : count ≡ length (take_while is_no_blank (behind_blanks bytes))
  size_is = count_is ∙ ap (λ tail. length (take_while is_no_blank tail)) tail_is

  front_is : word ≡ take_while is_no_blank (behind_blanks bytes)
  front_is =
      word_is ∙ ap (λ tail. take count tail) tail_is ∙ ap (λ (n : ℕ). take n (behind_blanks bytes)) size_is
      ∙ sym (take_while-is_take is_no_blank (behind_blanks bytes))

  back_is : rest ≡ behind_word (behind_blanks bytes)
  back_is = rest_is ∙ ap (λ tail. drop count tail) tail_is ∙ ap (λ (n : ℕ). drop n (behind_blanks bytes)) size_is

  -- the word that was found is the first
  pub words_of-found : eqb (length word) 0 ≡ false → words_of bytes ≡ word ∷ words_of rest
  words_of-found some =
      words_of-behind_blanks bytes
      ∙ words_of-word (behind_blanks bytes) (ap is_word (sym front_is) ∙ some_is_word word some)
      ∙ ap (λ all. all ∷ words_of (behind_word (behind_blanks bytes))) (sym front_is)
      ∙ ap (λ tail. word ∷ words_of tail) (sym back_is)

  -- no word was found, and there is none
  pub words_of-not_found : eqb (length word) 0 ≡ true → words_of bytes ≡ []
  words_of-not_found none =
      words_of-behind_blanks bytes
      ∙ words_of-none (behind_blanks bytes) (behind_blanks-begins bytes) (sym front_is ∙ nil_from_length word (eqb-true (length word) 0 none))
