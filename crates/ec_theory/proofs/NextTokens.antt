-- One token taken from the front of a list.
use Rattle.std.proofs.Common.{◌≡◌, ℕ, Bool, true, false, List, [], ◌∷◌, length, map, get_or, eqb, sym, refl, ap, ◌∙◌}
use Rattle.std.proofs.lemmas.Bool.{cond_both}
use Rattle.ec_theory.specs.declared.token.Token.{Token}
use Rattle.ec_theory.specs.declared.place.Place.{Place}
use Rattle.ec_theory.specs.declared.token.TokenKind.{TokenKind}
use Rattle.ec_theory.specs.declared.token.TokenKind.TheVariants.{Name, Variable, Number, Mark}
use Rattle.ec_theory.specs.Lexeme.{Lexeme, Lexemes, lexeme_of, is_spelt, is_spelling}
use Rattle.std.specs.Str.{bytes_eq}
use Rattle.std.specs.Prelude.{codes}
use Rattle.std.proofs.Common.{None}
use Rattle.std.proofs.lemmas.Bool.{false≢true}
use Rattle.ec_theory.specs.declared.sign.Keyword.{Keyword}
use Rattle.ec_theory.specs.Sign.{Sign, Word, Variable as SignVariable, Number as SignNumber, Given, Compare, keyword_of, time_kind_of, is_word, is_keyword, is_time_kind, sign_of, name_sign, mark_sign}
use Rattle.ec_theory.specs.Reader.{Steps, IsNamed, first_passes, next_passes}

-- where no token is left, none passes
pub at_end : (test : Sign → Bool) (tokens : List Token) → tokens ≡ [] → first_passes test (map lexeme_of tokens) ≡ false
unfolding first_passes
at_end test tokens empty = rw empty refl

-- what the next token is decides
pub steps_pass : (test : Sign → Bool) (l : Lexemes) (s : Sign) (m : Lexemes) → Steps l s m → next_passes test l ≡ test s
unfolding first_passes
steps_pass test l s m steps = ap (first_passes test) steps.tokens ∙ ap test steps.sign

pub steps_fail : (test : Sign → Bool) (l : Lexemes) (s : Sign) (m : Lexemes) → Steps l s m → test s ≡ false → next_passes test l ≡ false
steps_fail test l s m steps fails = steps_pass test l s m steps ∙ fails

-- a mark is no word
mark_named : (text : List ℕ) → IsNamed (mark_sign text)
unfolding IsNamed mark_sign
mark_named text =
    let b = get_or text 0 0 in
    cond_both (eqb b 95) _ _ IsNamed (λ _. tt) (λ _. cond_both (eqb b 40) _ _ IsNamed (λ _. tt) (λ _. cond_both (eqb b 41) _ _ IsNamed (λ _. tt) (λ _.
    cond_both (eqb b 44) _ _ IsNamed (λ _. tt) (λ _. cond_both (eqb b 46) _ _ IsNamed (λ _. tt) (λ _. cond_both (eqb b 47) _ _ IsNamed (λ _. tt) (λ _.
    cond_both (eqb b 61) _ _ IsNamed (λ _. tt) (λ _. cond_both (eqb b 33) _ _ IsNamed (λ _. tt) (λ _. cond_both (eqb (length text) 1) _ _ IsNamed (λ _. tt) (λ _. tt)))))))))

-- a word that is spelt is a name
kind_named : (kind : TokenKind) (text : List ℕ) (place : Place) → is_spelling kind text ≡ true → IsNamed (sign_of (record { kind = kind; text = text; place = place }))
unfolding IsNamed sign_of name_sign is_spelling
kind_named Name text place spelt =
    cond_both (bytes_eq text (codes "if")) _ _ IsNamed (λ _. tt) (λ _. cond_both (bytes_eq text (codes "not")) _ _ IsNamed (λ _. tt) (λ _. spelt))
kind_named Variable text place spelt = tt
kind_named Number text place spelt = tt
kind_named Mark text place spelt = mark_named text

pub spelt_named : (t : Lexeme) → is_spelt t ≡ true → IsNamed (sign_of t)
unfolding is_spelt
spelt_named t spelt = kind_named t.kind t.text t.place spelt

-- what is no word is no keyword
word_or_not : (test : Keyword → Bool) (s : Sign) → is_word s ≡ false → is_keyword test s ≡ false
word_or_not test (Word w) e = absurd (false≢true (sym e))
word_or_not test (SignVariable v) e = refl
word_or_not test (SignNumber z) e = refl
word_or_not test (Given symbol) e = refl
word_or_not test (Compare op) e = refl

first_keyword : (test : Keyword → Bool) (tokens : List Lexeme) → first_passes is_word tokens ≡ false → first_passes (is_keyword test) tokens ≡ false
unfolding first_passes
first_keyword test [] e = refl
first_keyword test (t ∷ tokens) e = word_or_not test (sign_of t) e

pub no_keyword : (test : Keyword → Bool) (l : Lexemes) → next_passes is_word l ≡ false → next_passes (is_keyword test) l ≡ false
no_keyword test l e = first_keyword test l.tokens e

-- a word that begins nothing
pub word_no_keyword : (test : Keyword → Bool) (l : Lexemes) (w : List ℕ) (m : Lexemes) → Steps l (Word w) m → keyword_of w ≡ None → next_passes (is_keyword test) l ≡ false
word_no_keyword test l w m steps none = steps_fail (is_keyword test) l (Word w) m steps (rw none refl)

-- what is no word names no kind of time
word_or_no_kind : (s : Sign) → is_word s ≡ false → is_time_kind s ≡ false
word_or_no_kind (Word w) e = absurd (false≢true (sym e))
word_or_no_kind (SignVariable v) e = refl
word_or_no_kind (SignNumber z) e = refl
word_or_no_kind (Given symbol) e = refl
word_or_no_kind (Compare op) e = refl

first_time_kind : (tokens : List Lexeme) → first_passes is_word tokens ≡ false → first_passes is_time_kind tokens ≡ false
unfolding first_passes
first_time_kind [] e = refl
first_time_kind (t ∷ tokens) e = word_or_no_kind (sign_of t) e

pub no_time_kind : (l : Lexemes) → next_passes is_word l ≡ false → next_passes is_time_kind l ≡ false
no_time_kind l e = first_time_kind l.tokens e

-- a word that names none
pub word_no_time_kind : (l : Lexemes) (w : List ℕ) (m : Lexemes) → Steps l (Word w) m → time_kind_of w ≡ None → next_passes is_time_kind l ≡ false
word_no_time_kind l w m steps none = steps_fail is_time_kind l (Word w) m steps (rw none refl)
