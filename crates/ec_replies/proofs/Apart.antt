-- Replies with one prefix whose texts differ at a byte are not the same, whatever follows them.
use Rattle.std.proofs.Common.{◌≡◌, ℕ, ◌<◌, ◌+◌, zero, suc, ◌/◌, ◌%◌, ◌==◌, Bool, true, false, cond, get_or, List, [], ◌∷◌, ◌++◌, Option, sym, ap, ◌∙◌, append_assoc, arith}
use Rattle.std.specs.Prelude.{codes, decimal}
use Rattle.std.specs.Fmt.{digits, digits_onto, digit_glyph}
use Rattle.std.proofs.lemmas.Bool.{cond-true, lt-ltb}
use Rattle.std.proofs.lemmas.List.{append_cancel_left, append-nil}
use Rattle.ec_commands.specs.Lines.{line_feed}
use Rattle.ec_commands.specs.Answers.{answer_ok, answer_text, front_text}
use Rattle.ec_replies.specs.Replies.{reply_line}
use Rattle.ec_replies.specs.Laws.{BeginsWithOk, IsRefusal}

-- what follows a reply, behind its text
pub regrouped : (front text ending rest : List ℕ) → front ++ text ++ ending ++ rest ≡ front ++ (text ++ ending ++ rest)
regrouped front text ending rest = simp append_assoc

-- two replies with one prefix, where the texts differ
pub differ_at : (prefix : Option ℕ) (i : ℕ) (text other rest more : List ℕ)
    → (get_or ((text ++ line_feed ∷ []) ++ rest) i 0 ≡ get_or ((other ++ line_feed ∷ []) ++ more) i 0 → ⊥) → reply_line prefix text ++ rest ≡ reply_line prefix other ++ more → ⊥
differ_at prefix i text other rest more differ same =
    differ (ap (λ (bytes : List ℕ). get_or bytes i 0)
    (append_cancel_left (front_text prefix) ((text ++ line_feed ∷ []) ++ rest) ((other ++ line_feed ∷ []) ++ more)
    (sym (regrouped (front_text prefix) text (line_feed ∷ []) rest) ∙ same ∙ regrouped (front_text prefix) other (line_feed ∷ []) more)))

-- a text whose first byte is none of `ok` does not accept
pub not_ok : (prefix : Option ℕ) (text : List ℕ) → (get_or ((text ++ line_feed ∷ []) ++ []) 0 0 ≡ 111 → ⊥) → BeginsWithOk prefix (reply_line prefix text) → ⊥
unfolding answer_text
not_ok prefix text differ begins = differ_at prefix 0 text (answer_text answer_ok) [] begins.0 differ (append-nil (reply_line prefix text) ∙ begins.1)

-- and one whose first byte is none of `refused` does not refuse
pub not_refused : (prefix : Option ℕ) (text rest : List ℕ) → (get_or ((text ++ line_feed ∷ []) ++ rest) 0 0 ≡ 114 → ⊥) → IsRefusal prefix (reply_line prefix text ++ rest) → ⊥
not_refused prefix text rest differ refused =
    differ (ap (λ (bytes : List ℕ). get_or bytes 0 0)
    (append_cancel_left (front_text prefix) ((text ++ line_feed ∷ []) ++ rest) (codes "refused " ++ refused.0)
    (sym (regrouped (front_text prefix) text (line_feed ∷ []) rest) ∙ refused.1 ∙ append_assoc (front_text prefix) (codes "refused ") refused.0)))

-- ---- numbers

-- a text begins with a digit
abbrev pub BeginsWithDigit : List ℕ → Type 0
BeginsWithDigit text = (d : ℕ) × (rest : List ℕ) × (d < 10) × (text ≡ (48 + d) ∷ rest)

-- the digits of a number begin with one
glyph-digit : (n : ℕ) → digit_glyph false (n % 10) ≡ 48 + n % 10
glyph-digit n = cond-true _ _ _ (lt-ltb (n % 10) 10 (omega arith))

digits_onto-first : (count n : ℕ) (behind : List ℕ) → BeginsWithDigit behind → BeginsWithDigit (digits_onto count 10 false n behind)
digits_onto-first zero n behind first = first
digits_onto-first (suc count) n behind first =
    let more : BeginsWithDigit (digit_glyph false (n % 10) ∷ behind) = (n % 10, behind, omega arith, ap (λ (b : ℕ). b ∷ behind) (glyph-digit n)) in
    by_last (n / 10 == 0) more (digits_onto-first count (n / 10) (digit_glyph false (n % 10) ∷ behind) more)
  where
    by_last : (b : Bool) → BeginsWithDigit (digit_glyph false (n % 10) ∷ behind)
        → BeginsWithDigit (digits_onto count 10 false (n / 10) (digit_glyph false (n % 10) ∷ behind))
        → BeginsWithDigit (cond b (digit_glyph false (n % 10) ∷ behind) (digits_onto count 10 false (n / 10) (digit_glyph false (n % 10) ∷ behind)))
    by_last true here rest = here
    by_last false here rest = rest

-- and so does a number, whatever follows it
pub decimal-first : (n : ℕ) (behind : List ℕ) → BeginsWithDigit (decimal n ++ behind)
unfolding digits
decimal-first n behind = by_last (n / 10 == 0) first (digits_onto-first 63 (n / 10) (digit_glyph false (n % 10) ∷ []) first)
  where
    first : BeginsWithDigit (digit_glyph false (n % 10) ∷ [])
    first = (n % 10, [], omega arith, ap (λ (b : ℕ). b ∷ []) (glyph-digit n))

    followed : (text : List ℕ) → BeginsWithDigit text → BeginsWithDigit (text ++ behind)
    followed text begins = (begins.0, begins.1 ++ behind, begins.2, ap (λ (t : List ℕ). t ++ behind) begins.3)

    by_last : (b : Bool) → BeginsWithDigit (digit_glyph false (n % 10) ∷ []) → BeginsWithDigit (digits_onto 63 10 false (n / 10) (digit_glyph false (n % 10) ∷ []))
        → BeginsWithDigit (cond b (digit_glyph false (n % 10) ∷ []) (digits_onto 63 10 false (n / 10) (digit_glyph false (n % 10) ∷ [])) ++ behind)
    by_last true here rest = followed _ here
    by_last false here rest = followed _ rest
