-- How what is kept of an output changes with each byte.
use Rattle.std.proofs.Common.{◌≡◌, ◌≢◌, ◌∙◌, ℕ, zero, suc, ◌+◌, ◌<◌, Bool, true, false, cond, eqb, ◌==◌, ◌&&◌, List, [], ◌∷◌, ◌++◌, length, take, refl, sym, ap, ap₂, arith, codes, length-append, nat_eq, not, one-add}
use Rattle.std.specs.Prelude.{count_by}
use Rattle.std.specs.List.{position_or_len}
use Rattle.std.specs.Str.{bytes_eq}
use Rattle.std.proofs.lemmas.List.Sums.{sum_by-append}
use Rattle.std.proofs.lemmas.Bool.{cond-false, ne_eqb}
use Rattle.ec_commands.specs.Lines.{CutText, cut_of, line_feed, before_parts}
use Rattle.ec_outside.specs.Counts.{next_count}
use Rattle.ec_outside.specs.Streams.{Appended}
use Rattle.ec_soak.specs.declared.counts.Counts.{Counts}
use Rattle.ec_soak.specs.declared.tally_sink.TheConstants.{KEPT}
use Rattle.ec_soak.specs.Tally.{Tally, first_word, has_first, is_memory, counted, counts_of, tally_of, stands_for_tally, next_if, with_line}

-- a byte before a text that another byte follows, a line end or not
line_end_step : (ends : Bool) (b : ℕ) (parts : List (List ℕ)) (rest : List ℕ)
    → cond ends (record { ended = [] ∷ (parts ++ rest ∷ []); rest = [] }) (before_parts b (parts ++ rest ∷ []) [])
    ≡ (let w : CutText = cond ends (record { ended = [] ∷ parts; rest = rest }) (before_parts b parts rest) in record { ended = w.ended ++ w.rest ∷ []; rest = [] })
line_end_step true b parts rest = refl
line_end_step false b [] rest = refl
line_end_step false b (part ∷ parts) rest = refl

other_step : (ends : Bool) (b byte : ℕ) (parts : List (List ℕ)) (rest : List ℕ)
    → cond ends (record { ended = [] ∷ parts; rest = rest ++ byte ∷ [] }) (before_parts b parts (rest ++ byte ∷ []))
    ≡ (let w : CutText = cond ends (record { ended = [] ∷ parts; rest = rest }) (before_parts b parts rest) in record { ended = w.ended; rest = w.rest ++ byte ∷ [] })
other_step true b byte parts rest = refl
other_step false b byte [] rest = refl
other_step false b byte (part ∷ parts) rest = refl

-- a line end behind a text ends its last line
pub cut_of-line_end : (text : List ℕ) → cut_of (text ++ line_feed ∷ []) ≡ record { ended = (cut_of text).ended ++ (cut_of text).rest ∷ []; rest = [] }
unfolding cut_of
cut_of-line_end [] = refl
cut_of-line_end (b ∷ text) =
    ap (λ (w : CutText). cond (eqb b line_feed) (record { ended = [] ∷ w.ended; rest = w.rest }) (before_parts b w.ended w.rest)) (cut_of-line_end text)
    ∙ line_end_step (eqb b line_feed) b (cut_of text).ended (cut_of text).rest

-- another byte behind a text belongs to its last line
pub cut_of-other : (text : List ℕ) (byte : ℕ) → byte ≢ line_feed
    → cut_of (text ++ byte ∷ []) ≡ record { ended = (cut_of text).ended; rest = (cut_of text).rest ++ byte ∷ [] }
unfolding cut_of
cut_of-other [] byte other = cond-false _ _ _ (ne_eqb byte line_feed other)
cut_of-other (b ∷ text) byte other =
    ap (λ (w : CutText). cond (eqb b line_feed) (record { ended = [] ∷ w.ended; rest = w.rest }) (before_parts b w.ended w.rest)) (cut_of-other text byte other)
    ∙ other_step (eqb b line_feed) b byte (cut_of text).ended (cut_of text).rest

-- some first bytes of a text tell whether it is a shorter one
pub bytes_eq-take : (size : ℕ) (text word : List ℕ) → length word < size → bytes_eq (take size text) word ≡ bytes_eq text word
bytes_eq-take zero text word short = absurd (omega arith)
bytes_eq-take (suc size) [] word short = refl
bytes_eq-take (suc size) (b ∷ text) [] short = refl
bytes_eq-take (suc size) (b ∷ text) (c ∷ word) short = ap (λ rest. nat_eq b c && rest) (bytes_eq-take size text word (omega arith))

-- how many bytes stand before the first space
abbrev before_space : List ℕ → ℕ
before_space line = position_or_len (λ byte. byte == 32) line

-- the first word of some first bytes is that of all, as far as they reach
pub first_word-take : (size : ℕ) (line : List ℕ) → first_word (take size line) ≡ take size (first_word line)
first_word-take zero line = refl
first_word-take (suc size) [] = refl
first_word-take (suc size) (b ∷ line) =
    elim (eqb b 32) as (λ (v : Bool). take (cond (not v) (1 + before_space (take size line)) 0) (b ∷ take size line) ≡ take (suc size) (take (cond (not v) (1 + before_space line) 0) (b ∷ line))) [
      | true ↦ refl
      | false ↦ rw (one-add (before_space line), one-add (before_space (take size line))) (ap (λ rest. b ∷ rest) (first_word-take size line))
    ]

-- and so they tell which shorter word the first one is
pub has_first-take : (word line : List ℕ) → length word < KEPT → has_first word (take KEPT line) ≡ has_first word line
has_first-take word line short = ap (λ w. bytes_eq w word) (first_word-take KEPT line) ∙ bytes_eq-take KEPT (first_word line) word short

one_counted : (test : Bool) (count : ℕ) → counted (count + (0 + cond test 1 0)) ≡ next_if test (counted count)
one_counted true count = omega arith
one_counted false count = omega arith

-- one more line is counted if it passes
pub count_by-push : (p : List ℕ → Bool) (lines : List (List ℕ)) (line : List ℕ)
    → counted (count_by p (lines ++ line ∷ [])) ≡ next_if (p line) (counted (count_by p lines))
count_by-push p lines line =
    ap counted (sum_by-append (λ l. cond (p l) 1 0) lines (line ∷ [])) ∙ one_counted (p line) (count_by p lines)

-- a line is counted by its first bytes
pub with_line-take : (counts : Counts) (line : List ℕ) → with_line counts (take KEPT line) ≡ with_line counts line
with_line-take counts line =
    rw (
      has_first-take (codes "ok") line (omega arith),
      has_first-take (codes "yes") line (omega arith),
      has_first-take (codes "no") line (omega arith),
      has_first-take (codes "refused") line (omega arith),
      bytes_eq-take KEPT line (codes "refused memory") (omega arith),
    ) refl

-- one more byte is counted
counted_byte : (text : List ℕ) (byte : ℕ) → counted (length (text ++ byte ∷ [])) ≡ next_count (counted (length text))
counted_byte text byte = rw length-append (omega arith)

-- the counts of a text with a line end behind it
pub counts_of-line_end : (text : List ℕ)
    → counts_of (text ++ line_feed ∷ []) ≡ with_line (record (counts_of text) { bytes = next_count (counts_of text).bytes }) (cut_of text).rest
unfolding counts_of
counts_of-line_end text =
    let parts = (cut_of text).ended in
    let rest = (cut_of text).rest in
    rw (
      cut_of-line_end text,
      count_by-push (has_first (codes "ok")) parts rest,
      count_by-push (has_first (codes "yes")) parts rest,
      count_by-push (has_first (codes "no")) parts rest,
      count_by-push (has_first (codes "refused")) parts rest,
      count_by-push is_memory parts rest,
      counted_byte text line_feed,
    ) refl

-- the counts of a text with another byte behind it
pub counts_of-other : (text : List ℕ) (byte : ℕ) → byte ≢ line_feed
    → counts_of (text ++ byte ∷ []) ≡ record (counts_of text) { bytes = next_count (counts_of text).bytes }
unfolding counts_of
counts_of-other text byte other = rw (cut_of-other text byte other, counted_byte text byte) refl

-- what is kept of a line with another byte behind it
take-push : (size : ℕ) (line : List ℕ) (byte : ℕ) → take size (line ++ byte ∷ []) ≡ take size (take size line ++ byte ∷ [])
take-push zero line byte = refl
take-push (suc size) [] byte = refl
take-push (suc size) (b ∷ line) byte = ap (λ rest. b ∷ rest) (take-push size line byte)

-- what is kept of a text with a line end behind it
pub tally_of-line_end : (text : List ℕ) → tally_of (text ++ line_feed ∷ [])
    ≡ record {
      counts = with_line (record (tally_of text).counts { bytes = next_count (tally_of text).counts.bytes }) (tally_of text).begun;
      begun = [];
    }
tally_of-line_end text =
    rw (cut_of-line_end text, counts_of-line_end text, with_line-take (record (counts_of text) { bytes = next_count (counts_of text).bytes }) (cut_of text).rest) refl

-- what is kept of a text with another byte behind it
pub tally_of-other : (text : List ℕ) (byte : ℕ) → byte ≢ line_feed → tally_of (text ++ byte ∷ [])
    ≡ record {
      counts = record (tally_of text).counts { bytes = next_count (tally_of text).counts.bytes };
      begun = take KEPT ((tally_of text).begun ++ byte ∷ []);
    }
tally_of-other text byte other = rw (cut_of-other text byte other, counts_of-other text byte other, ← take-push KEPT (cut_of text).rest byte) refl

-- what is kept, by its two parts
abbrev tally : Counts → List ℕ → Tally
tally counts begun = record { counts = counts; begun = begun }

-- a line end is appended
pub Appended-line_end : (before after : Tally) (byte : ℕ) → byte ≡ line_feed
    → after.counts ≡ with_line (record before.counts { bytes = next_count before.counts.bytes }) before.begun → after.begun ≡ []
    → Appended stands_for_tally before after (byte ∷ [])
Appended-line_end before after byte ends counts begun = record {
  follows = λ text stood.
      ap (λ b. tally_of (text ++ b ∷ [])) ends
      ∙ tally_of-line_end text
      ∙ ap (λ (t : Tally). tally (with_line (record t.counts { bytes = next_count t.counts.bytes }) t.begun) []) stood
      ∙ sym (ap₂ tally counts begun);
}

-- another byte is appended
pub Appended-other : (before after : Tally) (byte : ℕ) → byte ≢ line_feed
    → after.counts ≡ record before.counts { bytes = next_count before.counts.bytes } → after.begun ≡ take KEPT (before.begun ++ byte ∷ [])
    → Appended stands_for_tally before after (byte ∷ [])
Appended-other before after byte other counts begun = record {
  follows = λ text stood.
      tally_of-other text byte other
      ∙ ap (λ (t : Tally). tally (record t.counts { bytes = next_count t.counts.bytes }) (take KEPT (t.begun ++ byte ∷ []))) stood
      ∙ sym (ap₂ tally counts begun);
}
