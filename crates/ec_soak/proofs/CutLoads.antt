-- The bytes of generated lines are cut into the texts of these lines.
use Rattle.std.proofs.Common.{◌≡◌, ◌∙◌, ℕ, zero, suc, ◌+◌, ◌<◌, ◌≤◌, ◌/◌, ◌%◌, Bool, true, false, cond, ◌==◌, nat_lt, List, [], ◌∷◌, ◌++◌, length, map, refl, ap, ap₂, arith, append_assoc, append-nil, length-append}
use Rattle.std.specs.List.{list_all}
use Rattle.std.specs.Fmt.{decimal, digits, digits_onto, digit_glyph}
use Rattle.std.proofs.lemmas.Bool.{cond-false, ne_eqb, lt-ltb}
use Rattle.std.proofs.lemmas.Bool.Decides.{nat_tests}
use Rattle.std.proofs.lemmas.List.Folds.{list_all-append}
use Rattle.ec_commands.specs.Lines.{CutText, cut_of, before_parts, line_feed, carriage_return, without_return, whole_lines, last_line, lines_of, is_long}
use Rattle.ec_commands.proofs.LineEnds.{without_return-one, without_return-cons}
use Rattle.ec_soak.specs.declared.generated_line.GeneratedEvent.{GeneratedEvent}
use Rattle.ec_soak.specs.declared.generated_line.GeneratedEvent.TheVariants.{Push, Plug, Unplug, Move, Leave}
use Rattle.ec_soak.specs.declared.generated_line.GeneratedLine.{GeneratedLine}
use Rattle.ec_soak.specs.declared.generated_line.GeneratedLine.TheVariants.{Assert, Retract, HoldsLit, HoldsAt, Intervals, Last}
use Rattle.ec_soak.specs.Load.{drawn_line, drawn_lines, event_text, line_text, load_of}

-- there are as many lines as were left
pub length-drawn_lines : (left number x : ℕ) → length (drawn_lines left number x) ≡ left
unfolding drawn_lines
length-drawn_lines zero number x = refl
length-drawn_lines (suc left) number x = omega (arith, length-drawn_lines left (number + 1) (drawn_line number x).1)

-- ---- bytes that end no line

-- a byte above the line ends
abbrev is_plain : ℕ → Bool
is_plain byte = nat_lt 13 byte

plain-glyph : (d : ℕ) → is_plain (digit_glyph false d) ≡ true
plain-glyph d =
    elim (nat_lt d 10) as (λ (b : Bool). nat_lt 13 (cond b (48 + d) (87 + d)) ≡ true) [
      | true ↦ lt-ltb 13 (48 + d) (omega arith)
      | false ↦ lt-ltb 13 (87 + d) (omega arith)
    ]

plain-digits : (count n : ℕ) (behind : List ℕ) → list_all is_plain behind ≡ true → list_all is_plain (digits_onto count 10 false n behind) ≡ true
plain-digits zero n behind plain = plain
plain-digits (suc count) n behind plain =
    let more : list_all is_plain (digit_glyph false (n % 10) ∷ behind) ≡ true = rw (plain-glyph (n % 10)) plain in
    elim (n / 10 == 0) as (λ (b : Bool). list_all is_plain (cond b (digit_glyph false (n % 10) ∷ behind)
    (digits_onto count 10 false (n / 10) (digit_glyph false (n % 10) ∷ behind))) ≡ true) [
      | true ↦ more
      | false ↦ plain-digits count (n / 10) (digit_glyph false (n % 10) ∷ behind) more
    ]

plain-decimal : (n : ℕ) → list_all is_plain (decimal n) ≡ true
unfolding digits
plain-decimal n = plain-digits 64 n [] refl

plain-event : (event : GeneratedEvent) → list_all is_plain (event_text event) ≡ true
unfolding event_text
plain-event (Push person lamp) = simp (list_all-append, plain-decimal)
plain-event (Plug lamp) = simp (list_all-append, plain-decimal)
plain-event (Unplug lamp) = simp (list_all-append, plain-decimal)
plain-event (Move person hall) = simp (list_all-append, plain-decimal)
plain-event (Leave person hall) = simp (list_all-append, plain-decimal)

plain-line : (line : GeneratedLine) → list_all is_plain (line_text line) ≡ true
unfolding line_text
plain-line (Assert number time event) = simp (list_all-append, plain-decimal, plain-event)
plain-line (Retract number) = plain-decimal number
plain-line (HoldsLit lamp time) = simp (list_all-append, plain-decimal)
plain-line (HoldsAt person hall time) = simp (list_all-append, plain-decimal)
plain-line (Intervals lamp) = simp (list_all-append, plain-decimal)
plain-line Last = refl

-- ---- how they are cut

cut_of-line : (line rest : List ℕ) → list_all is_plain line ≡ true
    → cut_of (line ++ line_feed ∷ rest) ≡ record { ended = line ∷ (cut_of rest).ended; rest = (cut_of rest).rest }
unfolding cut_of
cut_of-line [] rest plain = refl
cut_of-line (b ∷ line) rest plain =
    let here : 13 < b = grind (arith, nat_tests) in
    let later : list_all is_plain line ≡ true = grind arith in
    cond-false _ _ _ (ne_eqb b line_feed (λ same. omega arith))
    ∙ ap (λ (w : CutText). before_parts b w.ended w.rest) (cut_of-line line rest later)

cut_of-load : (lines : List GeneratedLine) → cut_of (load_of lines) ≡ record { ended = map line_text lines; rest = [] }
unfolding cut_of
cut_of-load [] = refl
cut_of-load (line ∷ lines) =
    ap cut_of (append_assoc (line_text line) (line_feed ∷ []) (load_of lines))
    ∙ cut_of-line (line_text line) (load_of lines) (plain-line line)
    ∙ ap (λ (w : CutText). record { ended = line_text line ∷ w.ended; rest = w.rest }) (cut_of-load lines)

without_return-plain : (line : List ℕ) → list_all is_plain line ≡ true → without_return line ≡ line
unfolding without_return
without_return-plain [] plain = refl
without_return-plain (b ∷ []) plain =
    let here : 13 < b = grind (arith, nat_tests) in without_return-one b ∙ cond-false _ _ _ (ne_eqb b carriage_return (λ same. omega arith))
without_return-plain (b ∷ c ∷ line) plain =
    let later : list_all is_plain (c ∷ line) ≡ true = grind arith in
    without_return-cons b c line ∙ ap (λ rest. b ∷ rest) (without_return-plain (c ∷ line) later)

map-without_return : (lines : List GeneratedLine) → map without_return (map line_text lines) ≡ map line_text lines
map-without_return [] = refl
map-without_return (line ∷ lines) = ap₂ (λ l ls. l ∷ ls) (without_return-plain (line_text line) (plain-line line)) (map-without_return lines)

-- the lines of their bytes are their texts
pub lines_of-load : (lines : List GeneratedLine) → lines_of (load_of lines) ≡ map line_text lines
unfolding lines_of whole_lines last_line
lines_of-load lines = rw (cut_of-load lines) (append-nil (map without_return (map line_text lines)) ∙ map-without_return lines)

-- ---- how long they are

length-digits : (count n : ℕ) (behind : List ℕ) → length (digits_onto count 10 false n behind) ≤ count + length behind
length-digits zero n behind = omega arith
length-digits (suc count) n behind =
    elim (n / 10 == 0) as (λ (b : Bool). length (cond b (digit_glyph false (n % 10) ∷ behind)
    (digits_onto count 10 false (n / 10) (digit_glyph false (n % 10) ∷ behind))) ≤ suc count + length behind) [
      | true ↦ omega arith
      | false ↦ omega (arith, length-digits count (n / 10) (digit_glyph false (n % 10) ∷ behind))
    ]

length-decimal : (n : ℕ) → length (decimal n) ≤ 64
unfolding digits
length-decimal n = length-digits 64 n []

length-event_text : (event : GeneratedEvent) → length (event_text event) ≤ 200
unfolding event_text
length-event_text (Push person lamp) = simp length-append (omega (arith, length-decimal person, length-decimal lamp))
length-event_text (Plug lamp) = simp length-append (omega (arith, length-decimal lamp))
length-event_text (Unplug lamp) = simp length-append (omega (arith, length-decimal lamp))
length-event_text (Move person hall) = simp length-append (omega (arith, length-decimal person, length-decimal hall))
length-event_text (Leave person hall) = simp length-append (omega (arith, length-decimal person, length-decimal hall))

length-line_text : (line : GeneratedLine) → length (line_text line) ≤ 400
unfolding line_text
length-line_text (Assert number time event) = simp length-append (omega (arith, length-decimal number, length-decimal time, length-event_text event))
length-line_text (Retract number) = simp length-append (omega (arith, length-decimal number))
length-line_text (HoldsLit lamp time) = simp length-append (omega (arith, length-decimal lamp, length-decimal time))
length-line_text (HoldsAt person hall time) = simp length-append (omega (arith, length-decimal person, length-decimal hall, length-decimal time))
length-line_text (Intervals lamp) = simp length-append (omega (arith, length-decimal lamp))
length-line_text Last = omega arith

-- no text of a line is too long for a line
pub is_long-line_text : (line : GeneratedLine) → is_long (line_text line) ≡ false
unfolding is_long
is_long-line_text line = let short = length-line_text line in grind (arith, nat_tests)
