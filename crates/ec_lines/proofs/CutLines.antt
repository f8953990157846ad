-- How a text is cut into lines when more of it comes.
use Rattle.std.proofs.Common.{◌≡◌, ◌≢◌, ℕ, zero, suc, ◌+◌, ◌-◌, ◌<◌, ◌≤◌, Bool, true, false, cond, eqb, List, [], ◌∷◌, ◌++◌, length, map, take, get_or, Some, None, refl, sym, ap, ◌∙◌, arith, append-nil}
use Rattle.std.proofs.lemmas.Bool.{cond-true, cond-false, ne_eqb, eq-eqb, eqb-true}
use Rattle.std.proofs.lemmas.List.{take_more, map-append, get_or-take, length-take-le}
use Rattle.std.specs.Io.BufRead.{take_through}
use Rattle.memchr.specs.Find.{IsFirstByte, is_byte}
use Rattle.ec_commands.specs.Lines.{CutText, line_feed, carriage_return, before_parts, cut_of, without_return, whole_lines}
use Rattle.ec_commands.proofs.LineEnds.{without_return-nil, without_return-one, without_return-cons}

-- ---- a carriage return at the end

-- one less than a length, and the last place behind the first
less_one : (n : ℕ) → suc (suc n) - 1 ≡ suc (suc n - 1)
less_one n = omega arith

last-rest : (b c : ℕ) (bytes : List ℕ) → get_or (b ∷ c ∷ bytes) (length (b ∷ c ∷ bytes) - 1) 0 ≡ get_or (c ∷ bytes) (length (c ∷ bytes) - 1) 0
last-rest b c bytes = ap (λ n. get_or (b ∷ c ∷ bytes) n 0) (less_one (length bytes))

-- a carriage return is dropped from a part that ends with one
pub without_return-take : (bytes : List ℕ) → 0 < length bytes → get_or bytes (length bytes - 1) 0 ≡ carriage_return
    → without_return bytes ≡ take (length bytes - 1) bytes
without_return-take [] some ends = absurd (omega arith)
without_return-take (b ∷ []) some ends = without_return-one b ∙ cond-true _ _ _ (eq-eqb b carriage_return ends)
without_return-take (b ∷ c ∷ bytes) some ends =
    without_return-cons b c bytes
    ∙ ap (λ rest. b ∷ rest) (without_return-take (c ∷ bytes) (omega arith) (sym (last-rest b c bytes) ∙ ends))
    ∙ sym (ap (λ n. take n (b ∷ c ∷ bytes)) (less_one (length bytes)))

-- a part that ends otherwise stays as it is
pub without_return-same : (bytes : List ℕ) → (0 < length bytes → get_or bytes (length bytes - 1) 0 ≢ carriage_return) → without_return bytes ≡ bytes
without_return-same [] other = without_return-nil
without_return-same (b ∷ []) other = without_return-one b ∙ cond-false _ _ _ (ne_eqb b carriage_return (other (omega arith)))
without_return-same (b ∷ c ∷ bytes) other =
    without_return-cons b c bytes
    ∙ ap (λ rest. b ∷ rest) (without_return-same (c ∷ bytes) (λ some same. other (omega arith) (last-rest b c bytes ∙ same)))

-- at most one byte is dropped
pub length-without_return : (bytes : List ℕ) → length bytes ≤ length (without_return bytes) + 1
length-without_return [] = omega arith
length-without_return (b ∷ []) = omega arith
length-without_return (b ∷ c ∷ bytes) = omega (arith, ap length (without_return-cons b c bytes), length-without_return (c ∷ bytes))

-- ---- more text

-- a cut text with another one behind it
abbrev pub behind : CutText → List (List ℕ) → List ℕ → CutText
behind first [] rest = record { ended = first.ended; rest = first.rest ++ rest }
behind first (part ∷ parts) rest = record { ended = first.ended ++ (first.rest ++ part) ∷ parts; rest = rest }

behind-nil : (parts : List (List ℕ)) (rest : List ℕ) → behind (record { ended = []; rest = [] }) parts rest ≡ record { ended = parts; rest = rest }
behind-nil [] rest = refl
behind-nil (part ∷ parts) rest = refl

behind-line : (first : CutText) (parts : List (List ℕ)) (rest : List ℕ)
    → behind (record { ended = [] ∷ first.ended; rest = first.rest }) parts rest
    ≡ record { ended = [] ∷ (behind first parts rest).ended; rest = (behind first parts rest).rest }
behind-line first [] rest = refl
behind-line first (part ∷ parts) rest = refl

behind-before : (b : ℕ) (ended parts : List (List ℕ)) (last rest : List ℕ)
    → behind (before_parts b ended last) parts rest
    ≡ before_parts b (behind (record { ended = ended; rest = last }) parts rest).ended (behind (record { ended = ended; rest = last }) parts rest).rest
behind-before b [] [] last rest = refl
behind-before b [] (part ∷ parts) last rest = refl
behind-before b (first ∷ ended) [] last rest = refl
behind-before b (first ∷ ended) (part ∷ parts) last rest = refl

-- one more byte in front, which ends a part if the test says so
behind-step : (ends : Bool) (b : ℕ) (first whole : CutText) (parts : List (List ℕ)) (rest : List ℕ) → whole ≡ behind first parts rest
    → cond ends (record { ended = [] ∷ whole.ended; rest = whole.rest }) (before_parts b whole.ended whole.rest)
    ≡ behind (cond ends (record { ended = [] ∷ first.ended; rest = first.rest }) (before_parts b first.ended first.rest)) parts rest
behind-step true b first whole parts rest is =
    ap (λ (w : CutText). record { ended = [] ∷ w.ended; rest = w.rest }) is ∙ sym (behind-line first parts rest)
behind-step false b first whole parts rest is =
    ap (λ (w : CutText). before_parts b w.ended w.rest) is ∙ sym (behind-before b first.ended parts first.rest rest)

-- a text is cut as its first bytes are, and then what stands behind them
pub cut_of-append : (xs ys : List ℕ) → cut_of (xs ++ ys) ≡ behind (cut_of xs) (cut_of ys).ended (cut_of ys).rest
unfolding cut_of
cut_of-append [] ys = sym (behind-nil (cut_of ys).ended (cut_of ys).rest)
cut_of-append (b ∷ xs) ys =
    behind-step (eqb b line_feed) b (cut_of xs) (cut_of (xs ++ ys)) (cut_of ys).ended (cut_of ys).rest (cut_of-append xs ys)

-- no byte is a line end
abbrev pub HasNoLineEnd : List ℕ → Type 0
HasNoLineEnd bytes = (k : ℕ) → k < length bytes → get_or bytes k 0 ≢ line_feed

-- the same of the bytes behind the first
HasNoLineEnd-rest : (b : ℕ) (bytes : List ℕ) → HasNoLineEnd (b ∷ bytes) → HasNoLineEnd bytes
HasNoLineEnd-rest b bytes none k within = none (suc k) (omega arith)

-- a byte that ends no part is in front of the first
cut_of-byte : (b : ℕ) (bytes : List ℕ) → b ≢ line_feed → cut_of (b ∷ bytes) ≡ before_parts b (cut_of bytes).ended (cut_of bytes).rest
unfolding cut_of
cut_of-byte b bytes other = cond-false _ _ _ (ne_eqb b line_feed other)

-- a text without a line end is one rest
pub cut_of-none : (bytes : List ℕ) → HasNoLineEnd bytes → cut_of bytes ≡ record { ended = []; rest = bytes }
unfolding cut_of
cut_of-none [] none = refl
cut_of-none (b ∷ bytes) none =
    cut_of-byte b bytes (none 0 (omega arith)) ∙ ap (λ (w : CutText). before_parts b w.ended w.rest) (cut_of-none bytes (HasNoLineEnd-rest b bytes none))

-- a line end alone ends an empty part
cut_of-line_feed : cut_of (line_feed ∷ []) ≡ record { ended = [] ∷ []; rest = [] }
unfolding cut_of
cut_of-line_feed = refl

-- bytes without a line end, and then one, end one part
pub cut_of-line : (bytes : List ℕ) → HasNoLineEnd bytes → cut_of (bytes ++ line_feed ∷ []) ≡ record { ended = bytes ∷ []; rest = [] }
cut_of-line bytes none =
    cut_of-append bytes (line_feed ∷ [])
    ∙ ap (λ (w : CutText). behind w (cut_of (line_feed ∷ [])).ended (cut_of (line_feed ∷ [])).rest) (cut_of-none bytes none)
    ∙ ap (λ (w : CutText). behind (record { ended = []; rest = bytes }) w.ended w.rest) cut_of-line_feed
    ∙ ap (λ (part : List ℕ). record { ended = part ∷ []; rest = [] }) (append-nil bytes)

-- ---- what a piece adds to the text that came before it

-- without a line end it goes to the rest
pub cut_of-piece : (text piece : List ℕ) → HasNoLineEnd piece → cut_of (text ++ piece) ≡ record { ended = (cut_of text).ended; rest = (cut_of text).rest ++ piece }
cut_of-piece text piece none =
    cut_of-append text piece ∙ ap (λ (w : CutText). behind (cut_of text) w.ended w.rest) (cut_of-none piece none)

-- up to a line end it ends one more part, and leaves no rest
pub cut_of-piece_line : (text bytes : List ℕ) → HasNoLineEnd bytes
    → cut_of (text ++ (bytes ++ line_feed ∷ [])) ≡ record { ended = (cut_of text).ended ++ ((cut_of text).rest ++ bytes) ∷ []; rest = [] }
cut_of-piece_line text bytes none =
    cut_of-append text (bytes ++ line_feed ∷ []) ∙ ap (λ (w : CutText). behind (cut_of text) w.ended w.rest) (cut_of-line bytes none)

-- the whole lines stay the same
pub whole_lines-piece : (text piece : List ℕ) → HasNoLineEnd piece → whole_lines (text ++ piece) ≡ whole_lines text
unfolding whole_lines
whole_lines-piece text piece none = ap (λ (w : CutText). map without_return w.ended) (cut_of-piece text piece none)

-- there is one more whole line
pub whole_lines-piece_line : (text bytes : List ℕ) → HasNoLineEnd bytes
    → whole_lines (text ++ (bytes ++ line_feed ∷ [])) ≡ whole_lines text ++ without_return ((cut_of text).rest ++ bytes) ∷ []
unfolding whole_lines
whole_lines-piece_line text bytes none =
    ap (λ (w : CutText). map without_return w.ended) (cut_of-piece_line text bytes none)
    ∙ map-append without_return (cut_of text).ended (((cut_of text).rest ++ bytes) ∷ [])

-- ---- the first line end of a piece

-- the first line end stands at place k
pub record LineEndAt (bytes : List ℕ) (k : ℕ) : Type 0 where
  pub within : k < length bytes
  pub here : get_or bytes k 0 ≡ line_feed
  pub before : (j : ℕ) → j < k → get_or bytes j 0 ≢ line_feed

-- as a search for it finds it
pub LineEndAt-found : (bytes : List ℕ) (k : ℕ) → IsFirstByte (is_byte line_feed) bytes (Some k) → LineEndAt bytes k
LineEndAt-found bytes k found = record {
  within = found.0.high;
  here = eqb-true _ _ found.1;
  before = λ j below same. found.0.before j (omega arith) below (eq-eqb _ _ same);
}

-- where the search finds none there is none
pub HasNoLineEnd-not_found : (bytes : List ℕ) → IsFirstByte (is_byte line_feed) bytes None → HasNoLineEnd bytes
HasNoLineEnd-not_found bytes none k within same = none k (omega arith) within (eq-eqb _ _ same)

-- no line end stands before the first
pub HasNoLineEnd-take : {bytes : List ℕ} {k : ℕ} → LineEndAt bytes k → HasNoLineEnd (take k bytes)
HasNoLineEnd-take {bytes} {k} at j below same =
    let size : length (take k bytes) ≡ k = length-take-le k bytes (omega (arith, at.within)) in
    let lower : j < k = omega arith in
    at.before j lower (sym (get_or-take k bytes j 0 lower) ∙ same)

-- the bytes up to and with it
pub take-line : {bytes : List ℕ} {k : ℕ} → LineEndAt bytes k → take (k + 1) bytes ≡ take k bytes ++ line_feed ∷ []
take-line {bytes} {k} at = take_more bytes k 0 at.within ∙ ap (λ (b : ℕ). take k bytes ++ b ∷ []) at.here

-- the same as std's word for them
pub take_through-first : (bytes : List ℕ) (k : ℕ) → LineEndAt bytes k → take_through line_feed bytes ≡ take (k + 1) bytes
take_through-first [] k at = absurd (omega (arith, at.within))
take_through-first (b ∷ bytes) zero at = cond-true _ _ _ (eq-eqb b line_feed at.here)
take_through-first (b ∷ bytes) (suc k) at =
    cond-false _ _ _ (ne_eqb b line_feed (at.before 0 (omega arith)))
    ∙ ap (λ rest. b ∷ rest) (take_through-first bytes k (record { within = omega (arith, at.within); here = at.here; before = λ j below. at.before (suc j) (omega arith) }))
    ∙ ap (λ (n : ℕ). take n (b ∷ bytes)) (let e : suc (k + 1) ≡ suc k + 1 = omega arith in e)

-- all bytes, where none of them is a line end
pub take_through-none : (bytes : List ℕ) → HasNoLineEnd bytes → take_through line_feed bytes ≡ bytes
take_through-none [] none = refl
take_through-none (b ∷ bytes) none =
    cond-false _ _ _ (ne_eqb b line_feed (none 0 (omega arith))) ∙ ap (λ rest. b ∷ rest) (take_through-none bytes (HasNoLineEnd-rest b bytes none))
