-- Texts of civil times: their numbers are read back, their bytes, and what spells a civil time.
use Rattle.std.proofs.Common.{◌≡◌, ℕ, ◌+◌, ◌/◌, ◌%◌, ◌<◌, ◌≤◌, true, false, ℤ, pos, negsuc, List, length, All, Some, None, refl, sym, ◌∙◌, ap, subst, ⊎_elim, arith}
use Rattle.std.specs.Prelude.{bytes_eq}
use Rattle.std.proofs.lemmas.Bool.{cases_Bool, and_left, and_right, and_from, cond-true, cond-false, false_from_ne_true, false≢true}
use Rattle.std.proofs.lemmas.Int.{ints}
use Rattle.std.proofs.lemmas.List.Elements.{All-from_recursion}
use Rattle.std.proofs.lemmas.Slice.Eq.{bytes_eq-Decides}
use Rattle.jiff_core.proofs.CalendarLemmas.{days_in_month_bounds}
use Rattle.jiff_core.proofs.SignedLemmas.{signed_arith}
use Rattle.ec_moment.specs.Moment.{IsWithin, IsWordByte}
use Rattle.ec_civil.specs.Civil.{civil_rank, civil_text, civil_value, is_civil, stamp_at, stamp_of_rank, stamp_text}
use Rattle.ec_civil.specs.declared.limits.TheConstants.{MOST_CIVIL, TEXT_LENGTH}
use Rattle.ec_civil.specs.declared.stamp.Stamp.{Stamp}
use Rattle.ec_civil.proofs.Stamps.{IsCivil, IsCivil-from_true, IsCivil-of_rank, IsRanked-civil, civil_rank-stamp_of_rank, is_civil-true, same_stamp, stamp_of_rank-civil_rank}

-- the text has one length, whatever the numbers are
pub length-stamp_text : (s : Stamp) → length (stamp_text s) ≡ TEXT_LENGTH
unfolding stamp_text
length-stamp_text s = refl

-- the numbers of a civil time are read back off its text
pub stamp_at-stamp_text : (s : Stamp) → IsCivil s → stamp_at (stamp_text s) ≡ s
unfolding stamp_at stamp_text
stamp_at-stamp_text s h =
    let year = h.day.year in
    let month = h.day.month in
    let day = h.day.day in
    let last = days_in_month_bounds (pos s.year) s.month in
    let hour = h.hour in
    let minute = h.minute in
    let second = h.second in
    same_stamp _ s (omega arith) (omega arith) (omega arith) (omega arith) (omega arith) (omega arith)

-- a byte above the blank can stand in a word, in front of what can
other : {P : Type 0} (b : ℕ) → 32 < b → P → IsWordByte b × P
other b high rest = ((omega arith, omega arith, omega arith, omega arith), rest)

-- and so can two digits
digits : {P : Type 0} (n : ℕ) → P → IsWordByte (48 + n / 10) × (IsWordByte (48 + n % 10) × P)
digits n rest = other (48 + n / 10) (omega arith) (other (48 + n % 10) (omega arith) rest)

-- all bytes of a text can
pub All-stamp_text : (s : Stamp) → All IsWordByte (stamp_text s)
unfolding stamp_text
All-stamp_text s =
    let dash : 32 < 45 = omega arith in
    let colon : 32 < 58 = omega arith in
    All-from_recursion IsWordByte (stamp_text s)
    (digits (s.year / 100) (digits (s.year % 100) (other 45 dash (digits s.month (other 45 dash (digits s.day
    (other 84 (omega arith) (digits s.hour (other 58 colon (digits s.minute (other 58 colon (digits s.second
    (other 90 (omega arith) tt)))))))))))))

-- bytes that are the text of the numbers at their places, which are those of a civil time, spell it
pub civil_value-spelt : (bytes : List ℕ) → is_civil (stamp_at bytes) ≡ true →
    bytes ≡ stamp_text (stamp_at bytes) → civil_value bytes ≡ Some (civil_rank (stamp_at bytes))
unfolding civil_value
civil_value-spelt bytes civil same =
    cond-true _ _ _ (and_from _ _ civil ((bytes_eq-Decides bytes _).1 same))

-- others spell none
pub civil_value-no_civil : (bytes : List ℕ) → is_civil (stamp_at bytes) ≡ false → civil_value bytes ≡ None
unfolding civil_value
civil_value-no_civil bytes e = cond-false _ _ _ (and_left _ _ e)

pub civil_value-no_text : (bytes : List ℕ) → (bytes ≡ stamp_text (stamp_at bytes) → ⊥) →
    civil_value bytes ≡ None
unfolding civil_value
civil_value-no_text bytes other =
    cond-false _ _ _ (and_right _ _ (false_from_ne_true _ (λ e. other ((bytes_eq-Decides bytes _).0 e))))

pub civil_value-other_length : (bytes : List ℕ) → (length bytes ≡ TEXT_LENGTH → ⊥) → civil_value bytes ≡ None
civil_value-other_length bytes other =
    civil_value-no_text bytes (λ same. other (ap length same ∙ length-stamp_text (stamp_at bytes)))

-- what spells a civil time, as facts
pub record Spells (bytes : List ℕ) (z : ℤ) : Type 0 where
  pub civil : IsCivil (stamp_at bytes)
  pub same : bytes ≡ stamp_text (stamp_at bytes)
  pub rank : z ≡ civil_rank (stamp_at bytes)

civil_value-Some : (bytes : List ℕ) (z : ℤ) → civil_value bytes ≡ Some z → Spells bytes z
civil_value-Some bytes z spelt =
    let s = stamp_at bytes in
    let is_text = bytes_eq-Decides bytes (stamp_text s) in
    ⊎_elim
    (λ (civil : is_civil s ≡ true).
    ⊎_elim
    (λ (e : bytes_eq bytes (stamp_text s) ≡ true).
    let same = is_text.0 e in
    let value = civil_value-spelt bytes civil same in
    record { civil = IsCivil-from_true s civil; same = same; rank = cc })
    (λ (e : bytes_eq bytes (stamp_text s) ≡ false).
    let none = civil_value-no_text bytes (λ same. false≢true (sym e ∙ is_text.1 same)) in absurd cc)
    (cases_Bool (bytes_eq bytes (stamp_text s))))
    (λ (e : is_civil s ≡ false). let none = civil_value-no_civil bytes e in absurd cc)
    (cases_Bool (is_civil s))

-- the text of a civil time spells it
civil_value-stamp_text : (s : Stamp) → IsCivil s → civil_value (stamp_text s) ≡ Some (civil_rank s)
civil_value-stamp_text s h =
    let back = stamp_at-stamp_text s h in
    let P : Stamp → Type 0 = λ t. is_civil t ≡ true in
    let civil = subst P (sym back) (is_civil-true s h) in
    civil_value-spelt (stamp_text s) civil (ap stamp_text (sym back)) ∙ ap (λ t. Some (civil_rank t)) back

-- the text of a rank in the range spells the civil time with that rank
pub civil_value-of_rank : (n : ℕ) → n ≤ MOST_CIVIL → civil_value (civil_text (pos n)) ≡ Some (pos n)
unfolding civil_text
civil_value-of_rank n few =
    civil_value-stamp_text (stamp_of_rank n) (IsCivil-of_rank n few) ∙ ap Some (civil_rank-stamp_of_rank n few)

pub civil_value-civil_text : (z : ℤ) → IsWithin (pos 0) (pos MOST_CIVIL) z → civil_value (civil_text z) ≡ Some z
civil_value-civil_text (pos n) inside = civil_value-of_rank n (grind (arith, ints))
civil_value-civil_text (negsuc n) inside = absurd (grind (arith, ints))

pub length-civil_text : (z : ℤ) → length (civil_text z) ≡ TEXT_LENGTH
unfolding civil_text
length-civil_text z = length-stamp_text _

pub All-civil_text : (z : ℤ) → All IsWordByte (civil_text z)
unfolding civil_text
All-civil_text z = All-stamp_text _

-- what spells a civil time is the text of its rank
pub civil_text-spelt : (bytes : List ℕ) (z : ℤ) → civil_value bytes ≡ Some z → bytes ≡ civil_text z
unfolding civil_text
civil_text-spelt bytes z spelt =
    let found = civil_value-Some bytes z spelt in
    let rank = (IsRanked-civil (stamp_at bytes) found.civil).rank in
    let back = stamp_of_rank-civil_rank (stamp_at bytes) _ found.civil rank in
    rw (found.rank ∙ rank) (found.same ∙ ap stamp_text (sym back))

-- and the rank is in the range
pub IsWithin-spelt : (bytes : List ℕ) (z : ℤ) → civil_value bytes ≡ Some z → IsWithin (pos 0) (pos MOST_CIVIL) z
IsWithin-spelt bytes z spelt =
    let found = civil_value-Some bytes z spelt in
    let ranked = IsRanked-civil (stamp_at bytes) found.civil in
    let few = ranked.few in
    let short = ranked.short in
    rw (found.rank ∙ ranked.rank) (omega (arith, signed_arith), omega (arith, signed_arith))

-- what the code finds for a rank is that text
pub civil_text-stamp : (n : ℕ) (s : Stamp) (text : List ℕ) → s ≡ stamp_of_rank n → text ≡ stamp_text s →
    text ≡ civil_text (pos n)
unfolding civil_text
civil_text-stamp n s text found written = written ∙ ap stamp_text found
