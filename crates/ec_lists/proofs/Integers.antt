-- The order of whole numbers, by its tests.
use Rattle.std.proofs.Common.{◌≡◌, ◌⊎◌, ℕ, zero, suc, ℤ, pos, negsuc, ◌+ℤ◌, ◌-ℤ◌, ◌≤ℤ◌, ◌<ℤ◌, true, false, not, ◌&&◌, refl, subst, arith}
use Rattle.std.specs.Prelude.{int_lt, int_le}
use Rattle.std.specs.Ordering.{int_eq}
use Rattle.std.proofs.lemmas.Int.{ints}
use Rattle.std.proofs.lemmas.Bool.Decides.{Decides-int_eq}

-- ---- before, and the same

-- no number is before itself
pub int_lt-same : (s : ℤ) → int_lt s s ≡ false
int_lt-same s = grind (arith, ints)

-- the test says what the order says
pub int_lt-is : (s t : ℤ) → int_lt s t ≡ true → s <ℤ t
int_lt-is s t before = grind (arith, ints)

-- and passes where the order says so
pub int_lt-from : (s t : ℤ) → s <ℤ t → int_lt s t ≡ true
int_lt-from s t before = grind (arith, ints)

-- before what is before is before
pub int_lt-trans : (r s t : ℤ) → int_lt r s ≡ true → int_lt s t ≡ true → int_lt r t ≡ true
int_lt-trans r s t before after = grind (arith, ints)

-- what is before is not after
pub int_lt-not_after : (s t : ℤ) → int_lt s t ≡ true → int_lt t s ≡ false
int_lt-not_after s t before = grind (arith, ints)

-- the test of the same number passes the same number alone
pub int_eq-is : (s t : ℤ) → int_eq s t ≡ true → s ≡ t
int_eq-is s t same = (Decides-int_eq s t).0 same

-- and it passes that number
pub int_eq-same : (s : ℤ) → int_eq s s ≡ true
int_eq-same s = (Decides-int_eq s s).1 refl

-- two numbers are the same, or one is before the other
pub cases_int : (s t : ℤ) → (s ≡ t) ⊎ ((int_lt s t ≡ true) ⊎ (int_lt t s ≡ true))
cases_int s t = grind (arith, ints)

-- what is the same is not before
pub int_eq-not_lt : (s t : ℤ) → int_eq s t ≡ true → int_lt t s ≡ false
int_eq-not_lt s t same = grind (arith, ints)

-- two numbers are the same where neither is before the other
pub int_eq-neither : (s t : ℤ) → int_eq s t ≡ (not (int_lt s t) && not (int_lt t s))
int_eq-neither s t = grind (arith, ints)

-- what is not before and another is behind
pub int_lt-from_neither : (s t : ℤ) → int_lt s t ≡ false → int_eq s t ≡ false → int_lt t s ≡ true
int_lt-from_neither s t before same = grind (arith, ints)

-- what is not before t has t before all that is behind it
pub int_lt-behind : (r s t : ℤ) → int_lt r s ≡ true → int_lt r t ≡ false → int_lt t s ≡ true
int_lt-behind r s t before behind = grind (arith, ints)

-- ---- not after

-- the test says what the order says
pub int_le-is : (s t : ℤ) → int_le s t ≡ true → s ≤ℤ t
int_le-is s t within = grind (arith, ints)

-- and passes where the order says so
pub int_le-from : (s t : ℤ) → s ≤ℤ t → int_le s t ≡ true
int_le-from s t within = grind (arith, ints)

-- a number is not after itself
pub int_le-same : (s : ℤ) → int_le s s ≡ true
int_le-same s = grind (arith, ints)

-- not to be after is not to have the other before
pub int_le-not_lt : (s t : ℤ) → int_le s t ≡ not (int_lt t s)
int_le-not_lt s t = grind (arith, ints)

-- to be before is not to have the other at or before
pub int_lt-not_le : (s t : ℤ) → int_lt s t ≡ not (int_le t s)
int_lt-not_le s t = grind (arith, ints)

-- what is before is not after
pub int_le-from_lt : (s t : ℤ) → int_lt s t ≡ true → int_le s t ≡ true
int_le-from_lt s t before = grind (arith, ints)

-- what is not after and another is before
pub int_lt-from_le : (s t : ℤ) → int_le s t ≡ true → int_eq s t ≡ false → int_lt s t ≡ true
int_lt-from_le s t within different = grind (arith, ints)

-- what is not after is the same or before
pub cases_int_le : (s t : ℤ) → int_le s t ≡ true → (s ≡ t) ⊎ (int_lt s t ≡ true)
cases_int_le s t within = grind (arith, ints)

-- what comes no later than what comes no later
pub int_le-trans : (r s t : ℤ) → int_le r s ≡ true → int_le s t ≡ true → int_le r t ≡ true
int_le-trans r s t = grind (arith, ints)

-- an earlier time is another
pub int_eq-from_lt : (s t : ℤ) → int_lt s t ≡ true → int_eq s t ≡ false
int_eq-from_lt s t = grind (arith, ints)

-- and so is a later one
pub int_eq-from_gt : (s t : ℤ) → int_lt t s ≡ true → int_eq s t ≡ false
int_eq-from_gt s t = grind (arith, ints)

-- not after what is before is before
pub int_le_lt-trans : (r s t : ℤ) → int_le r s ≡ true → int_lt s t ≡ true → int_lt r t ≡ true
int_le_lt-trans r s t within before = grind (arith, ints)

-- before what is not after is before
pub int_lt_le-trans : (r s t : ℤ) → int_lt r s ≡ true → int_le s t ≡ true → int_lt r t ≡ true
int_lt_le-trans r s t before within = grind (arith, ints)

-- what is before is not reached
pub int_le-not_before : (s t : ℤ) → int_lt s t ≡ true → int_le t s ≡ false
int_le-not_before s t before = grind (arith, ints)

-- and what is reached is not before
pub int_lt-from_le_turned : (s t : ℤ) → int_le s t ≡ true → int_lt t s ≡ false
int_lt-from_le_turned s t within = grind (arith, ints)

-- ---- the next whole number

-- it is behind
pub int_lt-next : (t : ℤ) → int_lt t (t +ℤ pos 1) ≡ true
int_lt-next t = grind (arith, ints)

-- nothing lies between
pub int_le-next : (s t : ℤ) → int_lt s t ≡ true → int_le (s +ℤ pos 1) t ≡ true
int_le-next s t before = grind (arith, ints)

-- what is before it is this number or before it
pub cases_next : (s t : ℤ) → int_lt s (t +ℤ pos 1) ≡ true → (s ≡ t) ⊎ (int_lt s t ≡ true)
cases_next s t before = grind (arith, ints)

-- a number that comes not before another is so many steps behind it
steps_from : (s t : ℤ) → int_le s t ≡ true → (n : ℕ) × (t ≡ s +ℤ pos n)
steps_from s t within = by_distance (t -ℤ s) refl
  where
    by_distance : (d : ℤ) → t -ℤ s ≡ d → (n : ℕ) × (t ≡ s +ℤ pos n)
    by_distance (pos n) distance = (n, omega (arith, ints))
    by_distance (negsuc n) distance = absurd (grind (arith, ints))

-- what holds at the first number of a stretch, and with each number before the last also at the next, holds at each
pub each_of_stretch : (P : ℤ → Type 0) (a b : ℤ) → P a → ((t : ℤ) → int_le a t ≡ true → int_lt t b ≡ true → P t → P (t +ℤ pos 1))
    → (t : ℤ) → int_le a t ≡ true → int_le t b ≡ true → P t
each_of_stretch P a b first next t from_a to_b = let steps = steps_from a t from_a in after steps.0 t steps.1 to_b
  where
    after : (n : ℕ) (u : ℤ) → u ≡ a +ℤ pos n → int_le u b ≡ true → P u
    after zero u here within = let same : a ≡ u = omega (arith, ints) in subst P same first
    after (suc n) u here within =
        let before = a +ℤ pos n in
        let same : before +ℤ pos 1 ≡ u = omega (arith, ints) in
        subst P same (next before (grind (arith, ints)) (grind (arith, ints)) (after n before refl (grind (arith, ints))))
