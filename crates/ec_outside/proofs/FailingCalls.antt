-- How many failing numbers are those of calls made so far, as one more call is made.
use Rattle.std.proofs.Common.{◌≡◌, ℕ, ◌+◌, ◌<◌, ◌≤◌, Bool, true, false, cond, ◌==◌, nat_le, List, [], ◌∷◌, length, filter, refl, arith, ◌||◌}
use Rattle.std.specs.List.{list_any}
use Rattle.std.proofs.lemmas.List.Sums.{length-filter, count_by-le-length}
use Rattle.std.proofs.lemmas.Bool.Decides.{nat_tests}
use Rattle.ec_lists.proofs.Filters.{length-filter_wider}
use Rattle.ec_outside.specs.Calls.{Calls, IsWithin, next_fails, one_more}
use Rattle.ec_outside.specs.Counts.{last_count, next_count}

-- a number counts where it is not above the bound
abbrev counted_once : ℕ → ℕ → ℕ
counted_once bound number = cond (nat_le number bound) 1 0

counted_once-≤ : (low high number : ℕ) → low ≤ high → counted_once low number ≤ counted_once high number
counted_once-≤ low high number up = grind (arith, nat_tests)

counted_once-at : (bound number : ℕ) → (number == bound + 1) ≡ true → counted_once bound number + 1 ≤ counted_once (bound + 1) number
counted_once-at bound number here = grind (arith, nat_tests)

filter-cons : (bound number : ℕ) (failing : List ℕ)
    → length (filter (λ n. nat_le n bound) (number ∷ failing)) ≡ counted_once bound number + length (filter (λ n. nat_le n bound) failing)
filter-cons bound number failing =
    elim (nat_le number bound) as (λ (b : Bool). length (cond b (number ∷ filter (λ n. nat_le n bound) failing) (filter (λ n. nat_le n bound) failing))
    ≡ cond b 1 0 + length (filter (λ n. nat_le n bound) failing)) [ true ↦ omega arith | false ↦ omega arith ]

-- at a higher bound there are as many at least
pub filter-≤ : (failing : List ℕ) (low high : ℕ) → low ≤ high
    → length (filter (λ n. nat_le n low) failing) ≤ length (filter (λ n. nat_le n high) failing)
filter-≤ failing low high up = length-filter_wider (λ n. nat_le n low) (λ n. nat_le n high) (λ n within. grind (arith, nat_tests)) failing

-- the next number is one more, where it is among them
pub filter-next : (failing : List ℕ) (made : ℕ) → list_any (λ number. number == made + 1) failing ≡ true
    → length (filter (λ n. nat_le n made) failing) + 1 ≤ length (filter (λ n. nat_le n (made + 1)) failing)
filter-next [] made found = absurd (cc)
filter-next (number ∷ failing) made found =
    let now = filter-cons made number failing in
    let then = filter-cons (made + 1) number failing in
    elim (number == made + 1) as (λ (b : Bool). (number == made + 1) ≡ b → (b || list_any (λ n. n == made + 1) failing) ≡ true
    → length (filter (λ n. nat_le n made) (number ∷ failing)) + 1 ≤ length (filter (λ n. nat_le n (made + 1)) (number ∷ failing))) [
      | true ↦ λ here _. omega (arith, now, then, counted_once-at made number here, filter-≤ failing made (made + 1) (omega arith))
      | false ↦ λ _ later. omega (arith, now, then, counted_once-≤ made (made + 1) number (omega arith), filter-next failing made later)
    ] refl found

-- no count stands at its last value
pub IsWithin-< : {calls : Calls} {faults : ℕ} → IsWithin calls faults → faults < last_count
IsWithin-< {calls} within =
    omega (arith, within.counted, within.numbers, length-filter (λ n. nat_le n calls.made) calls.failing, count_by-le-length (λ n. nat_le n calls.made) calls.failing)

-- one more call keeps the counts within what they can be
pub IsWithin-one_more : {calls : Calls} {faults : ℕ} → IsWithin calls faults → IsWithin (one_more calls) faults
IsWithin-one_more {calls} within = record {
  made = omega (arith, within.made);
  counted = omega (arith, within.counted, filter-≤ calls.failing calls.made (next_count calls.made) (omega (arith, within.made)));
  numbers = within.numbers;
}

-- and so does one more call that fails and is counted
pub IsWithin-fails : {calls : Calls} {faults : ℕ} → next_fails calls ≡ true → calls.made < last_count
    → IsWithin calls faults → IsWithin (one_more calls) (next_count faults)
IsWithin-fails {calls} fails numbered within =
    let one : next_count calls.made ≡ calls.made + 1 = omega arith in
    record {
      made = omega arith;
      counted = rw one (omega (arith, within.counted, filter-next calls.failing calls.made fails));
      numbers = within.numbers;
    }
