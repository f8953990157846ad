-- A word with one bit set or taken out.
use Rattle.std.proofs.Common.{◌≡◌, ℕ, ◌*◌, ◌%◌, ◌^◌, ◌<◌, ◌≤◌, true, false, cond, min, bit_and, bit_or, w64, ◌⊎◌, sym, ap, ◌∙◌, ⊎_elim, arith}
use Rattle.std.specs.Prelude.{◌==◌}
use Rattle.std.specs.Int.{bit_at, bit_not}
use Rattle.std.proofs.lemmas.Bool.{cases_Bool, cond-true, cond-false, eqb-true}
use Rattle.std.proofs.lemmas.Nat.Bits.{bit_at_and, bit_at_above, bit_at_clear_other, bit_at_clear_same, bit_at_set_other, bit_at_set_same}
use Rattle.ec_lists.proofs.Numbers.{eqb-apart}
use Rattle.ec_parts.specs.Activity.{is_bit_set}

-- a bit is set, and the others stay
pub is_bit_set-set : (n k : ℕ) → k < 64 → (i : ℕ) → is_bit_set (bit_or n (1 * 2 ^ k % 2 ^ 64)) i ≡ cond (k == i) true (is_bit_set n i)
is_bit_set-set n k within i =
    ⊎_elim
    (λ same.
    ap (is_bit_set (bit_or n (1 * 2 ^ k % 2 ^ 64))) (sym (eqb-true k i same)) ∙ ap (λ b. b == 1) (bit_at_set_same w64 n k within) ∙ sym (cond-true (k == i) true (is_bit_set n i) same))
    (λ apart. ap (λ b. b == 1) (bit_at_set_other w64 n k within i (eqb-apart k i apart)) ∙ sym (cond-false (k == i) true (is_bit_set n i) apart))
    (cases_Bool (k == i))

-- a bit is taken out, and the others stay
pub is_bit_set-clear : (n k : ℕ) → n < 2 ^ 64 → k < 64 → (i : ℕ) → is_bit_set (bit_and n (bit_not w64 (1 * 2 ^ k % 2 ^ 64))) i ≡ cond (k == i) false (is_bit_set n i)
is_bit_set-clear n k range within i =
    ⊎_elim
    (λ same.
    ap (is_bit_set (bit_and n (bit_not w64 (1 * 2 ^ k % 2 ^ 64)))) (sym (eqb-true k i same)) ∙ ap (λ b. b == 1) (bit_at_clear_same w64 n k within)
    ∙ sym (cond-true (k == i) false (is_bit_set n i) same))
    (λ apart. ap (λ b. b == 1) (others apart) ∙ sym (cond-false (k == i) false (is_bit_set n i) apart))
    (cases_Bool (k == i))
  where
    halves : (i : ℕ) → (i < 64) ⊎ (64 ≤ i)
    halves i = grind arith

    others : (k == i) ≡ false → bit_at (bit_and n (bit_not w64 (1 * 2 ^ k % 2 ^ 64))) i ≡ bit_at n i
    others apart =
        ⊎_elim
        (λ low. bit_at_clear_other w64 n k within i low (eqb-apart k i apart))
        (λ high.
        let none = bit_at_above n 64 i range high in
        bit_at_and n (bit_not w64 (1 * 2 ^ k % 2 ^ 64)) i ∙ ap (λ b. min b (bit_at (bit_not w64 (1 * 2 ^ k % 2 ^ 64)) i)) none ∙ omega arith ∙ sym none)
        (halves i)
