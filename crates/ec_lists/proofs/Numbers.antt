-- Tests of natural numbers and of bytes. What the tests say stands in std.
use Rattle.std.proofs.Common.{◌≡◌, ◌≢◌, ℕ, true, false, ◌==◌, List, sym, ◌∙◌, arith}
use Rattle.std.specs.Prelude.{bytes_eq, nat_lt}
use Rattle.std.proofs.lemmas.Bool.Decides.{same_from_decides, nat_tests}
use Rattle.std.proofs.lemmas.Slice.Eq.{bytes_eq-Decides}

-- a number is itself
pub eqb-same : (n : ℕ) → (n == n) ≡ true
eqb-same n = grind arith

-- the test of two numbers goes both ways
pub eqb_comm : (m n : ℕ) → (m == n) ≡ (n == m)
eqb_comm m n = grind (arith, nat_tests)

-- numbers that the test tells apart differ, seen from the second
pub eqb-apart : (m n : ℕ) → (m == n) ≡ false → n ≢ m
eqb-apart m n other same = grind (arith, nat_tests)

-- a number that is not above 0 is 0
pub zero-from_not_lt : (n : ℕ) → nat_lt 0 n ≡ false → n ≡ 0
zero-from_not_lt n none = grind (arith, nat_tests)

-- the test of two texts goes both ways
pub bytes_eq_comm : (xs ys : List ℕ) → bytes_eq xs ys ≡ bytes_eq ys xs
bytes_eq_comm xs ys =
    same_from_decides (bytes_eq xs ys) (bytes_eq ys xs) (bytes_eq-Decides xs ys)
    ((λ same. sym ((bytes_eq-Decides ys xs).0 same)), (λ same. (bytes_eq-Decides ys xs).1 (sym same)))

-- numbers, and texts, that the test tells apart are told apart the other way too
pub eqb-turned : (m n : ℕ) → (m == n) ≡ false → (n == m) ≡ false
eqb-turned m n other = eqb_comm n m ∙ other

pub bytes_eq-turned : (xs ys : List ℕ) → bytes_eq xs ys ≡ false → bytes_eq ys xs ≡ false
bytes_eq-turned xs ys other = bytes_eq_comm ys xs ∙ other
