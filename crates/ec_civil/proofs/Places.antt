-- Where one comes to in a row of parts: in the part that it is, with nothing lost.
use Rattle.std.proofs.Common.{◌≡◌, ℕ, zero, suc, ◌+◌, ◌-◌, ◌<◌, ◌≤◌, true, false, nat_lt, sym, arith, ⊎_elim, refl, subst}
use Rattle.std.proofs.lemmas.Bool.{cases_Bool, cond-true, cond-false}
use Rattle.std.proofs.lemmas.Bool.Decides.{nat_tests}
use Rattle.ec_civil.specs.Civil.{Place, place_of}

-- a place in one of the parts from `first` to `most` behind it, with `count` in all before the place,
-- where `before` tells what lies before each part
pub record IsPlace (size before : ℕ → ℕ) (first most count : ℕ) (p : Place) : Type 0 where
  pub low : first ≤ p.number
  pub high : p.number ≤ first + most
  pub same : before p.number + p.rest ≡ count
  pub within : p.rest < size p.number

-- each part from `first` on begins where the one before it ends
abbrev pub FollowsFrom : (size before : ℕ → ℕ) → ℕ → Type 0
FollowsFrom size before first = (n : ℕ) → first ≤ n → before (n + 1) ≡ before n + size n

-- one part further
later_place : (size before : ℕ → ℕ) (first most count more : ℕ) (p : Place) → more ≡ count →
    IsPlace size before (first + 1) most more p → IsPlace size before first (suc most) count p
later_place size before first most count more p e h =
    record { low = omega arith; high = omega arith; same = omega arith; within = h.within }

-- the place that is found is there, where what is looked for lies before the end of the last part
pub place_of-is : (size before : ℕ → ℕ) (most first rest : ℕ) → FollowsFrom size before first →
    before first + rest < before (first + most + 1) →
    IsPlace size before first most (before first + rest) (place_of size most first rest)
unfolding place_of
place_of-is size before zero first rest follows less =
    let e : first + 0 + 1 ≡ first + 1 = omega arith in
    let here = follows first (omega arith) in
    let short = rw e at less in
    record { low = omega arith; high = omega arith; same = refl; within = omega arith }
place_of-is size before (suc most) first rest follows less =
    let here = follows first (omega arith) in
    let e : first + suc most + 1 ≡ first + 1 + most + 1 = omega arith in
    let short = rw e at less in
    let P : Place → Type 0 = λ p. IsPlace size before first (suc most) (before first + rest) p in
    ⊎_elim
    (λ (lt : nat_lt rest (size first) ≡ true).
    let inside : rest < size first = grind (arith, nat_tests) in
    let found : P (record { number = first; rest = rest }) =
    record { low = omega arith; high = omega arith; same = refl; within = inside } in
    subst P (sym (cond-true _ _ _ lt)) found)
    (λ (ge : nat_lt rest (size first) ≡ false).
    let past : size first ≤ rest = grind (arith, nat_tests) in
    let later : FollowsFrom size before (first + 1) = λ n low. follows n (omega arith) in
    let found = place_of-is size before most (first + 1) (rest - size first) later (omega arith) in
    subst P (sym (cond-false _ _ _ ge)) (later_place size before first most _ _ _ (omega arith) found))
    (cases_Bool (nat_lt rest (size first)))
