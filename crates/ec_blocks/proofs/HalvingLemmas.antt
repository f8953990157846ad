-- A search that halves what is left: numbers in front that are up to one, and numbers behind that are beyond it.
use Rattle.std.proofs.Common.{◌≡◌, ℕ, ◌+◌, ◌-◌, ◌<◌, ◌≤◌, ◌⊎◌, inl, inr, ⊎_elim, Bool, true, false, if◌then◌else◌, List, length, get_or, refl, ap, arith}
use Rattle.std.specs.Prelude.{nat_le, nat_lt}
use Rattle.std.specs.List.Sorted.{IsNonDecreasingBy, IsPartitionPoint}
use Rattle.std.proofs.lemmas.Bool.{ltb-true, leb-true, leb-false, le-leb, lt-leb}
use Rattle.std.proofs.lemmas.List.{get_or_default}

-- between the two there are some numbers that have not been looked at
pub record Bracketed (ns : List ℕ) (i low size : ℕ) : Type 0 where
  pub within : low + size < length ns
  pub before : (k : ℕ) → k < low → get_or ns k 0 ≤ i
  pub behind : (k : ℕ) → low + size ≤ k → k < length ns → i < get_or ns k 0

-- one of two places within a list
pub one-within : (n high end chosen : ℕ) (test : Bool) → high < n → end < n → chosen ≡ (if test then high else end) → chosen < n
one-within n high end chosen true high_in end_in same = omega (arith, same)
one-within n high end chosen false high_in end_in same = omega (arith, same)

-- one of two places, as the number at the first tells
pub bracketed-end : (ns : List ℕ) (i high end chosen n : ℕ) (test : Bool) → nat_lt i n ≡ test → end + 1 ≡ length ns → n ≡ get_or ns high 0 → chosen ≡ (if test then high else end) →
    (chosen + 1 ≡ length ns) ⊎ (i < get_or ns chosen 0)
bracketed-end ns i high end chosen n true less last is same = inr (omega (arith, ltb-true i n less, is, ap (λ k. get_or ns k 0) same))
bracketed-end ns i high end chosen n false more last is same = inl (omega (arith, same, last))

module _ (ns : List ℕ) (i : ℕ) (rise : IsNonDecreasingBy (λ n. n) ns) where
  -- what stands between two places, as the numbers there tell and the last one
  pub bracketed-between : (low high last : ℕ) → low ≤ high → high < length ns → last + 1 ≡ length ns → i < get_or ns last 0 →
      (low ≡ 0) ⊎ (get_or ns low 0 ≤ i) → (high + 1 ≡ length ns) ⊎ (i < get_or ns high 0) → Bracketed ns i low (high - low)
  bracketed-between low high last ordered within end beyond front behind = record {
    within = omega arith;
    before = λ k less. ⊎_elim (λ none. absurd (omega arith)) (λ le. omega (arith, le, rise k low 0 (omega arith) (omega arith))) front;
    behind = λ k ge inside. ⊎_elim (λ at_end. omega (arith, beyond, rise last k 0 (omega arith) inside))
        (λ more. omega (arith, more, rise high k 0 (omega arith) inside)) behind;
  }

  -- all, where the last is up to the one
  pub bracketed-none : (count last n : ℕ) → count ≡ length ns → last + 1 ≡ count → n ≡ get_or ns last 0 → n ≤ i →
      IsPartitionPoint (λ m. nat_le m i ≡ true) (λ m. nat_le m i ≡ false) ns count
  bracketed-none count last n same end is le = (
    λ k d _ less. le-leb _ i (omega (arith, get_or_default ns k d 0 (omega arith), rise k last 0 (omega arith) (omega arith))),
    λ k d ge inside. absurd (omega arith),
  )

  -- and one number that was not looked at
  pub bracketed-cut : (low size n : ℕ) → Bracketed ns i low size → size ≤ 1 → n ≡ get_or ns low 0 →
      IsPartitionPoint (λ m. nat_le m i ≡ true) (λ m. nat_le m i ≡ false) ns (if nat_le n i then low + 1 else low)
  bracketed-cut low size n found few is = cuts (nat_le n i) refl
    where
      at : (k d : ℕ) → k < length ns → get_or ns k d ≡ get_or ns k 0
      at k d inside = get_or_default ns k d 0 inside

      cuts : (test : Bool) → nat_le n i ≡ test → IsPartitionPoint (λ m. nat_le m i ≡ true) (λ m. nat_le m i ≡ false) ns (if test then low + 1 else low)
      cuts true passes = (
        λ k d _ less. le-leb _ i (let within = found.within in omega (arith, at k d (omega arith), leb-true n i passes, rise k low 0 (omega arith) (omega arith))),
        λ k d ge inside. lt-leb _ i (omega (arith, at k d inside, found.behind k (omega arith) inside)),
      )
      cuts false fails = (
        λ k d _ less. le-leb _ i (let within = found.within in omega (arith, at k d (omega arith), found.before k less)),
        λ k d ge inside. lt-leb _ i (omega (arith, at k d inside, leb-false n i fails, rise low k 0 ge inside)),
      )
