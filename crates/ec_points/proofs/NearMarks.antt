-- The marks before a time, counted by the few in which they end.
use Rattle.std.proofs.Common.{◌≡◌, ◌+◌, ◌-◌, ◌<◌, ◌≤◌, ℕ, ℤ, true, false, List, length, take, drop, get_or, inr, refl, ap, subst, ◌∙◌, ⊎_elim, length-drop, length-take, arith}
use Rattle.std.specs.Prelude.{◌==◌, int_lt}
use Rattle.std.proofs.lemmas.Bool.{cases_Bool, eqb-true}
use Rattle.std.proofs.lemmas.Option.{get_or_from_slice_get, slice_get_read}
use Rattle.ec_blocks.proofs.SearchLemmas.{IsPartitionPoint-from_edges, found-between}
use Rattle.ec_lists.proofs.Numbers.{eqb-apart}
use Rattle.ec_lists.proofs.Partitions.{length-partition}
use Rattle.ec_rows.specs.declared.mark.Mark.{Mark}
use Rattle.ec_rows.specs.Marks.{IsMarkRow, marks_before}
use Rattle.ec_rows.proofs.TimedLemmas.{IsPartitionedBy-before}

-- where the first of some marks from a place on are before t, and the next one is not, they are the last before t
pub count-in_run : {T : Type 0} (rank : T → ℤ) (t : ℤ) (marks run : List (Mark T)) (from count : ℕ) → IsMarkRow rank marks → run ≡ take (length run) (drop from marks) →
    1 ≤ count → count < length run → ((k : ℕ) (m : Mark T) → k < count → int_lt (rank (get_or run k m).at) t ≡ true) → ((m : Mark T) → int_lt (rank (get_or run count m).at) t ≡ false) →
    from + count ≡ length (marks_before rank t marks)
count-in_run rank t marks run from count row is some less front next =
    let fits : from + length run ≤ length marks = omega (arith, less, ap length is, length-take (length run) (drop from marks), length-drop from marks) in
    length-partition (λ m. int_lt (rank m.at) t) marks (from + count) (omega (arith, fits, less))
    (found-between (λ m. int_lt (rank m.at) t) marks run from (from + length run) count (omega arith) fits
    (is ∙ ap (λ n. take n (drop from marks)) (omega arith))
    (IsPartitionedBy-before rank (λ m. m.at) t marks row.ascending) (omega (arith, less))
    (λ parted. IsPartitionPoint-from_edges (λ m. int_lt (rank m.at) t) run count parted (λ m _. front (count - 1) m (omega (arith, some))) (λ m _. next m) (omega (arith, less)))
    (inr (omega (arith, some))) (inr (omega (arith, less))))

-- with the next mark, all marks so far are before t
pub before-next : {T : Type 0} (rank : T → ℤ) (t : ℤ) (run : List (Mark T)) (k : ℕ) (mark : Mark T) → k < length run → mark ≡ get_or run k mark → int_lt (rank mark.at) t ≡ true →
    ((j : ℕ) (m : Mark T) → j < k → int_lt (rank (get_or run j m).at) t ≡ true) → (j : ℕ) (m : Mark T) → j < k + 1 → int_lt (rank (get_or run j m).at) t ≡ true
before-next rank t run k mark within read here front j m less =
    ⊎_elim (λ e. subst (λ i. int_lt (rank (get_or run i m).at) t ≡ true) (eqb-true k j e)
    (ap (λ (other : Mark _). int_lt (rank other.at) t) (get_or_from_slice_get run k mark m (slice_get_read run (length run) k mark refl within read)) ∙ here))
    (λ e. let apart = eqb-apart k j e in front j m (omega (arith, apart, less)))
    (cases_Bool (k == j))
