-- A row of marks with one mark put into it agrees with itself before and behind that mark.
use Rattle.std.proofs.Common.{◌≡◌, ℤ, Bool, true, cond, not, List, ◌∷◌, ◌++◌, filter, ap, ap₂, ◌∙◌, arith}
use Rattle.std.specs.Prelude.{int_lt}
use Rattle.std.proofs.lemmas.Int.{ints}
use Rattle.std.proofs.lemmas.List.{append-nil}
use Rattle.std.proofs.lemmas.List.Elements.{filter-append}
use Rattle.ec_axioms.proofs.Ranks.{int_lt-same}
use Rattle.ec_rows.specs.Marks.{marks_before, marks_after, with_mark}
use Rattle.ec_rows.specs.declared.mark.Mark.{Mark}
use Rattle.ec_lists.proofs.Filters.{filter-none, filter-all, list_all-kept}
use Rattle.ec_lists.proofs.Tests.{list_any-none, list_all-weaker}

module _ {T : Type 0} (rank : T → ℤ) (mark : Mark T) (marks : List (Mark T)) where
  before : Mark T → Bool
  before m = int_lt (rank m.at) (rank mark.at)

  behind : Mark T → Bool
  behind m = int_lt (rank mark.at) (rank m.at)

  not_both : (x y : ℤ) → int_lt x y ≡ true → not (int_lt y x) ≡ true
  not_both x y is = grind (arith, ints)

  pub before-with_mark : marks_before rank (rank mark.at) (with_mark rank mark marks) ≡ marks_before rank (rank mark.at) marks
  unfolding before behind
  before-with_mark =
      filter-append before (filter before marks) (mark ∷ filter behind marks)
      ∙ ap₂ (λ xs ys. xs ++ ys) (filter-all before (filter before marks) (list_all-kept before marks))
      (ap (λ b. cond b (mark ∷ filter before (filter behind marks)) (filter before (filter behind marks))) (int_lt-same (rank mark.at))
      ∙ filter-none before (filter behind marks) (list_any-none before (filter behind marks) (list_all-weaker behind (λ m. not (before m)) (λ m. not_both (rank mark.at) (rank m.at)) (filter behind marks) (list_all-kept behind marks))))
      ∙ append-nil (filter before marks)

  pub behind-with_mark : marks_after rank (rank mark.at) (with_mark rank mark marks) ≡ marks_after rank (rank mark.at) marks
  unfolding before behind
  behind-with_mark =
      filter-append behind (filter before marks) (mark ∷ filter behind marks)
      ∙ ap₂ (λ xs ys. xs ++ ys)
      (filter-none behind (filter before marks) (list_any-none behind (filter before marks) (list_all-weaker before (λ m. not (behind m)) (λ m. not_both (rank m.at) (rank mark.at)) (filter before marks) (list_all-kept before marks))))
      (ap (λ b. cond b (mark ∷ filter behind (filter behind marks)) (filter behind (filter behind marks))) (int_lt-same (rank mark.at))
      ∙ filter-all behind (filter behind marks) (list_all-kept behind marks))
