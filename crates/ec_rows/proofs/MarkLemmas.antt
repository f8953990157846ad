-- Rows of marks: the empty one, and what edits leave.
use Rattle.std.proofs.Common.{◌≡◌, ℕ, ◌+◌, ◌<◌, ℤ, List, [], ◌∷◌, ◌++◌, true, refl, sym, subst, ◌∙◌, length, take, drop, set, add-one}
use Rattle.std.specs.List.{insert, remove}
use Rattle.std.proofs.lemmas.List.Folds.{list_all-append}
use Rattle.ec_rows.specs.declared.mark.Mark.{Mark}
use Rattle.ec_rows.specs.Ordered.{is_ascending, members_before, members_after}
use Rattle.ec_rows.specs.Marks.{IsMarkRow, is_counted, mark_before, are_before, with_mark}
use Rattle.ec_rows.proofs.OrderedLemmas.{is_ascending-remove, is_ascending-append_one, list_all-with_member, is_ascending-with_member, with_member-at, with_member-free}
use Rattle.ec_rows.proofs.TimedLemmas.{IsOrder-by_time}
use Rattle.ec_lists.proofs.Tests.{list_all-remove}

module _ {T : Type 0} (rank : T → ℤ) where
  -- no marks
  pub IsMarkRow-nil : (marks : List (Mark T)) → marks ≡ [] → IsMarkRow rank marks
  unfolding is_ascending
  IsMarkRow-nil marks empty = subst (IsMarkRow rank) (sym empty) (record { ascending = refl; counted = refl })

  -- one mark more
  pub IsMarkRow-with_mark : (mark : Mark T) (marks new : List (Mark T)) → is_counted mark ≡ true → IsMarkRow rank marks → new ≡ with_mark rank mark marks →
      IsMarkRow rank new
  IsMarkRow-with_mark mark marks new counted row is = subst (IsMarkRow rank) (sym is) (record {
    ascending = is_ascending-with_member (mark_before rank) (IsOrder-by_time rank (λ (m : Mark T). m.at)) mark marks row.ascending;
    counted = list_all-with_member (mark_before rank) is_counted mark marks counted row.counted;
  })

  -- one mark more, behind all others
  pub IsMarkRow-push : (mark : Mark T) (marks new : List (Mark T)) → is_counted mark ≡ true → are_before rank marks mark ≡ true → IsMarkRow rank marks →
      new ≡ marks ++ mark ∷ [] → IsMarkRow rank new
  IsMarkRow-push mark marks new counted last row is = subst (IsMarkRow rank) (sym is) (record {
    ascending = is_ascending-append_one (mark_before rank) marks mark row.ascending last;
    counted = list_all-append is_counted marks (mark ∷ []) ∙ rw (row.counted, counted);
  })

  -- one mark less
  pub IsMarkRow-remove : (marks new : List (Mark T)) (i : ℕ) → IsMarkRow rank marks → new ≡ remove marks i → IsMarkRow rank new
  IsMarkRow-remove marks new i row is = subst (IsMarkRow rank) (sym is) (record {
    ascending = is_ascending-remove (mark_before rank) marks i row.ascending;
    counted = list_all-remove is_counted marks i row.counted;
  })

  -- a mark over the one that was at its time, as a search of the same marks finds it
  pub with_mark-at : (mark : Mark T) (marks searched : List (Mark T)) (i : ℕ) → searched ≡ marks → i < length searched →
      take i searched ≡ members_before rank (λ (m : Mark T). m.at) (rank mark.at) searched →
      drop (i + 1) searched ≡ members_after rank (λ (m : Mark T). m.at) (rank mark.at) searched → set marks i mark ≡ with_mark rank mark marks
  with_mark-at mark marks searched i is within before after =
      subst (λ xs. set xs i mark ≡ with_mark rank mark xs) is (with_member-at (mark_before rank) mark searched i within before (rw (← add-one) after))

  -- a mark where none was
  pub with_mark-free : (mark : Mark T) (marks searched : List (Mark T)) (i : ℕ) → searched ≡ marks →
      take i searched ≡ members_before rank (λ (m : Mark T). m.at) (rank mark.at) searched →
      drop i searched ≡ members_after rank (λ (m : Mark T). m.at) (rank mark.at) searched → insert marks i mark ≡ with_mark rank mark marks
  with_mark-free mark marks searched i is before after =
      subst (λ xs. insert xs i mark ≡ with_mark rank mark xs) is (with_member-free (mark_before rank) mark searched i before after)
