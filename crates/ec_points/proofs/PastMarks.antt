-- What is known of a row and of its currency from the marks before a time.
use Rattle.std.proofs.Common.{◌≡◌, ℤ, true, false, cond, ◌&&◌, List, None, sym, ap, ◌∙◌, ⊎_elim}
use Rattle.std.specs.Prelude.{int_le, int_lt}
use Rattle.std.specs.List.{last_or}
use Rattle.std.specs.Ordering.{int_eq}
use Rattle.std.proofs.lemmas.Bool.{cases_Bool}
use Rattle.ec_lists.proofs.Filters.{filter-filter_wider}
use Rattle.ec_lists.proofs.Finds.{find-filter, find_agree}
use Rattle.ec_lists.proofs.Integers.{int_lt_le-trans}
use Rattle.ec_axioms.specs.Marks.{last_mark_before}
use Rattle.ec_rows.specs.declared.mark.Mark.{Mark}
use Rattle.ec_rows.specs.Marks.{IsMarkRow, mark_at, mark_before, marks_before}
use Rattle.ec_rows.specs.PlainMarks.{plain_marks}
use Rattle.ec_rows.proofs.KnownByTimes.{by_time-ext}
use Rattle.ec_rows.proofs.OrderedLemmas.{is_ascending-filter}
use Rattle.ec_points.proofs.LastMarks.{before-plain}
use Rattle.ec_points.proofs.MadeChanges.{find-never, before-all_same, before-none_later}

module _ {T : Type 0} (rank : T → ℤ) where
  -- the marks before u are among those before t, where u is not after t
  marks_before-past : (t u : ℤ) (marks : List (Mark T)) → int_le u t ≡ true → marks_before rank u (marks_before rank t marks) ≡ marks_before rank u marks
  marks_before-past t u marks past =
      filter-filter_wider (λ (m : Mark T). int_lt (rank m.at) u) (λ m. int_lt (rank m.at) t) marks (λ m e. int_lt_le-trans (rank m.at) u t e past)

  -- so the last of them is the same
  pub last_mark-past : (t u : ℤ) (marks others : List (Mark T)) → marks_before rank t marks ≡ marks_before rank t others → int_le u t ≡ true →
      last_mark_before (plain_marks rank marks) u ≡ last_mark_before (plain_marks rank others) u
  last_mark-past t u marks others same past =
      let before : marks_before rank u marks ≡ marks_before rank u others =
      sym (marks_before-past t u marks past) ∙ ap (marks_before rank u) same ∙ marks_before-past t u others past in
      ap (last_or None) (before-plain rank u marks ∙ ap (λ ms. plain_marks rank ms) before ∙ sym (before-plain rank u others))

  -- the mark at u among those before t
  mark_at-before : (t u : ℤ) (marks : List (Mark T)) → mark_at rank u (marks_before rank t marks) ≡ cond (int_lt u t) (mark_at rank u marks) None
  mark_at-before t u marks =
      find-filter (λ (m : Mark T). int_eq (rank m.at) u) (λ m. int_lt (rank m.at) t) marks
      ∙ ⊎_elim
      (λ here. find_agree (λ (m : Mark T). int_lt (rank m.at) t && int_eq (rank m.at) u) (λ m. int_eq (rank m.at) u) (λ m. before-all_same (rank m.at) t u here) marks
      ∙ sym (ap (λ b. cond b (mark_at rank u marks) None) here))
      (λ later. find_agree (λ (m : Mark T). int_lt (rank m.at) t && int_eq (rank m.at) u) (λ m. false) (λ m. before-none_later (rank m.at) t u later) marks
      ∙ find-never marks ∙ sym (ap (λ b. cond b (mark_at rank u marks) None) later))
      (cases_Bool (int_lt u t))

  -- the marks before t are known by the mark at each time before t
  pub marks_before-ext : (marks others : List (Mark T)) (t : ℤ) → IsMarkRow rank marks → IsMarkRow rank others →
      ((u : ℤ) → int_lt u t ≡ true → mark_at rank u marks ≡ mark_at rank u others) → marks_before rank t marks ≡ marks_before rank t others
  marks_before-ext marks others t row other_row same =
      by_time-ext rank (λ (mark : Mark T). mark.at) (marks_before rank t marks) (marks_before rank t others)
      (is_ascending-filter (mark_before rank) (λ (m : Mark T). int_lt (rank m.at) t) marks row.ascending)
      (is_ascending-filter (mark_before rank) (λ (m : Mark T). int_lt (rank m.at) t) others other_row.ascending)
      (λ u. mark_at-before t u marks ∙ here u ∙ sym (mark_at-before t u others))
    where
      here : (u : ℤ) → cond (int_lt u t) (mark_at rank u marks) None ≡ cond (int_lt u t) (mark_at rank u others) None
      here u =
          ⊎_elim
          (λ e. ap (λ b. cond b (mark_at rank u marks) None) e ∙ same u e ∙ sym (ap (λ b. cond b (mark_at rank u others) None) e))
          (λ e. ap (λ b. cond b (mark_at rank u marks) None) e ∙ sym (ap (λ b. cond b (mark_at rank u others) None) e))
          (cases_Bool (int_lt u t))
