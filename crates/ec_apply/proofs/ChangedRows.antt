-- Rows of marks after some changes: they stay in order, and they are the rows of the new list where the changes are planned for it.
use Rattle.std.proofs.Common.{◌≡◌, ℕ, ℤ, length, Bool, true, false, cond, not, ◌&&◌, List, [], ◌∷◌, filter, Option, Some, None, option_map, IsTrue, IsFalse, IsSome, is_some, refl, sym, ap, subst, ◌∙◌, ⊎_elim}
use Rattle.std.specs.Prelude.{int_lt, ◌==◌}
use Rattle.std.specs.List.{All}
use Rattle.std.specs.Ordering.{int_eq}
use Rattle.std.proofs.lemmas.Bool.{cases_Bool, and_from, false≢true, eqb-true}
use Rattle.std.proofs.Math.Bool.{and-false}
use Rattle.ec_lists.proofs.Finds.{find-map, find-filter, find_agree, find-none}
use Rattle.ec_lists.proofs.Integers.{int_eq-is}
use Rattle.ec_terms.specs.declared.ground.Ground.{Ground}
use Rattle.ec_terms.specs.declared.theory.Theory.{Theory}
use Rattle.ec_axioms.specs.Calculus.{PlainEvent}
use Rattle.ec_axioms.specs.Changes.{is_history}
use Rattle.ec_axioms.specs.Marks.{PlainMark, marks_of}
use Rattle.ec_axioms.proofs.Members.{IsMember, IsMember-map, IsMember-from_map, Contains-from_member, filter_none, list_all-from_members, list_all-member}
use Rattle.ec_rows.specs.Ordered.{is_ascending}
use Rattle.ec_rows.specs.declared.mark.Mark.{Mark}
use Rattle.ec_rows.specs.Marks.{IsMarkRow, is_counted, mark_before, mark_at as row_mark_at, with_mark}
use Rattle.ec_rows.specs.PlainMarks.{plain_mark, plain_marks}
use Rattle.ec_rows.proofs.KnownByTimes.{by_time-ext}
use Rattle.ec_rows.proofs.OrderedLemmas.{ascending-first, ascending-rest, is_ascending-filter, is_ascending-with_member}
use Rattle.ec_rows.proofs.TimedLemmas.{IsOrder-by_time}
use Rattle.ec_points.specs.Changes.{Change, ChangesAreMade, are_all_apart, change_at, changed, count_of, has_change, made, without_mark}
use Rattle.ec_points.proofs.MadeChanges.{find-never}
use Rattle.ec_store.specs.Table.{KeptProp, prop_at}
use Rattle.ec_delta.specs.Ready.{mark_made}
use Rattle.ec_apply.proofs.PlainRows.{AreInOrder, AreInOrder-marks_of, from_marks_of, if_marked, plain_at, plain_rows-ext}

module _ {T : Type 0} (rank : T → ℤ) where
  -- a row in order is one in order for the calculus
  AreInOrder-plain : (marks : List (Mark T)) → is_ascending (mark_before rank) marks ≡ true → AreInOrder (plain_marks rank marks)
  AreInOrder-plain [] ascending = tt
  AreInOrder-plain (m ∷ marks) ascending = (
    λ n member. let found = IsMember-from_map (plain_mark rank) marks n member in
        subst (λ (k : PlainMark). IsTrue (int_lt (rank m.at) k.instant)) found.2 (list_all-member (mark_before rank m) marks found.0 (ascending-first (mark_before rank) m marks ascending) found.1),
    AreInOrder-plain marks (ascending-rest (mark_before rank) m marks ascending),
  )

  -- and the other way
  ascending-plain : (marks : List (Mark T)) → AreInOrder (plain_marks rank marks) → is_ascending (mark_before rank) marks ≡ true
  unfolding is_ascending
  ascending-plain [] order = refl
  ascending-plain (m ∷ marks) order =
      and_from _ _ (list_all-from_members (mark_before rank m) marks (λ n member. order.0 (plain_mark rank n) (IsMember-map (plain_mark rank) marks n member))) (ascending-plain marks order.1)

  -- changes keep a row in order
  ascending-changed : (n : ℕ) (changes : List (Change T)) (marks : List (Mark T)) → is_ascending (mark_before rank) marks ≡ true → is_ascending (mark_before rank) (changed rank n changes marks) ≡ true
  unfolding changed
  ascending-changed n [] marks ascending = ascending
  ascending-changed n (change ∷ changes) marks ascending = ascending-changed n changes _ (one (change.0.0 == n) (is_counted change.1))
    where
      one : (own counted : Bool) → is_ascending (mark_before rank) (cond own (cond counted (with_mark rank change.1 marks) (without_mark rank (rank change.1.at) marks)) marks) ≡ true
      one true true = is_ascending-with_member (mark_before rank) (IsOrder-by_time rank (λ (m : Mark T). m.at)) change.1 marks ascending
      one true false = is_ascending-filter (mark_before rank) (λ (m : Mark T). not (int_eq (rank m.at) (rank change.1.at))) marks ascending
      one false counted = ascending

  -- what stands at an instant of a row
  plain_at-row : (t : ℤ) (marks : List (Mark T)) → plain_at t (plain_marks rank marks) ≡ option_map (plain_mark rank) (row_mark_at rank t marks)
  plain_at-row t marks = find-map (λ (m : PlainMark). int_eq m.instant t) (plain_mark rank) marks

  -- a row whose marks are those of a history is a row of marks
  pub IsMarkRow-marks_of : (theory : Theory) (events : List PlainEvent) (p : Ground) (marks : List (Mark T)) → IsTrue (is_history events)
      → plain_marks rank marks ≡ marks_of theory events p → IsMarkRow rank marks
  IsMarkRow-marks_of theory events p marks history same = record {
    ascending = ascending-plain marks (subst AreInOrder (sym same) (AreInOrder-marks_of theory events p history));
    counted = list_all-from_members is_counted marks (λ m member.
        (from_marks_of theory events p history (plain_mark rank m) (subst (λ xs. IsMember xs (plain_mark rank m)) same (IsMember-map (plain_mark rank) marks m member))).1);
  }

  module _ (law : ChangesAreMade rank) (changes : List (Change T)) (apart : IsTrue (are_all_apart rank changes)) (n : ℕ) where
    -- Where the changes make the new marks of the old ones, the row is that of the new marks.
    pub row-changed : (marks : List (Mark T)) (xs ys : List PlainMark) (f g : ℤ → PlainMark) → plain_marks rank marks ≡ xs → AreInOrder xs → AreInOrder ys
        → ((t : ℤ) → plain_at t xs ≡ if_marked (f t)) → ((t : ℤ) → plain_at t ys ≡ if_marked (g t))
        → ((t : ℤ) → mark_made rank (change_at rank n t changes) (f t) ≡ g t) → plain_marks rank (changed rank n changes marks) ≡ ys
    row-changed marks xs ys f g was order_xs order_ys at_xs at_ys planned =
        plain_rows-ext (plain_marks rank (changed rank n changes marks)) ys
        (AreInOrder-plain (changed rank n changes marks) (ascending-changed n changes marks (ascending-plain marks (subst AreInOrder (sym was) order_xs))))
        order_ys
        (λ t. plain_at-row t (changed rank n changes marks) ∙ ap (option_map (plain_mark rank)) (law n t changes marks apart) ∙ by_change t (change_at rank n t changes) (planned t) ∙ sym (at_ys t))
      where
        by_change : (t : ℤ) (o : Option (Change T)) → mark_made rank o (f t) ≡ g t → option_map (plain_mark rank) (made o (row_mark_at rank t marks)) ≡ if_marked (g t)
        by_change t None same = sym (plain_at-row t marks) ∙ ap (plain_at t) was ∙ at_xs t ∙ ap if_marked same
        by_change t (Some change) same = counted (is_counted change.1) refl ∙ ap if_marked same
          where
            counted : (b : Bool) → is_counted change.1 ≡ b → option_map (plain_mark rank) (cond (is_counted change.1) (Some change.1) None) ≡ if_marked (plain_mark rank change.1)
            counted true is = ap (λ b. option_map (plain_mark rank) (cond b (Some change.1) None)) is ∙ sym (ap (λ b. cond b (Some (plain_mark rank change.1)) None) is)
            counted false is = ap (λ b. option_map (plain_mark rank) (cond b (Some change.1) None)) is ∙ sym (ap (λ b. cond b (Some (plain_mark rank change.1)) None) is)

    -- where no change is at an instant, the row keeps what it has there
    pub mark_at-unchanged : (marks : List (Mark T)) (t : ℤ) → has_change rank n t changes ≡ false → row_mark_at rank t (changed rank n changes marks) ≡ row_mark_at rank t marks
    mark_at-unchanged marks t none =
        law n t changes marks apart ∙ ap (λ o. made o (row_mark_at rank t marks)) (find-none (λ (change : Change T). change.0.0 == n && int_eq (rank change.1.at) t) changes none)

  -- two rows with the same mark at each instant that passes a test have the same marks at those instants
  pub marks_where-ext : (q : ℤ → Bool) (marks others : List (Mark T)) → IsMarkRow rank marks → IsMarkRow rank others
      → ((t : ℤ) → q t ≡ true → row_mark_at rank t marks ≡ row_mark_at rank t others)
      → filter (λ (m : Mark T). q (rank m.at)) marks ≡ filter (λ (m : Mark T). q (rank m.at)) others
  marks_where-ext q marks others row other_row same =
      by_time-ext rank (λ (m : Mark T). m.at) (filter (λ (m : Mark T). q (rank m.at)) marks) (filter (λ (m : Mark T). q (rank m.at)) others)
      (is_ascending-filter (mark_before rank) (λ (m : Mark T). q (rank m.at)) marks row.ascending)
      (is_ascending-filter (mark_before rank) (λ (m : Mark T). q (rank m.at)) others other_row.ascending)
      (λ t. ⊎_elim
      (λ passes. found_all t passes marks ∙ same t passes ∙ sym (found_all t passes others))
      (λ fails. found_none t fails marks ∙ sym (found_none t fails others)) (cases_Bool (q t)))
    where
      both : (t a : ℤ) → q t ≡ true → (q a && int_eq a t) ≡ int_eq a t
      both t a passes = ⊎_elim (λ here. ap (λ b. b && int_eq a t) (ap q (int_eq-is a t here) ∙ passes)) (λ elsewhere. ap (λ b. q a && b) elsewhere ∙ and-false (q a) ∙ sym elsewhere) (cases_Bool (int_eq a t))

      neither : (t a : ℤ) → q t ≡ false → (q a && int_eq a t) ≡ false
      neither t a fails = ⊎_elim (λ here. ap (λ b. b && int_eq a t) (ap q (int_eq-is a t here) ∙ fails)) (λ elsewhere. ap (λ b. q a && b) elsewhere ∙ and-false (q a)) (cases_Bool (int_eq a t))

      found_all : (t : ℤ) → q t ≡ true → (ms : List (Mark T)) → row_mark_at rank t (filter (λ (m : Mark T). q (rank m.at)) ms) ≡ row_mark_at rank t ms
      found_all t passes ms =
          find-filter (λ (m : Mark T). int_eq (rank m.at) t) (λ m. q (rank m.at)) ms
          ∙ find_agree (λ (m : Mark T). q (rank m.at) && int_eq (rank m.at) t) (λ m. int_eq (rank m.at) t) (λ m. both t (rank m.at) passes) ms

      found_none : (t : ℤ) → q t ≡ false → (ms : List (Mark T)) → row_mark_at rank t (filter (λ (m : Mark T). q (rank m.at)) ms) ≡ None
      found_none t fails ms =
          find-filter (λ (m : Mark T). int_eq (rank m.at) t) (λ m. q (rank m.at)) ms
          ∙ find_agree (λ (m : Mark T). q (rank m.at) && int_eq (rank m.at) t) (λ m. false) (λ m. neither t (rank m.at) fails) ms ∙ find-never ms

-- changes of kept properties are of no number that is not kept
pub count_of-none : {T : Type 0} (table : List KeptProp) (changes : List (Change T)) (n : ℕ) → All (λ (change : Change T). IsSome (prop_at change.0.0 table)) changes → prop_at n table ≡ None
    → count_of n changes ≡ 0
count_of-none {T} table changes n kept none = ap length (filter_none (λ (change : Change T). change.0.0 == n) changes (λ change member. not_own change (there change member)))
  where
    there : (change : Change T) → IsMember changes change → IsSome (prop_at change.0.0 table)
    there change member = let at = Contains-from_member changes change member in subst (λ (c : Change T). IsSome (prop_at c.0.0 table)) at.2 (kept at.0 change at.1)

    not_own : (change : Change T) → IsSome (prop_at change.0.0 table) → IsFalse (change.0.0 == n)
    not_own change some =
        ⊎_elim
        (λ own. absurd (false≢true (sym (ap is_some none) ∙ sym (ap (λ m. is_some (prop_at m table)) (number change own)) ∙ some)))
        (λ other. other) (cases_Bool (change.0.0 == n))
      where
        number : (c : Change T) → (c.0.0 == n) ≡ true → c.0.0 ≡ n
        number c own = eqb-true c.0.0 n own
