-- The list has the clashes of all rows, after each edit of the rows.
use Rattle.std.proofs.Common.{◌≡◌, ◌≢◌, ℕ, ℤ, ◌+◌, zero, suc, true, false, cond, not, ◌&&◌, ◌||◌, Bool, List, [], ◌∷◌, ◌++◌, length, take, get_or, Option, Some, None, Result, Ok, Err, refl, sym, ap, subst, ◌∙◌, ⊎_elim, arith}
use Rattle.std.specs.Prelude.{◌==◌, nat_lt, option_map, slice_get, OnOk, OnErr}
use Rattle.std.specs.List.{list_any}
use Rattle.std.specs.Option.{option_or}
use Rattle.std.specs.Ordering.{int_eq}
use Rattle.std.proofs.lemmas.Bool.{cases_Bool, eqb-true}
use Rattle.std.proofs.lemmas.Option.{slice_get_within, get_or_from_slice_get}
use Rattle.std.proofs.lemmas.List.Elements.{filter_agree}
use Rattle.std.proofs.lemmas.List.Folds.{find-append, list_any_more}
use Rattle.std.proofs.Math.Bool.{or-true}
use Rattle.ec_lists.proofs.Finds.{find-none}
use Rattle.ec_lists.proofs.Numbers.{eqb-apart, eqb-same}
use Rattle.ec_numbered.specs.ByNumber.{kept_at}
use Rattle.ec_rows.specs.declared.mark.Mark.{Mark}
use Rattle.ec_rows.specs.Marks.{has_mark, is_counted, mark_at}
use Rattle.ec_points.specs.declared.clashes.Clash.{Clash}
use Rattle.ec_points.specs.Changes.{Change, are_all_apart, change_at, changed, made}
use Rattle.ec_points.specs.Clashes.{AreClashesOf, clash_made, clashes_at, clashes_in, has_clash, is_clash, is_some_clash, new_clashes}
use Rattle.ec_points.specs.SeenRows.{seen_at, rows_seen}
use Rattle.ec_points.specs.Table.{PointTable, marks_in, row_of}
use Rattle.ec_points.proofs.MadeChanges.{changes_are_made}
use Rattle.ec_points.proofs.SeenRowLemmas.{row_at-table}

-- ---- marks

-- a mark that clashes is counted
is_clash-zeros : (a b c : ℕ) → nat_lt 0 (a + b + c) ≡ false → (nat_lt 0 a && nat_lt 0 c) ≡ false
is_clash-zeros a b c = grind arith

-- what becomes of a clash is told by what becomes of the mark
is_some_clash-made : {T : Type 0} (change : Option (Change T)) (old : Option (Mark T)) → is_some_clash (made change old) ≡ clash_made change (is_some_clash old)
is_some_clash-made None old = refl
is_some_clash-made (Some change) old =
    ⊎_elim
    (λ counts. ap (λ b. is_some_clash (cond b (Some change.1) None)) counts)
    (λ zeros. ap (λ b. is_some_clash (cond b (Some change.1) None)) zeros ∙ sym (is_clash-zeros change.1.inits change.1.terms change.1.clashes zeros))
    (cases_Bool (is_counted change.1))

-- a mark that does not clash goes behind all others unseen
clashes_in-push : {T : Type 0} (rank : T → ℤ) (t : ℤ) (marks : List (Mark T)) (mark : Mark T) → is_clash mark ≡ false →
    clashes_in rank t (marks ++ mark ∷ []) ≡ clashes_in rank t marks
clashes_in-push rank t marks mark plain =
    ap is_some_clash (find-append (λ m. int_eq (rank m.at) t) marks (mark ∷ []))
    ∙ either (mark_at rank t marks) (int_eq (rank mark.at) t)
  where
    either : (o : Option _) (b : Bool) → is_some_clash (option_or o (cond b (Some mark) None)) ≡ is_some_clash o
    either (Some m) b = refl
    either None true = plain
    either None false = refl

-- the marks of a row behind which one was put, or was not
pub clashes_in-pushed : {T X E : Type 0} (rank : T → ℤ) (t : ℤ) (r : Result X E) (old new : List (Mark T)) (mark : Mark T) → OnOk r (new ≡ old ++ mark ∷ []) → OnErr r (new ≡ old) →
    is_clash mark ≡ false → clashes_in rank t new ≡ clashes_in rank t old
clashes_in-pushed rank t (Ok x) old new mark put same plain = ap (clashes_in rank t) put ∙ clashes_in-push rank t old mark plain
clashes_in-pushed rank t (Err e) old new mark put same plain = ap (clashes_in rank t) same

-- one mark more is looked at
pub forgotten-more : {T : Type 0} (rank : T → ℤ) (marks : List (Mark T)) (i : ℕ) (mark : Mark T) → slice_get marks i ≡ Some mark → (t : ℤ) (same there : Bool) →
    (not (same && int_eq (rank mark.at) t) && (not (same && has_mark rank t (take i marks)) && there)) ≡ (not (same && has_mark rank t (take (i + 1) marks)) && there)
forgotten-more rank marks i mark read t same there =
    bools same (has_mark rank t (take i marks)) (int_eq (rank mark.at) t) there
    ∙ ap (λ b. not (same && b) && there)
    (sym (list_any_more (λ m. int_eq (rank m.at) t) marks i mark (slice_get_within marks i mark read)
    ∙ ap (λ m. has_mark rank t (take i marks) || int_eq (rank m.at) t) (get_or_from_slice_get marks i mark mark read)))
  where
    bools : (p a x s : Bool) → (not (p && x) && (not (p && a) && s)) ≡ (not (p && (a || x)) && s)
    bools p a x s = grind arith

-- where no mark is at t, none clashes there
clashes_in-none : {T : Type 0} (rank : T → ℤ) (t : ℤ) (marks : List (Mark T)) → has_mark rank t marks ≡ false → clashes_in rank t marks ≡ false
clashes_in-none rank t marks none = ap is_some_clash (find-none (λ m. int_eq (rank m.at) t) marks none)

-- ---- rows

-- a row of which a test holds is one of the rows
pub list_any-row : {X : Type 0} (test : Option X → Bool) → test None ≡ false → (rows : List (Option X)) (n : ℕ) → test (get_or rows n None) ≡ true → list_any test rows ≡ true
list_any-row test none [] zero here = absurd (let no = none in cc)
list_any-row test none [] (suc n) here = absurd (let no = none in cc)
list_any-row test none (row ∷ rows) zero here = ap (λ b. b || list_any test rows) here
list_any-row test none (row ∷ rows) (suc n) here = ap (λ b. test row || b) (list_any-row test none rows n here) ∙ or-true (test row)

module _ {T M : Type 0} (marks : M → List (Mark T)) (spare : M → ℕ) (rank : T → ℤ) where
  -- the table tells the same clashes
  pub clashes_at-table : (rows : List (Option M)) (clashes : List (Clash T)) (table : PointTable T) → rows_seen marks spare rows ≡ table.rows →
      AreClashesOf rank marks spare rows clashes → (n : ℕ) (t : ℤ) → clashes_at rank n t table ≡ has_clash rank n t clashes
  clashes_at-table rows clashes table is are n t =
      sym (ap (λ row. clashes_in rank t (marks_in row)) (row_at-table marks spare rows table is n)) ∙ sym (are n t)

  -- so a change has as many new ones
  pub new_clashes-table : (rows : List (Option M)) (clashes : List (Clash T)) (table : PointTable T) → rows_seen marks spare rows ≡ table.rows →
      AreClashesOf rank marks spare rows clashes → (changes : List (Change T)) →
      new_clashes rank (λ n t. clashes_at rank n t table) changes ≡ new_clashes rank (λ n t. has_clash rank n t clashes) changes
  new_clashes-table rows clashes table is are changes =
      ap length (filter_agree (λ (c : Change T). is_clash c.1 && not (clashes_at rank c.0.0 (rank c.1.at) table)) (λ c. is_clash c.1 && not (has_clash rank c.0.0 (rank c.1.at) clashes))
      (λ c. ap (λ b. is_clash c.1 && not b) (clashes_at-table rows clashes table is are c.0.0 (rank c.1.at))) changes)

  -- no marks, no clashes
  pub AreClashesOf-none : (rows : List (Option M)) (clashes : List (Clash T)) → ((n : ℕ) → marks_in (seen_at marks spare n rows) ≡ []) → clashes ≡ [] →
      AreClashesOf rank marks spare rows clashes
  AreClashesOf-none rows clashes none empty = λ n t. ap (has_clash rank n t) empty ∙ sym (ap (clashes_in rank t) (none n))

  module _ (old new : List (Option M)) (clashes : List (Clash T)) (are : AreClashesOf rank marks spare old clashes) where
    -- one row is changed, and clashes as before
    pub AreClashesOf-each : (m : ℕ) → ((n : ℕ) → n ≢ m → kept_at n new ≡ kept_at n old) →
        ((t : ℤ) → clashes_in rank t (marks_in (seen_at marks spare m new)) ≡ clashes_in rank t (marks_in (seen_at marks spare m old))) →
        AreClashesOf rank marks spare new clashes
    AreClashesOf-each m others same = λ n t.
        ⊎_elim
        (λ e. subst (λ k. has_clash rank k t clashes ≡ clashes_in rank t (marks_in (seen_at marks spare k new))) (eqb-true m n e) (are m t ∙ sym (same t)))
        (λ e. are n t ∙ sym (ap (λ row. clashes_in rank t (marks_in (option_map (row_of marks spare) row))) (others n (eqb-apart m n e))))
        (cases_Bool (m == n))

    -- all marks of one row go, and its clashes with them
    pub AreClashesOf-cleared : (m : ℕ) (left : List (Clash T)) → ((n : ℕ) → n ≢ m → kept_at n new ≡ kept_at n old) → marks_in (seen_at marks spare m new) ≡ [] →
        ((n : ℕ) (t : ℤ) → has_clash rank n t left ≡ (not ((m == n) && has_mark rank t (marks_in (seen_at marks spare m old))) && has_clash rank n t clashes)) →
        AreClashesOf rank marks spare new left
    AreClashesOf-cleared m left others empty has = λ n t.
        ⊎_elim
        (λ e. subst (λ k. has_clash rank k t left ≡ clashes_in rank t (marks_in (seen_at marks spare k new))) (eqb-true m n e) (mine t))
        (λ e. has n t ∙ ap (λ b. not (b && has_mark rank t (marks_in (seen_at marks spare m old))) && has_clash rank n t clashes) e
        ∙ are n t ∙ sym (ap (λ row. clashes_in rank t (marks_in (option_map (row_of marks spare) row))) (others n (eqb-apart m n e))))
        (cases_Bool (m == n))
      where
        gone : (b c : Bool) → (b ≡ false → c ≡ false) → (not b && c) ≡ false
        gone true c f = refl
        gone false c f = f refl

        mine : (t : ℤ) → has_clash rank m t left ≡ clashes_in rank t (marks_in (seen_at marks spare m new))
        mine t =
            has m t ∙ ap (λ b. not (b && has_mark rank t (marks_in (seen_at marks spare m old))) && has_clash rank m t clashes) (eqb-same m)
            ∙ gone (has_mark rank t (marks_in (seen_at marks spare m old))) (has_clash rank m t clashes)
            (λ none. are m t ∙ clashes_in-none rank t (marks_in (seen_at marks spare m old)) none)
            ∙ sym (ap (clashes_in rank t) empty)

    -- a change is made in the rows, and noted in the list
    pub AreClashesOf-changed : (changes : List (Change T)) (noted : List (Clash T)) → are_all_apart rank changes ≡ true →
        ((n : ℕ) → marks_in (seen_at marks spare n new) ≡ changed rank n changes (marks_in (seen_at marks spare n old))) →
        ((n : ℕ) (t : ℤ) → has_clash rank n t noted ≡ clash_made (change_at rank n t changes) (has_clash rank n t clashes)) →
        AreClashesOf rank marks spare new noted
    AreClashesOf-changed changes noted apart put has = λ n t.
        has n t ∙ ap (clash_made (change_at rank n t changes)) (are n t)
        ∙ sym (is_some_clash-made (change_at rank n t changes) (mark_at rank t (marks_in (seen_at marks spare n old))))
        ∙ sym (ap is_some_clash (changes_are_made rank n t changes (marks_in (seen_at marks spare n old)) apart))
        ∙ sym (ap (clashes_in rank t) (put n))
