-- The marks and the initiations of the new list, as the planned changes leave them.
use Rattle.std.proofs.Common.{◌≡◌, ℕ, ◌+◌, ◌≤◌, ℤ, Bool, true, false, cond, not, ◌&&◌, ◌||◌, List, [], ◌∷◌, ◌++◌, length, map, filter, Option, Some, None, is_some, IsTrue, IsFalse, IsSome, refl, sym, ap, subst, ◌∙◌, inl, inr, ⊎_elim, nat_lt, arith, length-append}
use Rattle.std.specs.Prelude.{◌==◌}
use Rattle.std.specs.List.{All, IsDistinct, list_any}
use Rattle.std.specs.Ordering.{int_eq}
use Rattle.std.specs.Cmp.{int_eq_equiv}
use Rattle.std.proofs.lemmas.Bool.{cases_Bool, and_parts, and_from, or_left, or_right, eq-eqb, and_left, not-true}
use Rattle.std.proofs.lemmas.Int.{ints}
use Rattle.std.proofs.lemmas.List.{length-map}
use Rattle.std.proofs.lemmas.List.Folds.{list_any-append}
use Rattle.std.proofs.lemmas.Map.Made.{length-le_from_is_member}
use Rattle.std.proofs.Math.Bool.{and-false}
use Rattle.ec_lists.proofs.Finds.{is_some-find}
use Rattle.ec_lists.proofs.Integers.{int_eq-is, int_eq-same, int_eq-from_lt}
use Rattle.ec_lists.proofs.Tests.{list_any-map, list_any-same}
use Rattle.ec_terms.specs.declared.ground.Ground.{Ground}
use Rattle.ec_terms.specs.declared.theory.Theory.{Theory}
use Rattle.ec_axioms.specs.Calculus.{PlainEvent}
use Rattle.ec_axioms.specs.Changes.{is_history}
use Rattle.ec_axioms.specs.Marks.{PlainMark, mark_at, marks_of}
use Rattle.ec_axioms.proofs.Members.{IsMember, IsMember-filter, IsPairwise, IsPairwise-map, Contains-from_member, filter_none, find-Some, list_all-member, member-list_any, IsMember-map}
use Rattle.ec_changes.proofs.DistinctLists.{IsDistinct-from_pairwise}
use Rattle.ec_rows.specs.Ordered.{is_ascending}
use Rattle.ec_rows.specs.declared.mark.Mark.{Mark}
use Rattle.ec_rows.specs.Marks.{IsMarkRow, has_mark, is_counted, mark_before, mark_at as row_mark_at}
use Rattle.ec_rows.specs.PlainMarks.{plain_mark, plain_marks}
use Rattle.ec_rows.proofs.OrderedLemmas.{ascending-first, ascending-rest}
use Rattle.ec_points.specs.Changes.{Change, ChangesAreMade, are_all_apart, are_apart, change_at, changed, count_of, growth_of, is_new, made}
use Rattle.ec_points.specs.Clashes.{is_clash, new_clashes}
use Rattle.ec_points.specs.Table.{PointTable, marks_at, marks_in, row_at}
use Rattle.ec_numbered.specs.PropSet.{has_number}
use Rattle.ec_store.specs.Table.{KeptProp, prop_at, term_at}
use Rattle.ec_parts.specs.Caches.{AreInitiationsOf, AreMarksOf, kept_initiations}
use Rattle.ec_parts.proofs.Mentioned.{kept_term}
use Rattle.ec_delta.specs.declared.delta.Planned.{Planned}
use Rattle.ec_delta.specs.Ready.{AreMarksPlanned, initiation_at, mark_made}
use Rattle.ec_apply.proofs.PlainRows.{AreInOrder-marks_of, AreInOrder-kept_initiations, plain_at-marks_of, plain_at-kept_initiations}
use Rattle.ec_apply.proofs.ChangedRows.{IsMarkRow-marks_of, count_of-none, row-changed}

-- the times of some marks, and of some changes, as whole numbers
abbrev times : {T : Type 0} → (T → ℤ) → List (Mark T) → List ℤ
times rank ms = map (λ (m : Mark _). rank m.at) ms

abbrev change_times : {T : Type 0} → (T → ℤ) → List (Change T) → List ℤ
change_times rank cs = map (λ (c : Change _). rank c.1.at) cs

-- the changes that are new marks of a property
abbrev grown : {T : Type 0} → (T → ℤ) → ℕ → List (Change T) → List (Mark T) → List (Change T)
grown rank n changes marks = filter (λ (c : Change _). c.0.0 == n && is_new rank marks c.1) changes

-- a property that is not kept has no mark where the changes have none of it
none-changed : {T : Type 0} (table : List KeptProp) (changes : List (Change T)) (old new : PointTable T) → All (λ (change : Change T). IsSome (prop_at change.0.0 table)) changes
    → ((n : ℕ) → count_of n changes ≡ 0 → row_at n new ≡ row_at n old) → ((n : ℕ) → prop_at n table ≡ None → marks_at n old ≡ []) → (n : ℕ) → prop_at n table ≡ None → marks_at n new ≡ []
none-changed table changes old new kept others none n absent = ap marks_in (others n (count_of-none table changes n kept absent)) ∙ none n absent

module _ {T : Type 0} (rank : T → ℤ) (law : ChangesAreMade rank) (theory : Theory) (old new : List PlainEvent) (history_old : IsTrue (is_history old)) (history_new : IsTrue (is_history new))
    (table : List KeptProp) (planned : Planned T) (marks_planned : AreMarksPlanned rank theory old new table planned) where
  -- the marks are those of the new list
  pub AreMarksOf-changed : (points points' : PointTable T) → IsTrue (are_all_apart rank planned.marks) → AreMarksOf rank theory old table points
      → ((n : ℕ) → marks_at n points' ≡ changed rank n planned.marks (marks_at n points)) → ((n : ℕ) → count_of n planned.marks ≡ 0 → row_at n points' ≡ row_at n points)
      → points'.initials ≡ points.initials → AreMarksOf rank theory new table points'
  AreMarksOf-changed points points' apart marks made others initials = record {
    marks = λ n p kept. ap (plain_marks rank) (made n)
        ∙ row-changed rank law planned.marks apart n (marks_at n points) (marks_of theory old p) (marks_of theory new p) (mark_at theory old p) (mark_at theory new p)
        (marks.marks n p kept) (AreInOrder-marks_of theory old p history_old) (AreInOrder-marks_of theory new p history_new)
        (plain_at-marks_of theory old p history_old) (plain_at-marks_of theory new p history_new) (λ t. marks_planned.marks n p t kept);
    none = none-changed table planned.marks points points' marks_planned.of_kept others marks.none;
    initials = record {
      initial = λ n p kept. ap (has_number n) initials ∙ marks.initials.initial n p kept;
      none = λ n absent. ap (has_number n) initials ∙ marks.initials.none n absent;
    };
  }

  -- the initiations are those of the new list
  pub AreInitiationsOf-changed : (points points' : PointTable T) → IsTrue (are_all_apart rank planned.initiations) → AreInitiationsOf rank theory old table points
      → ((n : ℕ) → marks_at n points' ≡ changed rank n planned.initiations (marks_at n points)) → ((n : ℕ) → count_of n planned.initiations ≡ 0 → row_at n points' ≡ row_at n points)
      → AreInitiationsOf rank theory new table points'
  AreInitiationsOf-changed points points' apart marks made others = record {
    marks = λ n p kept. ap (plain_marks rank) (made n)
        ∙ row-changed rank law planned.initiations apart n (marks_at n points) (kept_initiations theory old p) (kept_initiations theory new p) (initiation_at theory old p) (initiation_at theory new p)
        (marks.marks n p kept) (AreInOrder-kept_initiations theory old p history_old) (AreInOrder-kept_initiations theory new p history_new)
        (plain_at-kept_initiations theory old p history_old) (plain_at-kept_initiations theory new p history_new) (λ t. marks_planned.initiations n p t kept);
    none = none-changed table planned.initiations points points' marks_planned.starts_of_kept others marks.none;
  }

  -- ---- no initiation clashes

  -- a change is the one of its property at its time
  change_at-own : (changes : List (Change T)) → are_all_apart rank changes ≡ true → (c : Change T) → IsMember changes c → change_at rank c.0.0 (rank c.1.at) changes ≡ Some c
  change_at-own [] apart c member = absurd member
  change_at-own (d ∷ changes) apart c (inl same) =
      ap (λ b. cond b (Some d) (change_at rank c.0.0 (rank c.1.at) changes)) (own d c same) ∙ ap Some same
    where
      own : (a b : Change T) → a ≡ b → (a.0.0 == b.0.0 && int_eq (rank a.1.at) (rank b.1.at)) ≡ true
      own a b is = and_from _ _ (eq-eqb a.0.0 b.0.0 (ap (λ (x : Change T). x.0.0) is)) (ap (λ (x : Change T). int_eq (rank a.1.at) (rank x.1.at)) (sym is) ∙ int_eq-same (rank a.1.at))
  change_at-own (d ∷ changes) apart c (inr later) =
      ap (λ b. cond b (Some d) (change_at rank c.0.0 (rank c.1.at) changes)) (other (list_all-member (are_apart rank d) changes c (ascending-first (are_apart rank) d changes apart) later))
      ∙ change_at-own changes (ascending-rest (are_apart rank) d changes apart) c later
    where
      other : are_apart rank d c ≡ true → (d.0.0 == c.0.0 && int_eq (rank d.1.at) (rank c.1.at)) ≡ false
      other e = not-true (d.0.0 == c.0.0 && int_eq (rank d.1.at) (rank c.1.at)) e

  -- so no new initiation clashes
  pub no_new_clashes : IsTrue (are_all_apart rank planned.initiations) → (clash : ℕ → ℤ → Bool) → new_clashes rank clash planned.initiations ≡ 0
  no_new_clashes apart clash =
      ap length (filter_none (λ (c : Change T). is_clash c.1 && not (clash c.0.0 (rank c.1.at))) planned.initiations (λ c member. and_left (is_clash c.1) _ (bare c member)))
    where
      no_clash : (mark : Mark T) → mark.clashes ≡ 0 → is_clash mark ≡ false
      no_clash mark none = ap (λ n. nat_lt 0 mark.inits && nat_lt 0 n) none ∙ and-false (nat_lt 0 mark.inits)

      kept : (c : Change T) → IsMember planned.initiations c → IsSome (prop_at c.0.0 table)
      kept c member = let at = Contains-from_member planned.initiations c member in subst (λ (d : Change T). IsSome (prop_at d.0.0 table)) at.2 (marks_planned.starts_of_kept at.0 c at.1)

      bare : (c : Change T) → IsMember planned.initiations c → is_clash c.1 ≡ false
      bare c member =
          let term = kept_term table c.0 (kept c member) in
          let is : plain_mark rank c.1 ≡ initiation_at theory new term.0 (rank c.1.at) =
          sym (ap (λ o. mark_made rank o (initiation_at theory old term.0 (rank c.1.at))) (change_at-own planned.initiations apart c member)) ∙ marks_planned.initiations c.0.0 term.0 (rank c.1.at) term.1 in
          no_clash c.1 (ap (λ (m : PlainMark). m.clashes) is)

  -- ---- how many marks there are

  -- a row grows by no more than its new marks
  pub few_marks : (points points' : PointTable T) → IsTrue (are_all_apart rank planned.marks) → AreMarksOf rank theory old table points → AreMarksOf rank theory new table points'
      → ((n : ℕ) → marks_at n points' ≡ changed rank n planned.marks (marks_at n points)) → (n : ℕ) (p : Ground) → term_at n table ≡ Some p
      → length (marks_at n points') ≤ length (marks_at n points) + growth_of rank n planned.marks (marks_at n points)
  few_marks points points' apart marks marks' made_by n p kept =
      let at_most = length-le_from_is_member int_eq_equiv (times rank (marks_at n points')) (times rank (marks_at n points) ++ change_times rank (grown rank n planned.marks (marks_at n points))) distinct within in
      let many = length-append (times rank (marks_at n points)) (change_times rank (grown rank n planned.marks (marks_at n points))) in
      let now = length-map (marks_at n points') (λ (m : Mark T). rank m.at) in
      let was = length-map (marks_at n points) (λ (m : Mark T). rank m.at) in
      let more = length-map (grown rank n planned.marks (marks_at n points)) (λ (c : Change T). rank c.1.at) in
      omega (arith, at_most, many, now, was, more)
    where
      distinct : IsDistinct int_eq (times rank (marks_at n points'))
      distinct =
          IsDistinct-from_pairwise int_eq (times rank (marks_at n points'))
          (IsPairwise-map (λ s t. IsFalse (int_eq s t)) (λ (m : Mark T). rank m.at) (marks_at n points') (pairs (marks_at n points') row.ascending))
        where
          row : IsMarkRow rank (marks_at n points')
          row = IsMarkRow-marks_of rank theory new p (marks_at n points') history_new (marks'.marks n p kept)

          pairs : (ms : List (Mark T)) → is_ascending (mark_before rank) ms ≡ true → IsPairwise (λ (l m : Mark T). IsFalse (int_eq (rank l.at) (rank m.at))) ms
          pairs [] ascending = tt
          pairs (m ∷ ms) ascending = (
            λ l member. int_eq-from_lt (rank m.at) (rank l.at) (list_all-member (mark_before rank m) ms l (ascending-first (mark_before rank) m ms ascending) member),
            pairs ms (ascending-rest (mark_before rank) m ms ascending),
          )

      -- a mark at a time, told by the times
      there : (t : ℤ) (ms : List (Mark T)) → list_any (int_eq t) (times rank ms) ≡ is_some (row_mark_at rank t ms)
      there t ms =
          list_any-map (int_eq t) (λ (m : Mark T). rank m.at) ms ∙ list_any-same (λ (m : Mark T). int_eq t (rank m.at)) (λ m. int_eq (rank m.at) t) (λ m. turned t (rank m.at)) ms
          ∙ sym (is_some-find (λ (m : Mark T). int_eq (rank m.at) t) ms)
        where
          turned : (a b : ℤ) → int_eq a b ≡ int_eq b a
          turned a b = grind (arith, ints)

      within : (t : ℤ) → list_any (int_eq t) (times rank (marks_at n points')) ≡ true → list_any (int_eq t) (times rank (marks_at n points) ++ change_times rank (grown rank n planned.marks (marks_at n points))) ≡ true
      within t some =
          list_any-append (int_eq t) (times rank (marks_at n points)) (change_times rank (grown rank n planned.marks (marks_at n points)))
          ∙ by_change (change_at rank n t planned.marks) refl
          (sym (ap is_some (ap (row_mark_at rank t) (made_by n) ∙ law n t planned.marks (marks_at n points) apart)) ∙ sym (there t (marks_at n points')) ∙ some)
        where
          by_change : (o : Option (Change T)) → change_at rank n t planned.marks ≡ o → is_some (made o (row_mark_at rank t (marks_at n points))) ≡ true
              → (list_any (int_eq t) (times rank (marks_at n points)) || list_any (int_eq t) (change_times rank (grown rank n planned.marks (marks_at n points)))) ≡ true
          by_change None is stays = or_left _ _ (there t (marks_at n points) ∙ stays)
          by_change (Some c) is stays =
              ⊎_elim
              (λ was. or_left _ _ was)
              (λ new_one. or_right (list_any (int_eq t) (times rank (marks_at n points))) _
              (member-list_any (int_eq t) (change_times rank (grown rank n planned.marks (marks_at n points))) (rank c.1.at)
              (IsMember-map (λ (d : Change T). rank d.1.at) (grown rank n planned.marks (marks_at n points)) c (IsMember-filter (λ (d : Change T). d.0.0 == n && is_new rank (marks_at n points) d.1) planned.marks c found.0 (grows new_one)))
              here))
              (cases_Bool (list_any (int_eq t) (times rank (marks_at n points))))
            where
              found : IsMember planned.marks c × IsTrue (c.0.0 == n && int_eq (rank c.1.at) t)
              found = find-Some (λ (d : Change T). d.0.0 == n && int_eq (rank d.1.at) t) planned.marks c is

              own : rank c.1.at ≡ t
              own = int_eq-is (rank c.1.at) t (and_parts (c.0.0 == n) _ found.1).1

              here : int_eq t (rank c.1.at) ≡ true
              here = ap (int_eq t) own ∙ int_eq-same t

              counted : is_counted c.1 ≡ true
              counted = is_there (is_counted c.1) stays
                where
                  is_there : (b : Bool) → is_some (cond b (Some c.1) None) ≡ true → b ≡ true
                  is_there true e = refl
                  is_there false e = e

              grows : list_any (int_eq t) (times rank (marks_at n points)) ≡ false → IsTrue (c.0.0 == n && is_new rank (marks_at n points) c.1)
              grows none =
                  and_from _ _ (and_parts (c.0.0 == n) _ found.1).0
                  (and_from _ _ counted (ap not (ap (λ u. has_mark rank u (marks_at n points)) own ∙ sym (is_some-find (λ (m : Mark T). int_eq (rank m.at) t) (marks_at n points)) ∙ sym (there t (marks_at n points)) ∙ none)))
