-- Changes that are made one after the other, and the room that is left for the rest of them.
use Rattle.std.proofs.Common.{◌≡◌, ◌≢◌, ℕ, ℤ, ◌+◌, ◌≤◌, suc, true, false, cond, not, ◌&&◌, List, [], ◌∷◌, length, take, drop, filter, Option, Some, is_some, refl, sym, ap, ap₂, subst, ◌∙◌, ⊎_elim, add-one, arith}
use Rattle.std.specs.Prelude.{◌==◌, slice_get, option_map}
use Rattle.std.specs.List.{list_all}
use Rattle.std.specs.Ordering.{int_eq}
use Rattle.std.proofs.lemmas.Bool.{and_parts, cases_Bool, eq-eqb, eqb-true}
use Rattle.std.proofs.lemmas.List.{length-append, take-append-drop}
use Rattle.std.proofs.lemmas.List.Elements.{filter-append}
use Rattle.std.proofs.Math.ListN.{drop_of_length-le}
use Rattle.ec_lists.proofs.Filters.{length-filter_wider}
use Rattle.ec_lists.proofs.Finds.{is_some-find}
use Rattle.ec_lists.proofs.Fronts.{drop-slice_get}
use Rattle.ec_lists.proofs.Numbers.{eqb-apart}
use Rattle.ec_numbered.specs.ByNumber.{kept_at}
use Rattle.ec_rows.specs.declared.mark.Mark.{Mark}
use Rattle.ec_rows.specs.Marks.{is_counted, has_mark}
use Rattle.ec_rows.proofs.OrderedLemmas.{ascending-first}
use Rattle.ec_points.specs.Changes.{Change, are_apart, are_all_apart, changed, count_of, growth_of, is_new, with_change}
use Rattle.ec_points.specs.SeenRows.{seen_at}
use Rattle.ec_points.specs.Table.{row_of, marks_in, room_in}
use Rattle.ec_points.proofs.Lists.{is_ascending-drop}
use Rattle.ec_points.proofs.MadeChanges.{change-other}

-- ---- growth

module _ {T : Type 0} (rank : T → ℤ) (n : ℕ) where
  -- how much a change grows a row, 1 or 0
  abbrev pub grows : List (Mark T) → Change T → ℕ
  grows marks change = cond (is_new rank marks change.1) 1 0

  -- a change of the property, and then others
  pub growth-here : (change : Change T) (rest : List (Change T)) (marks : List (Mark T)) → (change.0.0 == n) ≡ true →
      growth_of rank n (change ∷ rest) marks ≡ grows marks change + growth_of rank n rest marks
  growth-here change rest marks e =
      ap (λ b. length (cond (b && is_new rank marks change.1) (change ∷ left) left)) e
      ∙ ⊎_elim
      (λ new. ap (λ b. length (cond b (change ∷ left) left)) new ∙ omega arith ∙ sym (ap (λ b. cond b 1 0 + length left) new))
      (λ old. ap (λ b. length (cond b (change ∷ left) left)) old ∙ omega arith ∙ sym (ap (λ b. cond b 1 0 + length left) old))
      (cases_Bool (is_new rank marks change.1))
    where
      left : List (Change T)
      left = filter (λ c. c.0.0 == n && is_new rank marks c.1) rest

  -- a change of another property
  pub growth-other : (change : Change T) (rest : List (Change T)) (marks : List (Mark T)) → (change.0.0 == n) ≡ false →
      growth_of rank n (change ∷ rest) marks ≡ growth_of rank n rest marks
  growth-other change rest marks e =
      ap (λ b. length (cond (b && is_new rank marks change.1) (change ∷ filter (λ c. c.0.0 == n && is_new rank marks c.1) rest)
      (filter (λ c. c.0.0 == n && is_new rank marks c.1) rest))) e

  -- a change leaves whether a mark is at another time
  has_mark-change : (mark : Mark T) (marks : List (Mark T)) (t : ℤ) → int_eq (rank mark.at) t ≡ false → has_mark rank t (with_change rank mark marks) ≡ has_mark rank t marks
  has_mark-change mark marks t other =
      sym (is_some-find (λ (m : Mark T). int_eq (rank m.at) t) (with_change rank mark marks))
      ∙ ap is_some (change-other rank t mark marks other) ∙ is_some-find (λ (m : Mark T). int_eq (rank m.at) t) marks

  -- a change that is apart from another one is new before it just as behind it
  test-after : (change c : Change T) (marks : List (Mark T)) → (change.0.0 == n) ≡ true → are_apart rank change c ≡ true →
      (c.0.0 == n && is_new rank (with_change rank change.1 marks) c.1) ≡ (c.0.0 == n && is_new rank marks c.1)
  test-after change c marks e apart =
      ⊎_elim
      (λ here.
      let one : (change.0.0 == c.0.0) ≡ true = eq-eqb change.0.0 c.0.0 (eqb-true change.0.0 n e ∙ sym (eqb-true c.0.0 n here)) in
      let elsewhere : int_eq (rank change.1.at) (rank c.1.at) ≡ false = grind arith in
      ap (λ b. c.0.0 == n && (is_counted c.1 && not b)) (has_mark-change change.1 marks (rank c.1.at) elsewhere))
      (λ other. ap (λ b. b && is_new rank (with_change rank change.1 marks) c.1) other ∙ sym (ap (λ b. b && is_new rank marks c.1) other))
      (cases_Bool (c.0.0 == n))

  -- so a change leaves which of the others are new, where they are of other times
  new-after : (change : Change T) (rest : List (Change T)) (marks : List (Mark T)) → (change.0.0 == n) ≡ true → list_all (are_apart rank change) rest ≡ true →
      filter (λ (c : Change T). c.0.0 == n && is_new rank (with_change rank change.1 marks) c.1) rest ≡ filter (λ (c : Change T). c.0.0 == n && is_new rank marks c.1) rest
  new-after change [] marks e apart = refl
  new-after change (c ∷ rest) marks e apart =
      ap₂ (λ b cs. cond b (c ∷ cs) cs) (test-after change c marks e (and_parts _ _ apart).0) (new-after change rest marks e (and_parts _ _ apart).1)

  pub growth-after : (change : Change T) (rest : List (Change T)) (marks : List (Mark T)) → (change.0.0 == n) ≡ true → list_all (are_apart rank change) rest ≡ true →
      growth_of rank n rest (with_change rank change.1 marks) ≡ growth_of rank n rest marks
  growth-after change rest marks e apart = ap length (new-after change rest marks e apart)

  -- no row grows by more than the changes of its property
  pub growth-count : (changes : List (Change T)) (marks : List (Mark T)) → growth_of rank n changes marks ≤ count_of n changes
  growth-count changes marks =
      length-filter_wider (λ (c : Change T). c.0.0 == n && is_new rank marks c.1) (λ c. c.0.0 == n) (λ c both. (and_parts (c.0.0 == n) (is_new rank marks c.1) both).0) changes

-- ---- how many changes are left

module _ {T : Type 0} (changes : List (Change T)) where
  -- the next change is one of its property
  count-next : (i : ℕ) (change : Change T) → slice_get changes i ≡ Some change → (n : ℕ) → (change.0.0 == n) ≡ true →
      count_of n (drop i changes) ≡ suc (count_of n (drop (suc i) changes))
  count-next i change read n e = ap (count_of n) (drop-slice_get changes i change read) ∙ rw e

  -- what is left is no more than all
  count-rest : (i n : ℕ) → count_of n (drop i changes) ≤ count_of n changes
  count-rest i n =
      let parts : count_of n changes ≡ count_of n (take i changes) + count_of n (drop i changes) =
      ap (count_of n) (sym (take-append-drop i changes)) ∙ ap length (filter-append (λ (change : Change T). change.0.0 == n) (take i changes) (drop i changes))
      ∙ length-append (filter (λ (change : Change T). change.0.0 == n) (take i changes)) (filter (λ (change : Change T). change.0.0 == n) (drop i changes)) in
      omega (arith, parts)

  -- a property of the changes is one of theirs
  pub counted-next : (i : ℕ) (change : Change T) → slice_get changes i ≡ Some change → (n : ℕ) → (change.0.0 == n) ≡ true → 1 ≤ count_of n changes
  counted-next i change read n e =
      let here = count-next i change read n e in
      let rest = count-rest i n in
      omega (arith, here, rest)

  -- none of another property
  pub count-not_next : (i : ℕ) (change : Change T) → slice_get changes i ≡ Some change → (n : ℕ) → (change.0.0 == n) ≡ false →
      count_of n (drop i changes) ≡ count_of n (drop (suc i) changes)
  count-not_next i change read n e = ap (count_of n) (drop-slice_get changes i change read) ∙ rw e

-- ---- changes, one after the other

module _ {T M : Type 0} (marks : M → List (Mark T)) (spare : M → ℕ) (rank : T → ℤ) (changes : List (Change T)) where
  -- after i changes: those that are left lead to what all of them do, from rows that keep room for them
  pub record IsApplied (i : ℕ) (start now : List (Option M)) (n : ℕ) : Type 0 where
    pub left : changed rank n (drop i changes) (marks_in (seen_at marks spare n now)) ≡ changed rank n changes (marks_in (seen_at marks spare n start))
    pub room : room_in (seen_at marks spare n start) + growth_of rank n (drop i changes) (marks_in (seen_at marks spare n now))
        ≤ room_in (seen_at marks spare n now) + growth_of rank n changes (marks_in (seen_at marks spare n start))
    pub there : is_some (kept_at n now) ≡ is_some (kept_at n start)
    pub same : count_of n changes ≡ 0 → seen_at marks spare n now ≡ seen_at marks spare n start

  pub IsApplied-none : (start : List (Option M)) (n : ℕ) → IsApplied 0 start start n
  IsApplied-none start n = record { left = refl; room = omega arith; there = refl; same = λ none. refl }

  module _ (i : ℕ) (start now : List (Option M)) (change : Change T) (read : slice_get changes i ≡ Some change) (applied : (n : ℕ) → IsApplied i start now n) where
    -- the next of the changes that are left
    rest : drop i changes ≡ change ∷ drop (suc i) changes
    rest = drop-slice_get changes i change read

    itself : (change.0.0 == change.0.0) ≡ true
    itself = eq-eqb change.0.0 change.0.0 refl

    -- what it and the others grow the row of its property
    growth-next : (n : ℕ) → (change.0.0 == n) ≡ true → growth_of rank n (drop i changes) (marks_in (seen_at marks spare n now))
        ≡ grows rank n (marks_in (seen_at marks spare n now)) change + growth_of rank n (drop (suc i) changes) (marks_in (seen_at marks spare n now))
    growth-next n e =
        ap (λ cs. growth_of rank n cs (marks_in (seen_at marks spare n now))) rest
        ∙ growth-here rank n change (drop (suc i) changes) (marks_in (seen_at marks spare n now)) e

    -- there is room for it
    pub room-next : ((n : ℕ) → growth_of rank n changes (marks_in (seen_at marks spare n start)) ≤ room_in (seen_at marks spare n start)) →
        grows rank change.0.0 (marks_in (seen_at marks spare change.0.0 now)) change ≤ room_in (seen_at marks spare change.0.0 now)
    room-next enough =
        let here = growth-next change.0.0 itself in
        let room = (applied change.0.0).room in
        let all = enough change.0.0 in
        omega (arith, here, room, all)

    module _ (apart : are_all_apart rank changes ≡ true) (new : List (Option M)) (others : (n : ℕ) → n ≢ change.0.0 → kept_at n new ≡ kept_at n now)
        (there : is_some (kept_at change.0.0 new) ≡ is_some (kept_at change.0.0 now))
        (put : marks_in (seen_at marks spare change.0.0 new) ≡ with_change rank change.1 (marks_in (seen_at marks spare change.0.0 now)))
        (room : room_in (seen_at marks spare change.0.0 now)
        ≤ room_in (seen_at marks spare change.0.0 new) + grows rank change.0.0 (marks_in (seen_at marks spare change.0.0 now)) change) where
      changed-here : (n : ℕ) (ms : List (Mark T)) → (change.0.0 == n) ≡ true →
          changed rank n (change ∷ drop (suc i) changes) ms ≡ changed rank n (drop (suc i) changes) (with_change rank change.1 ms)
      unfolding changed
      changed-here n ms e = ap (λ b. changed rank n (drop (suc i) changes) (cond b (with_change rank change.1 ms) ms)) e

      changed-other : (n : ℕ) (ms : List (Mark T)) → (change.0.0 == n) ≡ false →
          changed rank n (change ∷ drop (suc i) changes) ms ≡ changed rank n (drop (suc i) changes) ms
      unfolding changed
      changed-other n ms e = ap (λ b. changed rank n (drop (suc i) changes) (cond b (with_change rank change.1 ms) ms)) e

      -- it is apart from those behind it
      apart-next : list_all (are_apart rank change) (drop (suc i) changes) ≡ true
      apart-next =
          ascending-first (are_apart rank) change (drop (suc i) changes)
          (subst (λ cs. are_all_apart rank cs ≡ true) rest (is_ascending-drop (are_apart rank) i changes apart))

      here : IsApplied (suc i) start new change.0.0
      here =
          let before = applied change.0.0 in
          let growth = growth-next change.0.0 itself in
          let growth_left : growth_of rank change.0.0 (drop (suc i) changes) (marks_in (seen_at marks spare change.0.0 new))
          ≡ growth_of rank change.0.0 (drop (suc i) changes) (marks_in (seen_at marks spare change.0.0 now)) =
          ap (growth_of rank change.0.0 (drop (suc i) changes)) put
          ∙ growth-after rank change.0.0 change (drop (suc i) changes) (marks_in (seen_at marks spare change.0.0 now)) itself apart-next in
          let before_room = before.room in
          let some = counted-next changes i change read change.0.0 itself in
          record {
            left = ap (changed rank change.0.0 (drop (suc i) changes)) put
                ∙ sym (changed-here change.0.0 (marks_in (seen_at marks spare change.0.0 now)) itself)
                ∙ sym (ap (λ cs. changed rank change.0.0 cs (marks_in (seen_at marks spare change.0.0 now))) rest) ∙ before.left;
            room = omega (arith, growth, growth_left, before_room, room);
            there = there ∙ before.there;
            same = λ none. absurd (omega (arith, none, some));
          }

      other : (n : ℕ) → (change.0.0 == n) ≡ false → IsApplied (suc i) start new n
      other n e =
          let before = applied n in
          let kept = others n (eqb-apart change.0.0 n e) in
          let stays : seen_at marks spare n new ≡ seen_at marks spare n now = ap (option_map (row_of marks spare)) kept in
          let stays_room : room_in (seen_at marks spare n new) ≡ room_in (seen_at marks spare n now) = ap room_in stays in
          let growth : growth_of rank n (drop (suc i) changes) (marks_in (seen_at marks spare n new)) ≡ growth_of rank n (drop i changes) (marks_in (seen_at marks spare n now)) =
          ap (λ row. growth_of rank n (drop (suc i) changes) (marks_in row)) stays
          ∙ sym (growth-other rank n change (drop (suc i) changes) (marks_in (seen_at marks spare n now)) e)
          ∙ sym (ap (λ cs. growth_of rank n cs (marks_in (seen_at marks spare n now))) rest) in
          let before_room = before.room in
          record {
            left = ap (λ row. changed rank n (drop (suc i) changes) (marks_in row)) stays
                ∙ sym (changed-other n (marks_in (seen_at marks spare n now)) e)
                ∙ sym (ap (λ cs. changed rank n cs (marks_in (seen_at marks spare n now))) rest) ∙ before.left;
            room = omega (arith, growth, before_room, stays_room);
            there = ap is_some kept ∙ before.there;
            same = λ none. stays ∙ before.same none;
          }

      pub IsApplied-more : (n : ℕ) → IsApplied (i + 1) start new n
      IsApplied-more n =
          rw add-one
          (⊎_elim (λ e. subst (IsApplied (suc i) start new) (eqb-true change.0.0 n e) here) (other n) (cases_Bool (change.0.0 == n)))

  -- in the end all of them are done
  pub marks-applied : (i : ℕ) (start now : List (Option M)) (n : ℕ) → IsApplied i start now n → length changes ≤ i →
      marks_in (seen_at marks spare n now) ≡ changed rank n changes (marks_in (seen_at marks spare n start))
  unfolding changed
  marks-applied i start now n applied end =
      sym (ap (λ cs. changed rank n cs (marks_in (seen_at marks spare n now))) (drop_of_length-le changes end)) ∙ applied.left
