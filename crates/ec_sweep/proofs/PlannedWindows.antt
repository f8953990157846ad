-- The windows in which the marks of a property change, with one change more.
use Rattle.std.proofs.Common.{◌≡◌, ℕ, ◌+◌, ◌≤◌, ℤ, ◌<ℤ◌, ◌≤ℤ◌, Bool, true, false, ◌&&◌, List, length, filter, Option, Some, None, IsTrue, refl, sym, ap, ap₂, subst, ◌∙◌, ⊎_elim, arith}
use Rattle.std.specs.Prelude.{IsSome, unwrap_or, if◌then◌else◌}
use Rattle.std.specs.Ordering.{int_eq}
use Rattle.std.proofs.lemmas.Bool.{cases_Bool, and_parts, false≢true, or_cases}
use Rattle.std.proofs.lemmas.Int.{ints}
use Rattle.std.proofs.lemmas.Option.{none-some}
use Rattle.ec_lists.proofs.Integers.{int_eq-is}
use Rattle.ec_store.specs.Table.{prop_at}
use Rattle.ec_points.specs.Changes.{Change as MarkChange, count_of, growth_of, has_change, is_new}
use Rattle.ec_points.specs.Table.{marks_at}
use Rattle.ec_rows.specs.declared.mark.Mark.{Mark}
use Rattle.ec_parts.specs.StandFor.{View}
use Rattle.ec_revise.specs.declared.settled.Settled.{Settled}
use Rattle.ec_delta.specs.declared.delta.Planned.{Planned}
use Rattle.ec_delta.specs.declared.touches.Touch.{Touch}
use Rattle.ec_delta.specs.declared.touches.Touched.{Touched}
use Rattle.ec_delta.specs.Ready.{AreWindows, IsWithin}
use Rattle.ec_delta.specs.Touched.{count_if, touched_at, touched_with}
use Rattle.ec_sweep.specs.Settling.{own_changes, starts_of, touch_of, touched_if, with_if}
use Rattle.ec_sweep.proofs.OwnChanges.{count_of-more, growth_of-more, growth_of-own, growth_of-within, has_change-first, has_change-more, has_change-same}

-- what is said of the windows of one property
pub record HasWindow {T : Type 0} (rank : T → ℤ) (view : View T) (planned : Planned T) (n : ℕ) : Type 0 where
  pub window : (t : ℤ) → IsTrue (has_change rank n t planned.marks) → (touched : Touched T) × (touched_at n planned.touched ≡ Some touched) × IsWithin rank t touched
  pub in_order : (touched : Touched T) → touched_at n planned.touched ≡ Some touched → rank touched.from ≤ℤ rank touched.until
  pub kept : (touched : Touched T) → touched_at n planned.touched ≡ Some touched → IsSome (prop_at n view.table)
  pub counted : (touched : Touched T) → touched_at n planned.touched ≡ Some touched → count_of n planned.marks ≤ touched.count
  pub grown : (touched : Touched T) → touched_at n planned.touched ≡ Some touched → growth_of rank n planned.marks (marks_at n view.points) ≤ touched.grows
  pub started : (touched : Touched T) → touched_at n planned.touched ≡ Some touched → growth_of rank n planned.initiations (marks_at n view.initiations) ≤ touched.starts
  pub started_only : touched_at n planned.touched ≡ None → count_of n planned.initiations ≡ 0

pub HasWindow-from : {T : Type 0} (rank : T → ℤ) (view : View T) (planned : Planned T) (n : ℕ) → AreWindows rank view planned → HasWindow rank view planned n
HasWindow-from rank view planned n are = record {
  window = are.windows n;
  in_order = are.in_order n;
  kept = are.kept n;
  counted = are.counted n;
  grown = are.grown n;
  started = are.started n;
  started_only = are.started_only n;
}

pub AreWindows-from : {T : Type 0} (rank : T → ℤ) (view : View T) (planned : Planned T) → ((n : ℕ) → HasWindow rank view planned n) → AreWindows rank view planned
AreWindows-from rank view planned has = record {
  windows = λ n. (has n).window;
  in_order = λ n. (has n).in_order;
  kept = λ n. (has n).kept;
  counted = λ n. (has n).counted;
  grown = λ n. (has n).grown;
  started = λ n. (has n).started;
  started_only = λ n. (has n).started_only;
}

module _ {T : Type 0} (rank : T → ℤ) (view : View T) (n : ℕ) (planned after : Planned T) (has : HasWindow rank view planned n) where
  -- a property that is left alone keeps its window
  pub HasWindow-left : own_changes n after.marks ≡ own_changes n planned.marks → own_changes n after.initiations ≡ own_changes n planned.initiations
      → touched_at n after.touched ≡ touched_at n planned.touched → HasWindow rank view after n
  HasWindow-left marks initiations touched = record {
    window = λ t change.
        let found = has.window t (sym (has_change-same rank n t planned.marks after.marks marks) ∙ change) in
        (found.0, touched ∙ found.1, found.2);
    in_order = λ x is. has.in_order x (sym touched ∙ is);
    kept = λ x is. has.kept x (sym touched ∙ is);
    counted = λ x is. subst (λ k. k ≤ x.count) (sym (ap length marks)) (has.counted x (sym touched ∙ is));
    grown = λ x is. subst (λ k. k ≤ x.grows) (sym (growth_same after.marks planned.marks (marks_at n view.points) marks)) (has.grown x (sym touched ∙ is));
    started = λ x is. subst (λ k. k ≤ x.starts) (sym (growth_same after.initiations planned.initiations (marks_at n view.initiations) initiations)) (has.started x (sym touched ∙ is));
    started_only = λ none. ap length initiations ∙ has.started_only (sym touched ∙ none);
  }
    where
      growth_same : (more some : List (MarkChange T)) (marks : List (Mark T)) → own_changes n more ≡ own_changes n some → growth_of rank n more marks ≡ growth_of rank n some marks
      growth_same more some marks same =
          growth_of-own rank n more marks ∙ ap (λ cs. length (filter (λ (c : MarkChange T). is_new rank marks c.1) cs)) same ∙ sym (growth_of-own rank n some marks)

  -- a property that is not touched has no change
  untouched : touched_at n planned.touched ≡ None → count_of n planned.marks ≡ 0
  untouched none =
      has_change-first rank n planned.marks
      (λ t change. let found = has.window t change in none-some found.0 (sym none ∙ found.1))

  module _ (at : T) (old : Mark T) (settled : Settled T) (planned_starts : Bool)
      (marks : own_changes n after.marks ≡ with_if settled.is_changed (record { 0 = n }, settled.mark) (own_changes n planned.marks))
      (initiations : own_changes n after.initiations ≡ with_if planned_starts (record { 0 = n }, starts_of settled.mark) (own_changes n planned.initiations))
      (touched : touched_at n after.touched ≡ touched_if settled.is_changed (touch_of planned_starts old settled) (touched_at n planned.touched))
      (here : rank settled.mark.at ≡ rank at)
      (earlier : (x : Touched T) → touched_at n planned.touched ≡ Some x → rank x.until <ℤ rank at)
      (is_kept : IsSome (prop_at n view.table))
      (unplanned : settled.is_changed ≡ false → planned_starts ≡ false)
      (grows : is_new rank (marks_at n view.points) settled.mark ≡ true → (touch_of planned_starts old settled).grows ≡ true)
      (starts : planned_starts ≡ true → is_new rank (marks_at n view.initiations) (starts_of settled.mark) ≡ true → (touch_of planned_starts old settled).starts ≡ true) where
    abbrev touch : Touch T
    touch = touch_of planned_starts old settled

    growth : growth_of rank n after.marks (marks_at n view.points)
        ≡ growth_of rank n planned.marks (marks_at n view.points) + (if settled.is_changed && is_new rank (marks_at n view.points) settled.mark then 1 else 0)
    growth = growth_of-more rank n settled.is_changed (record { 0 = n }, settled.mark) planned.marks after.marks marks (marks_at n view.points)

    start_growth : growth_of rank n after.initiations (marks_at n view.initiations)
        ≡ growth_of rank n planned.initiations (marks_at n view.initiations) + (if planned_starts && is_new rank (marks_at n view.initiations) (starts_of settled.mark) then 1 else 0)
    start_growth = growth_of-more rank n planned_starts (record { 0 = n }, starts_of settled.mark) planned.initiations after.initiations initiations (marks_at n view.initiations)

    count : count_of n after.marks ≡ count_of n planned.marks + (if settled.is_changed then 1 else 0)
    count = count_of-more rank n settled.is_changed (record { 0 = n }, settled.mark) planned.marks after.marks marks

    -- where it changes, what is touched is what was, with the change; where not, it is what was
    pub record IsTouchedBy (x : Touched T) (before : Option (Touched T)) : Type 0 where
      pub was : touched_at n planned.touched ≡ before
      pub now : x ≡ touched_with touch before

    by_change : (P : Touched T → Type 0) → (x : Touched T) → touched_at n after.touched ≡ Some x
        → (settled.is_changed ≡ true → IsTouchedBy x (touched_at n planned.touched) → P x)
        → (settled.is_changed ≡ false → touched_at n planned.touched ≡ Some x → P x) → P x
    by_change P x is with_change without =
        ⊎_elim
        (λ moves.
        let both : Some (touched_with touch (touched_at n planned.touched)) ≡ Some x = sym (ap (λ b. touched_if b touch (touched_at n planned.touched)) moves) ∙ sym touched ∙ is in
        with_change moves (record { was = refl; now = sym (ap (λ o. unwrap_or o x) both) }))
        (λ stays. without stays (sym (ap (λ b. touched_if b touch (touched_at n planned.touched)) stays) ∙ sym touched ∙ is))
        (cases_Bool settled.is_changed)

    -- of each number that is counted
    bound : (number : List (MarkChange T) → ℕ) (x y more k : ℕ) → x ≡ y + more → y ≤ k → more ≤ 1 → x ≤ k + 1
    bound number x y more k is below small = omega arith

    window : (t : ℤ) → IsTrue (has_change rank n t after.marks) → (x : Touched T) × (touched_at n after.touched ≡ Some x) × IsWithin rank t x
    window t change =
        ⊎_elim
        (λ was. let found = has.window t was in earlier_one found.0 found.1 found.2 (touched_at n planned.touched) refl settled.is_changed refl)
        (λ new. let both = and_parts settled.is_changed (int_eq (rank settled.mark.at) t) new in this_one (int_eq-is (rank settled.mark.at) t both.1) both.0 (touched_at n planned.touched) refl)
        (or_cases (has_change rank n t planned.marks) (settled.is_changed && int_eq (rank settled.mark.at) t)
        (sym (has_change-more rank n settled.is_changed (record { 0 = n }, settled.mark) planned.marks after.marks marks t) ∙ change))
      where
        earlier_one : (x : Touched T) → touched_at n planned.touched ≡ Some x → IsWithin rank t x → (o : Option (Touched T)) → touched_at n planned.touched ≡ o → (b : Bool) → settled.is_changed ≡ b
            → (y : Touched T) × (touched_at n after.touched ≡ Some y) × IsWithin rank t y
        earlier_one x is within o was false stays = (x, touched ∙ ap (λ b. touched_if b touch (touched_at n planned.touched)) stays ∙ is, within)
        earlier_one x is within o was true moves =
            let before = earlier x is in
            let low = within.0 in
            let high = within.1 in (
              touched_with touch (Some x),
              touched ∙ ap₂ (λ b p. touched_if b touch p) moves is,
              (within.0, omega (arith, ints)),
            )

        this_one : rank settled.mark.at ≡ t → settled.is_changed ≡ true → (o : Option (Touched T)) → touched_at n planned.touched ≡ o
            → (y : Touched T) × (touched_at n after.touched ≡ Some y) × IsWithin rank t y
        this_one same moves None was = (touched_with touch None, touched ∙ ap₂ (λ b p. touched_if b touch p) moves was, (omega (arith, ints), omega (arith, ints)))
        this_one same moves (Some x) was =
            let before = earlier x was in
            let ordered = has.in_order x was in
            (touched_with touch (Some x), touched ∙ ap₂ (λ b p. touched_if b touch p) moves was, (omega (arith, ints), omega (arith, ints)))

    -- a bound on a count that the change raises by one at most, where what is touched counts it
    raised : (value was more : ℕ) (of : Touched T → ℕ) (some : Bool) → value ≡ was + more → more ≤ count_if 0 some
        → ((touched_at n planned.touched ≡ None) → was ≡ 0) → ((x : Touched T) → touched_at n planned.touched ≡ Some x → was ≤ of x)
        → (of (touched_with touch None) ≡ count_if 0 some) → ((x : Touched T) → of (touched_with touch (Some x)) ≡ count_if (of x) some)
        → (x : Touched T) → IsTouchedBy x (touched_at n planned.touched) → value ≤ of x
    raised value was more of some is small none_before below first wider x by = go (touched_at n planned.touched) by.was by.now
      where
        go : (o : Option (Touched T)) → touched_at n planned.touched ≡ o → x ≡ touched_with touch (touched_at n planned.touched) → value ≤ of x
        go None was_none now =
            let zero_before = none_before was_none in
            let value_of : of x ≡ count_if 0 some = ap of (now ∙ ap (touched_with touch) was_none) ∙ first in omega arith
        go (Some y) was_some now =
            let before = below y was_some in
            let value_of : of x ≡ count_if (of y) some = ap of (now ∙ ap (touched_with touch) was_some) ∙ wider y in more_of some (of y) before small value_of
          where
            more_of : (b : Bool) (k : ℕ) → was ≤ k → more ≤ count_if 0 b → of x ≡ count_if k b → value ≤ of x
            more_of true k before small is_of = omega arith
            more_of false k before small is_of = omega arith

    at_most : (b c : Bool) → (b ≡ true → c ≡ true) → (if b then 1 else 0) ≤ count_if 0 c
    at_most true true implied = omega arith
    at_most true false implied = absurd (false≢true (implied refl))
    at_most false true implied = omega arith
    at_most false false implied = omega arith

    no_more : (value was : ℕ) (k : ℕ) (b : Bool) → value ≡ was + (if b then 1 else 0) → b ≡ false → was ≤ k → value ≤ k
    no_more value was k true is false_one below = absurd (false≢true (sym false_one))
    no_more value was k false is false_one below = omega arith

    -- a property that is settled has its window
    pub HasWindow-settled : HasWindow rank view after n
    HasWindow-settled = record {
      window = window;
      in_order = λ x is.
          by_change (λ y. rank y.from ≤ℤ rank y.until) x is
          (λ moves by. ordered x (touched_at n planned.touched) refl by.now)
          (λ stays was. has.in_order x was);
      kept = λ x is. is_kept;
      counted = λ x is.
          by_change (λ y. count_of n after.marks ≤ y.count) x is
          (λ moves by. raised _ _ _ (λ y. y.count) true count (at_most settled.is_changed true (λ b. refl)) untouched has.counted refl (λ y. refl) x by)
          (λ stays was. no_more _ _ _ settled.is_changed count stays (has.counted x was));
      grown = λ x is.
          by_change (λ y. growth_of rank n after.marks (marks_at n view.points) ≤ y.grows) x is
          (λ moves by.
          raised _ _ _ (λ y. y.grows) touch.grows growth (at_most (settled.is_changed && is_new rank (marks_at n view.points) settled.mark) touch.grows (λ both. grows (and_parts settled.is_changed _ both).1))
          (λ none. growth_of-within rank n planned.marks (marks_at n view.points) (untouched none)) has.grown refl (λ y. refl) x by)
          (λ stays was. no_more _ _ _ _ growth (ap (λ b. b && is_new rank (marks_at n view.points) settled.mark) stays) (has.grown x was));
      started = λ x is.
          by_change (λ y. growth_of rank n after.initiations (marks_at n view.initiations) ≤ y.starts) x is
          (λ moves by.
          raised _ _ _ (λ y. y.starts) touch.starts start_growth
          (at_most (planned_starts && is_new rank (marks_at n view.initiations) (starts_of settled.mark)) touch.starts (λ both. let each = and_parts planned_starts _ both in starts each.0 each.1))
          (λ none. growth_of-within rank n planned.initiations (marks_at n view.initiations) (has.started_only none)) has.started refl (λ y. refl) x by)
          (λ stays was.
          no_more _ _ _ _ start_growth
          (ap (λ b. b && is_new rank (marks_at n view.initiations) (starts_of settled.mark)) (unplanned stays)) (has.started x was));
      started_only = λ none.
          ⊎_elim
          (λ moves. absurd (none-some _ (sym none ∙ touched ∙ ap (λ b. touched_if b touch (touched_at n planned.touched)) moves)))
          (λ stays.
          ap length (initiations ∙ ap (λ b. with_if b (record { 0 = n }, starts_of settled.mark) (own_changes n planned.initiations)) (unplanned stays))
          ∙ has.started_only (sym (touched ∙ ap (λ b. touched_if b touch (touched_at n planned.touched)) stays) ∙ none))
          (cases_Bool settled.is_changed);
    }
      where
        ordered : (x : Touched T) (o : Option (Touched T)) → touched_at n planned.touched ≡ o → x ≡ touched_with touch (touched_at n planned.touched) → rank x.from ≤ℤ rank x.until
        ordered x None was now =
            subst (λ (y : Touched T). rank y.from ≤ℤ rank y.until) (sym (now ∙ ap (touched_with touch) was)) (let same : rank touch.at ≡ rank touch.at = refl in omega (arith, ints))
        ordered x (Some y) was now =
            let before = earlier y was in
            let low = has.in_order y was in
            subst (λ (z : Touched T). rank z.from ≤ℤ rank z.until) (sym (now ∙ ap (touched_with touch) was)) (omega (arith, ints))

    -- and none of it goes beyond the instant
    pub until-settled : (x : Touched T) → touched_at n after.touched ≡ Some x → rank x.until ≤ℤ rank at
    until-settled x is =
        by_change (λ y. rank y.until ≤ℤ rank at) x is
        (λ moves by. last x (touched_at n planned.touched) refl by.now)
        (λ stays was. let before = earlier x was in omega (arith, ints))
      where
        last : (x : Touched T) (o : Option (Touched T)) → touched_at n planned.touched ≡ o → x ≡ touched_with touch (touched_at n planned.touched) → rank x.until ≤ℤ rank at
        last x None was now = subst (λ (y : Touched T). rank y.until ≤ℤ rank at) (sym (now ∙ ap (touched_with touch) was)) (omega (arith, ints))
        last x (Some y) was now = subst (λ (z : Touched T). rank z.until ≤ℤ rank at) (sym (now ∙ ap (touched_with touch) was)) (omega (arith, ints))
