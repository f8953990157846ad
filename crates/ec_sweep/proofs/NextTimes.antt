-- The next time at which anything bears on a property.
use Rattle.std.proofs.Common.{◌≡◌, ℕ, ℤ, ◌<ℤ◌, ◌≤ℤ◌, true, List, [], ◌∷◌, drop, Option, Some, None, IsTrue, IsSomeAnd, refl, sym, ap, subst, ◌∙◌, ◌⊎◌, inl, inr, ⊎_elim, arith}
use Rattle.std.specs.Prelude.{◌==◌, int_le, int_lt, IfNone, IfSome, option_map, slice_get}
use Rattle.std.specs.List.{list_all}
use Rattle.std.specs.Option.{option_to_list}
use Rattle.std.specs.Ordering.{int_eq}
use Rattle.std.proofs.lemmas.Bool.{and_from, eq-eqb}
use Rattle.std.proofs.lemmas.Int.{ints}
use Rattle.std.proofs.lemmas.Option.{none-some}
use Rattle.ec_lists.proofs.Fronts.{drop-slice_get}
use Rattle.ec_lists.proofs.Integers.{int_eq-is, int_eq-same, int_le-is, int_lt-from, int_lt-is}
use Rattle.ec_axioms.proofs.Members.{IsMember, IsMember-filter, IsMember-from_filter, list_all-member, list_any-member, member-list_any}
use Rattle.ec_entries.specs.declared.event_entries.Dependent.{Dependent}
use Rattle.ec_entries.specs.Dependents.{AreDependents, dependent_at, dependents_after, is_from}
use Rattle.ec_rows.specs.declared.mark.Mark.{Mark}
use Rattle.ec_rows.specs.Marks.{IsMarkRow, has_mark, mark_before, marks_after}
use Rattle.ec_rows.specs.Ordered.{is_ascending}
use Rattle.ec_points.specs.Table.{PointTable, marks_at}
use Rattle.ec_rows.proofs.OrderedLemmas.{ascending-first, is_ascending-filter}
use Rattle.ec_sweep.specs.Hits.{Slots}
use Rattle.ec_sweep.specs.Settling.{IsNextMark, IsReadAt}

-- where the earlier of two is nothing, both are
pub earlier-none : {T : Type 0} (first second result : Option T) → IfNone result ((first ≡ None) × (second ≡ None)) → result ≡ None → (first ≡ None) × (second ≡ None)
earlier-none first second result both none = subst (λ o. IfNone o ((first ≡ None) × (second ≡ None))) none both

-- one of two that is something is so as the one that it is
pub earlier-one : {T : Type 0} (first second result : Option T) (A B C : T → Type 0) → ((t : T) → A t → C t) → ((t : T) → B t → C t) → (result ≡ first) ⊎ (result ≡ second)
    → IfSome first A → IfSome second B → IfSome result C
earlier-one {T} first second result A B C left right either one two =
    ⊎_elim (λ same. subst (λ o. IfSome o C) (sym same) (wider first A left one)) (λ same. subst (λ o. IfSome o C) (sym same) (wider second B right two)) either
  where
    wider : (o : Option T) (P : T → Type 0) → ((t : T) → P t → C t) → IfSome o P → IfSome o C
    wider None P up holds = tt
    wider (Some t) P up holds = up t holds

module _ {T : Type 0} (rank : T → ℤ) (t : ℤ) where
  -- ---- marks

  -- a mark behind t is among those behind t
  mark-after : (marks : List (Mark T)) (u : ℤ) → t <ℤ u → IsTrue (has_mark rank u marks) → (m : Mark T) × IsMember (marks_after rank t marks) m × (rank m.at ≡ u)
  mark-after marks u later has =
      let found = list_any-member (λ (m : Mark T). int_eq (rank m.at) u) marks has in
      let time = int_eq-is (rank found.0.at) u found.2 in (
        found.0,
        IsMember-filter (λ (m : Mark T). int_lt t (rank m.at)) marks found.0 found.1 (int_lt-from t (rank found.0.at) (subst (λ s. t <ℤ s) (sym time) later)),
        time,
      )

  -- where no mark is behind t, none is at any later time
  no_mark-after : (marks : List (Mark T)) → marks_after rank t marks ≡ [] → (u : ℤ) → t <ℤ u → IsTrue (has_mark rank u marks) → ⊥
  no_mark-after marks none u later has = let found = mark-after marks u later has in subst (λ ms. IsMember ms found.0) none found.1

  module _ (marks : List (Mark T)) (mark : Mark T) (row : IsMarkRow rank marks) (first : slice_get (marks_after rank t marks) 0 ≡ Some mark) where
    front : marks_after rank t marks ≡ mark ∷ drop 1 (marks_after rank t marks)
    front = drop-slice_get (marks_after rank t marks) 0 mark first

    -- the first mark behind t is behind it, and is a mark
    first_mark-is : (t <ℤ rank mark.at) × IsTrue (has_mark rank (rank mark.at) marks)
    first_mark-is =
        let member = IsMember-from_filter (λ (m : Mark T). int_lt t (rank m.at)) marks mark (subst (λ ms. IsMember ms mark) (sym front) (inl refl)) in
        (int_lt-is t (rank mark.at) member.1, member-list_any (λ (m : Mark T). int_eq (rank m.at) (rank mark.at)) marks mark member.0 (int_eq-same (rank mark.at)))

    -- and no other is earlier
    first_mark-least : (u : ℤ) → t <ℤ u → IsTrue (has_mark rank u marks) → rank mark.at ≤ℤ u
    first_mark-least u later has =
        let found = mark-after marks u later has in
        let time = found.2 in
        ⊎_elim
        (λ same. let equal : rank mark.at ≡ rank found.0.at = ap (λ (m : Mark T). rank m.at) same in omega (arith, ints))
        (λ behind.
        let before =
        int_lt-is (rank mark.at) (rank found.0.at)
        (list_all-member (mark_before rank mark) (drop 1 (marks_after rank t marks)) found.0
        (ascending-first (mark_before rank) mark (drop 1 (marks_after rank t marks))
        (subst (λ ms. is_ascending (mark_before rank) ms ≡ true) front (is_ascending-filter (mark_before rank) (λ (m : Mark T). int_lt t (rank m.at)) marks row.ascending))) behind) in
        omega (arith, ints))
        (subst (λ ms. IsMember ms found.0) front found.1)

  -- the first of the marks behind t is at the next time
  pub IsNextMark-first : (points : PointTable T) (n : ℕ) → IsMarkRow rank (marks_at n points) → (first : Option (Mark T)) (next : Option T)
      → first ≡ slice_get (marks_after rank t (marks_at n points)) 0 → next ≡ option_map (λ m. m.at) first → IsNextMark rank points n t next
  IsNextMark-first points n row None None is time = record {
    some = tt;
    least = λ u later has. absurd (no_mark-after (marks_at n points) (none-first (marks_after rank t (marks_at n points)) (sym is)) u later has);
  }
    where
      none-first : (ms : List (Mark T)) → slice_get ms 0 ≡ None → ms ≡ []
      none-first [] none = refl
      none-first (m ∷ ms) none = absurd (none-some m (sym none))
  IsNextMark-first points n row None (Some at) is time = absurd (none-some at (sym time))
  IsNextMark-first points n row (Some mark) None is time = absurd (none-some mark.at time)
  IsNextMark-first points n row (Some mark) (Some at) is time =
      let same : at ≡ mark.at = cc in
      record {
        some = subst (λ (s : T). (t <ℤ rank s) × IsTrue (has_mark rank (rank s) (marks_at n points))) (sym same) (first_mark-is (marks_at n points) mark row (sym is));
        least = λ u later has. subst (λ (s : T). rank s ≤ℤ u) (sym same) (first_mark-least (marks_at n points) mark row (sym is) u later has);
      }

  -- ---- entries that read

  module _ (n : ℕ) (slots : Slots T) (dependents : List (Dependent T)) (exact : AreDependents rank n slots dependents) where
    -- a member is a dependent that an entry makes
    member-made : (d : Dependent T) → IsMember dependents d → dependent_at n slots d.slot.0 d.place ≡ Some d
    member-made d member =
        of (dependent_at n slots d.slot.0 d.place)
        (subst (λ ds. IsMember ds d) (exact.exact d.slot.0 d.place)
        (IsMember-filter (is_from d.slot.0 d.place) dependents d member (and_from (d.slot.0 == d.slot.0) (d.place == d.place) (eq-eqb d.slot.0 d.slot.0 refl) (eq-eqb d.place d.place refl))))
      where
        of : (o : Option (Dependent T)) → IsMember (option_to_list o) d → o ≡ Some d
        of None there = absurd there
        of (Some other) (inl same) = ap Some same
        of (Some other) (inr nothing) = absurd nothing

    -- and the other way
    made-member : (slot place : ℕ) (d : Dependent T) → dependent_at n slots slot place ≡ Some d → IsMember dependents d
    made-member slot place d is =
        (IsMember-from_filter (is_from slot place) dependents d (subst (λ ds. IsMember ds d) (sym (exact.exact slot place ∙ ap option_to_list is)) (inl refl))).0

    pub first_read-is : (next : Option T) → next ≡ option_map (λ (d : Dependent T). d.at) (slice_get (dependents_after rank t dependents) 0)
        → IfSome next (λ s. (t <ℤ rank s) × IsReadAt rank slots n (rank s))
    first_read-is next is = of (dependents_after rank t dependents) refl
      where
        of : (ds : List (Dependent T)) → dependents_after rank t dependents ≡ ds → IfSome next (λ s. (t <ℤ rank s) × IsReadAt rank slots n (rank s))
        of [] none =
            subst (λ o. IfSome o (λ s. (t <ℤ rank s) × IsReadAt rank slots n (rank s)))
            (sym (is ∙ ap (λ xs. option_map (λ (d : Dependent T). d.at) (slice_get xs 0)) none)) tt
        of (d ∷ ds) some =
            let member = IsMember-from_filter (λ (e : Dependent T). int_lt t (rank e.at)) dependents d (subst (λ xs. IsMember xs d) (sym some) (inl refl)) in
            subst (λ o. IfSome o (λ s. (t <ℤ rank s) × IsReadAt rank slots n (rank s)))
            (sym (is ∙ ap (λ xs. option_map (λ (e : Dependent T). e.at) (slice_get xs 0)) some))
            (int_lt-is t (rank d.at) member.1, record { slot = d.slot.0; place = d.place; dependent = d; there = member-made d member.0; time = refl })

    pub first_read-least : (next : Option T) → next ≡ option_map (λ (d : Dependent T). d.at) (slice_get (dependents_after rank t dependents) 0)
        → IfSome next (λ s. IsTrue (list_all (λ (d : Dependent T). int_le (rank s) (rank d.at)) (dependents_after rank t dependents)))
        → (u : ℤ) → t <ℤ u → IsReadAt rank slots n u → IsSomeAnd next (λ s. rank s ≤ℤ u)
    first_read-least next is least u later read =
        let member =
        IsMember-filter (λ (d : Dependent T). int_lt t (rank d.at)) dependents read.dependent (made-member read.slot read.place read.dependent read.there)
        (int_lt-from t (rank read.dependent.at) (subst (λ s. t <ℤ s) (sym read.time) later)) in
        of next (dependents_after rank t dependents) refl is least member
      where
        of : (o : Option T) (ds : List (Dependent T)) → dependents_after rank t dependents ≡ ds → o ≡ option_map (λ (d : Dependent T). d.at) (slice_get (dependents_after rank t dependents) 0)
            → IfSome o (λ s. IsTrue (list_all (λ (d : Dependent T). int_le (rank s) (rank d.at)) (dependents_after rank t dependents)))
            → IsMember (dependents_after rank t dependents) read.dependent → IsSomeAnd o (λ s. rank s ≤ℤ u)
        of o [] none is least member = absurd (subst (λ xs. IsMember xs read.dependent) none member)
        of None (d ∷ ds) some is least member = absurd (none-some d.at (is ∙ ap (λ xs. option_map (λ (e : Dependent T). e.at) (slice_get xs 0)) some))
        of (Some s) (d ∷ ds) some is least member =
            let within = int_le-is (rank s) (rank read.dependent.at) (list_all-member (λ (e : Dependent T). int_le (rank s) (rank e.at)) (dependents_after rank t dependents) read.dependent least member) in
            subst (λ v. rank s ≤ℤ v) read.time within

  -- ---- the earlier of two

  -- what is no later than one of two is no later than what that is no later than
  pub earlier-by : (o next : Option T) (u : ℤ) → (next ≡ None → o ≡ None) → IfSome o (λ a. IfSome next (λ s. rank s ≤ℤ rank a)) → IsSomeAnd o (λ a. rank a ≤ℤ u)
      → IsSomeAnd next (λ s. rank s ≤ℤ u)
  earlier-by None next u none before within = absurd within
  earlier-by (Some a) None u none before within = absurd (none-some a (sym (none refl)))
  earlier-by (Some a) (Some s) u none before within = omega (arith, ints)
