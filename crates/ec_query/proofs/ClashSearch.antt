-- The times of clashes, searched from one to the next.
use Rattle.std.proofs.Common.{◌≡◌, ℕ, ◌<◌, ℤ, Bool, true, false, List, [], ◌∷◌, length, map, filter, find, Option, Some, None, refl, sym, ap, subst, ◌∙◌, ⊎_elim}
use Rattle.std.specs.Prelude.{int_lt, flat_map}
use Rattle.std.specs.Ordering.{int_eq}
use Rattle.std.proofs.lemmas.Bool.{false≢true}
use Rattle.ec_lists.proofs.Filters.{filter-each}
use Rattle.ec_lists.proofs.Integers.{int_eq-is, int_lt-same, int_lt-not_after, int_lt-trans}
use Rattle.ec_axioms.proofs.Members.{IsMember, IsMember-filter, IsMember-from_contains, IsMember-from_filter, IsMember-map, Contains-from_member, filter_none, find-Some, find-None, list_any-member, length-filter_fewer}
use Rattle.ec_changes.proofs.JoinedMembers.{IsMember-flat_map}
use Rattle.ec_rows.specs.declared.mark.Mark.{Mark}
use Rattle.ec_rows.proofs.OrderedPairs.{IsPairwise-ascending}
use Rattle.ec_points.specs.Table.{PointRow, PointTable, marks_in}
use Rattle.ec_points.specs.Clashes.{clashes_at, clashes_in, is_behind, is_some_clash, some_clash_at}
use Rattle.ec_query.specs.Marked.{AreClashTimes}
use Rattle.ec_query.proofs.NextOfOrder.{IsSearchedBy, filter-next}

-- the times that are left behind one
abbrev pub left_behind : {T : Type 0} → (T → ℤ) → Option T → List ℤ → List ℤ
left_behind rank after times = filter (is_behind rank after) times

is_behind-searched : {T : Type 0} (rank : T → ℤ) (after : Option T) → IsSearchedBy int_lt (is_behind rank after)
is_behind-searched rank None = record { never = int_lt-same; one_way = int_lt-not_after; upward = λ s t _ _. refl }
is_behind-searched rank (Some at) = record { never = int_lt-same; one_way = int_lt-not_after; upward = int_lt-trans (rank at) }

-- a time is the next with a clash
pub record IsNextClash {T : Type 0} (rank : T → ℤ) (points : PointTable T) (after : Option T) (at : T) : Type 0 where
  pub some : some_clash_at rank (rank at) points ≡ true
  pub behind : is_behind rank after (rank at) ≡ true
  pub least : (n : ℕ) (t : ℤ) → is_behind rank after t ≡ true → int_lt t (rank at) ≡ true → clashes_at rank n t points ≡ false

module _ {T : Type 0} (rank : T → ℤ) (points : PointTable T) (times : List ℤ) (are : AreClashTimes rank points times) (after : Option T) where
  -- it is the first of those that are left
  find-next : (at : T) → IsNextClash rank points after at → find (is_behind rank after) times ≡ Some (rank at)
  find-next at next = by_found (find (is_behind rank after) times) refl
    where
      there : IsMember times (rank at)
      there = IsMember-from_contains times (rank at) (are.all (rank at) next.some)

      by_found : (o : Option ℤ) → find (is_behind rank after) times ≡ o → o ≡ Some (rank at)
      by_found None none = absurd (false≢true (sym (find-None (is_behind rank after) times (rank at) none there) ∙ next.behind))
      by_found (Some x) some =
          let found = find-Some (is_behind rank after) times x some in
          let clash = are.clashing x (Contains-from_member times x found.0) in
          let rest = filter-next int_lt (is_behind rank after) (is_behind-searched rank after) times (IsPairwise-ascending int_lt times are.ascending) x some in
          let listed : IsMember (x ∷ filter (int_lt x) times) (rank at) = subst (λ (ts : List ℤ). IsMember ts (rank at)) rest (IsMember-filter (is_behind rank after) times (rank at) there next.behind) in
          ⊎_elim
          (λ same. ap Some same)
          (λ later. absurd (false≢true (sym (next.least clash.0 x found.1 (IsMember-from_filter (int_lt x) times (rank at) later).1) ∙ clash.1)))
          listed

  pub left_behind-next : (at : T) → IsNextClash rank points after at → left_behind rank after times ≡ rank at ∷ left_behind rank (Some at) times
  left_behind-next at next =
      filter-next int_lt (is_behind rank after) (is_behind-searched rank after) times (IsPairwise-ascending int_lt times are.ascending) (rank at) (find-next at next)

  pub left_behind-none : ((n : ℕ) (t : ℤ) → is_behind rank after t ≡ true → clashes_at rank n t points ≡ false) → left_behind rank after times ≡ []
  left_behind-none none =
      filter_none (is_behind rank after) times
      (λ t member.
      let clash = are.clashing t (Contains-from_member times t member) in
      by_case t (clash.0) clash.1 (is_behind rank after t) refl)
    where
      by_case : (t : ℤ) (n : ℕ) → clashes_at rank n t points ≡ true → (b : Bool) → is_behind rank after t ≡ b → b ≡ false
      by_case t n clash true behind = absurd (false≢true (sym (none n t behind) ∙ clash))
      by_case t n clash false behind = refl

pub left_behind-all : {T : Type 0} (rank : T → ℤ) (times : List ℤ) → left_behind rank None times ≡ times
left_behind-all rank times = filter-each times

-- ---- how many marks are left

-- the times of all marks
abbrev pub mark_times : {T : Type 0} → (T → ℤ) → PointTable T → List ℤ
mark_times rank points = flat_map (λ row. map (λ m. rank m.at) (marks_in row)) points.rows

-- a clash is at the time of a mark
clash-marked : {T : Type 0} (rank : T → ℤ) (points : PointTable T) (t : ℤ) → some_clash_at rank t points ≡ true → IsMember (mark_times rank points) t
clash-marked {T} rank points t some =
    let row = list_any-member (λ (row : Option (PointRow T)). clashes_in rank t (marks_in row)) points.rows some in
    IsMember-flat_map (λ (row : Option (PointRow T)). map (λ (m : Mark T). rank m.at) (marks_in row)) points.rows row.0 t row.1
    (by_found (marks_in row.0) (find (λ (m : Mark T). int_eq (rank m.at) t) (marks_in row.0)) refl row.2)
  where
    by_found : (marks : List (Mark T)) (o : Option (Mark T)) → find (λ (m : Mark T). int_eq (rank m.at) t) marks ≡ o → is_some_clash o ≡ true → IsMember (map (λ (m : Mark T). rank m.at) marks) t
    by_found marks None is clash = absurd (false≢true clash)
    by_found marks (Some m) is clash =
        let found = find-Some (λ (m : Mark T). int_eq (rank m.at) t) marks m is in
        subst (IsMember (map (λ (m : Mark T). rank m.at) marks)) (int_eq-is (rank m.at) t found.1) (IsMember-map (λ (m : Mark T). rank m.at) marks m found.0)

-- fewer marks lie behind a clash than behind the time that it lies behind
pub fewer_behind : {T : Type 0} (rank : T → ℤ) (points : PointTable T) (after : Option T) (at : T) → some_clash_at rank (rank at) points ≡ true → is_behind rank after (rank at) ≡ true
    → length (left_behind rank (Some at) (mark_times rank points)) < length (left_behind rank after (mark_times rank points))
fewer_behind rank points after at some behind =
    length-filter_fewer (is_behind rank after) (is_behind rank (Some at)) (mark_times rank points) (rank at)
    (λ t later. (is_behind-searched rank after).upward (rank at) t behind later)
    (clash-marked rank points (rank at) some) behind (int_lt-same (rank at))
