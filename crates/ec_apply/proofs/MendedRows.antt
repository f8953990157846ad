-- The intervals of touched properties, mended one after the other.
use Rattle.std.proofs.Common.{◌≡◌, ◌≢◌, ℕ, ◌+◌, ◌≤◌, ◌<◌, ℤ, Bool, true, false, cond, not, ◌&&◌, ◌||◌, List, [], ◌∷◌, ◌++◌, length, take, filter, Some, IsTrue, IsFalse, is_some, refl, sym, ap, ap₂, subst, ◌∙◌, ⊎_elim, slice_get, arith, length-append}
use Rattle.std.specs.Prelude.{◌==◌}
use Rattle.std.proofs.lemmas.Bool.{cases_Bool, false≢true, eq-eqb, eqb-true, or_parts}
use Rattle.std.proofs.lemmas.List.{take_more}
use Rattle.std.proofs.lemmas.Option.{slice_get_within, get_or_from_slice_get}
use Rattle.std.proofs.lemmas.List.Elements.{filter-append}
use Rattle.std.proofs.lemmas.List.Folds.{list_any-append}
use Rattle.ec_axioms.proofs.Members.{IsMember, filter_agree, list_any-false}
use Rattle.std.specs.Cmp.Lexicographic.{pointwise}
use Rattle.std.proofs.Math.Bool.{or-false}
use Rattle.ec_lists.proofs.Booleans.{or_first}
use Rattle.ec_axioms.specs.Changes.{interval_eq}
use Rattle.ec_terms.specs.Domain.{is_strong}
use Rattle.ec_exclusive.specs.Neighbours.{Neighbourhoods}
use Rattle.ec_points.specs.Table.{PointTable, is_initial_at, marks_at}
use Rattle.ec_intervals.specs.OldMarks.{AreOfOldMarks}
use Rattle.ec_intervals.specs.Table.{IntervalTable, members_in, plain_intervals, room_in, row_at, spans_in}
use Rattle.ec_delta.specs.Touched.{Row, are_once}
use Rattle.ec_apply.specs.Mended.{IsMendable, IsMended, are_moved, intervals_at, is_moved, matters_in, spelt_by}
use Rattle.ec_apply.proofs.Listed.{matters_in-before}

-- the members before the place behind one are those before it, and that one
pub take_next : {X : Type 0} (xs : List X) (i : ℕ) (x : X) → slice_get xs i ≡ Some x → take (i + 1) xs ≡ take i xs ++ x ∷ []
take_next xs i x there = take_more xs i x (slice_get_within xs i x there) ∙ ap (λ y. take i xs ++ y ∷ []) (get_or_from_slice_get xs i x x there)

module _ {T : Type 0} (rank : T → ℤ) (around : Neighbourhoods) (points : PointTable T) (touched : List (Row T)) (start : IntervalTable T) where
  -- The touched properties before a place are mended that matter, and the others are as they were.
  pub record AreMendedSoFar (i : ℕ) (now : IntervalTable T) (count : ℕ) : Type 0 where
    pub mended : (n : ℕ) → IsTrue (matters_in n (take i touched)) → IsMended rank around points n now
    pub others : (n : ℕ) → IsFalse (matters_in n (take i touched)) → row_at n now ≡ row_at n start
    pub buffer : now.buffer ≡ start.buffer
    pub counted : count ≡ length (filter (is_moved rank start now) (take i touched))
    pub few : count ≤ i

  -- none is at first
  pub AreMendedSoFar-none : AreMendedSoFar 0 start 0
  AreMendedSoFar-none = record {
    mended = λ n matters. absurd (false≢true matters);
    others = λ n matters. refl;
    buffer = refl;
    counted = refl;
    few = omega arith;
  }

  -- they are so of the same table and count
  pub AreMendedSoFar-same : (i j : ℕ) (now now' : IntervalTable T) (count more : ℕ) → j ≡ i → now' ≡ now → more ≡ count → AreMendedSoFar i now count → AreMendedSoFar j now' more
  AreMendedSoFar-same i j now now' count more place tables counts so_far =
      subst (λ k. AreMendedSoFar k now' more) (sym place) (subst (λ t. AreMendedSoFar i t more) (sym tables) (subst (λ c. AreMendedSoFar i now c) (sym counts) so_far))

  module _ (once : IsTrue (are_once touched)) (i : ℕ) (row : Row T) (there : slice_get touched i ≡ Some row) (now : IntervalTable T) (count : ℕ) (so_far : AreMendedSoFar i now count) where
    n : ℕ
    n = row.0

    matters_next : (m : ℕ) → matters_in m (take (i + 1) touched) ≡ (matters_in m (take i touched) || (row.0 == m && row.1.matters))
    matters_next m =
        ap (matters_in m) (take_next touched i row there) ∙ list_any-append (λ (r : Row T). r.0 == m && r.1.matters) (take i touched) (row ∷ [])
        ∙ ap (λ b. matters_in m (take i touched) || b) (or-false (row.0 == m && row.1.matters))

    -- the intervals of this property are as they were
    same-row : row_at row.0 now ≡ row_at row.0 start
    same-row = so_far.others row.0 (matters_in-before touched i row once there)

    -- so it can be mended as at first
    pub IsMendable-now : IsMendable rank around points row.0 row.1 start → IsMendable rank around points row.0 row.1 now
    IsMendable-now first = record {
      theory = first.theory;
      table = first.table;
      property = first.property;
      neighbours = first.neighbours;
      kept = first.kept;
      added = first.added;
      marks_row = first.marks_row;
      row = ap is_some same-row ∙ first.row;
      ordered = first.ordered;
      old = subst (λ r. AreOfOldMarks rank (rank row.1.from) (rank row.1.until) (is_strong first.theory first.property) (is_initial_at row.0 points) (marks_at row.0 points) (plain_intervals rank (members_in r))) (sym same-row) first.old;
      room = subst (λ r. length (spelt_by rank first.theory first.property row.0 points) ≤ length (spans_in r) + room_in r) (sym same-row) first.room;
      buffer = subst (λ b. length (marks_at row.0 points) < b) (sym so_far.buffer) first.buffer;
    }

    -- counting one row more
    count_next : (now' : IntervalTable T) → ((r : Row T) → IsMember (take i touched) r → is_moved rank start now' r ≡ is_moved rank start now r)
        → length (filter (is_moved rank start now') (take (i + 1) touched)) ≡ count + cond (is_moved rank start now' row) 1 0
    count_next now' agree =
        ap (λ xs. length (filter (is_moved rank start now') xs)) (take_next touched i row there)
        ∙ ap length (filter-append (is_moved rank start now') (take i touched) (row ∷ []))
        ∙ length-append (filter (is_moved rank start now') (take i touched)) (filter (is_moved rank start now') (row ∷ []))
        ∙ ap₂ (λ a b. a + b) (ap length (filter_agree (is_moved rank start now') (is_moved rank start now) (take i touched) agree) ∙ sym so_far.counted) (one (is_moved rank start now' row))
      where
        one : (b : Bool) → length (cond b (row ∷ []) []) ≡ cond b 1 0
        one true = refl
        one false = refl

    -- a row that does not matter changes nothing
    pub AreMendedSoFar-pass : row.1.matters ≡ false → AreMendedSoFar (i + 1) now count
    AreMendedSoFar-pass matters = record {
      mended = λ m is. so_far.mended m (sym (matters_same m) ∙ is);
      others = λ m is. so_far.others m (sym (matters_same m) ∙ is);
      buffer = so_far.buffer;
      counted = sym (count_next now (λ r member. refl) ∙ ap (λ b. count + cond b 1 0) (ap (λ b. b && are_moved rank row.0 start now) matters) ∙ none);
      few = omega (arith, so_far.few);
    }
      where
        none : count + 0 ≡ count
        none = omega arith

        drops : (a b : Bool) → (a || (b && false)) ≡ a
        drops a b = grind arith

        matters_same : (m : ℕ) → matters_in m (take (i + 1) touched) ≡ matters_in m (take i touched)
        matters_same m = matters_next m ∙ ap (λ b. matters_in m (take i touched) || (row.0 == m && b)) matters ∙ drops (matters_in m (take i touched)) (row.0 == m)

    -- a row that matters is mended
    module _ (matters : row.1.matters ≡ true) (now' : IntervalTable T) (mended : IsMended rank around points row.0 now')
        (elsewhere : (m : ℕ) → m ≢ row.0 → row_at m now' ≡ row_at m now) (buffer : now'.buffer ≡ now.buffer) where
      IsMended-same : (m : ℕ) → row_at m now' ≡ row_at m now → IsMended rank around points m now → IsMended rank around points m now'
      IsMended-same m same is theory table p neighbours kept = ap (λ r. plain_intervals rank (members_in r)) same ∙ is theory table p neighbours kept

      apart : (m : ℕ) → (row.0 == m) ≡ false → m ≢ row.0
      apart m other same = false≢true (sym other ∙ eq-eqb row.0 m (sym same))

      matters_own : (m : ℕ) → matters_in m (take (i + 1) touched) ≡ (matters_in m (take i touched) || (row.0 == m))
      matters_own m = matters_next m ∙ ap (λ b. matters_in m (take i touched) || (row.0 == m && b)) matters ∙ keeps (matters_in m (take i touched)) (row.0 == m)
        where
          keeps : (a b : Bool) → (a || (b && true)) ≡ (a || b)
          keeps a b = grind arith

      agree : (r : Row T) → IsMember (take i touched) r → is_moved rank start now' r ≡ is_moved rank start now r
      agree r member =
          ⊎_elim
          (λ own.
          ap (λ b. b && are_moved rank r.0 start now') (not_matters own) ∙ sym (ap (λ b. b && are_moved rank r.0 start now) (not_matters own)))
          (λ other. ap (λ x. r.1.matters && not (pointwise interval_eq (intervals_at rank r.0 start) (plain_intervals rank (members_in x)))) (elsewhere r.0 (λ same. false≢true (sym other ∙ eq-eqb r.0 row.0 same))))
          (cases_Bool (r.0 == row.0))
        where
          none : (r.0 == row.0 && r.1.matters) ≡ false
          none = list_any-false (λ (s : Row T). s.0 == row.0 && s.1.matters) (take i touched) r (matters_in-before touched i row once there) member

          not_matters : (r.0 == row.0) ≡ true → r.1.matters ≡ false
          not_matters own = sym (ap (λ b. b && r.1.matters) own) ∙ none

      pub AreMendedSoFar-mend : (moved : Bool) → moved ≡ are_moved rank row.0 now now' → (more : ℕ) → more ≡ count + cond moved 1 0 → AreMendedSoFar (i + 1) now' more
      AreMendedSoFar-mend moved is more total = record {
        mended = λ m there. ⊎_elim
            (λ own. subst (λ k. IsMended rank around points k now') (eqb-true row.0 m own) mended)
            (λ other. IsMended-same m (elsewhere m (apart m other)) (so_far.mended m (or_first (matters_in m (take i touched)) (row.0 == m) other (sym (matters_own m) ∙ there))))
            (cases_Bool (row.0 == m));
        others = λ m none. let parts = or_parts (matters_in m (take i touched)) (row.0 == m) (sym (matters_own m) ∙ none) in
            elsewhere m (apart m parts.1) ∙ so_far.others m parts.0;
        buffer = buffer ∙ so_far.buffer;
        counted = total ∙ sym (count_next now' agree ∙ ap (λ b. count + cond b 1 0) (ap (λ b. b && are_moved rank row.0 start now') matters ∙ start_now ∙ sym is));
        few = let at_most = one_at_most moved in omega (arith, so_far.few, total, at_most);
      }
        where
          one_at_most : (b : Bool) → cond b 1 0 ≤ 1
          one_at_most true = omega arith
          one_at_most false = omega arith

          start_now : are_moved rank row.0 start now' ≡ are_moved rank row.0 now now'
          start_now = ap (λ x. not (pointwise interval_eq (plain_intervals rank (members_in x)) (intervals_at rank row.0 now'))) (sym same-row)
