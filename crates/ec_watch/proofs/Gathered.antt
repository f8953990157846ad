-- Tails of the properties that were touched so far, with one touched property more.
use Rattle.std.proofs.Common.{◌≡◌, ℕ, ℤ, zero, suc, ◌+◌, ◌==◌, Bool, true, false, not, cond, ◌||◌, List, [], ◌∷◌, ◌++◌, take, drop, Option, Some, None, is_some, IsTrue, refl, sym, ap, ◌∙◌, ⊎_elim, arith}
use Rattle.std.specs.Prelude.{slice_get}
use Rattle.std.specs.List.{All, list_all}
use Rattle.std.specs.Option.{option_map_or}
use Rattle.std.proofs.lemmas.Bool.{cases_Bool, eq-eqb, eqb-true, false≢true}
use Rattle.std.proofs.lemmas.List.{take-append-drop, take_more}
use Rattle.std.proofs.lemmas.List.Elements.{All-contains, All-push}
use Rattle.std.proofs.lemmas.List.Folds.{list_any-append}
use Rattle.std.proofs.lemmas.Option.{get_or_from_slice_get, slice_get_within}
use Rattle.ec_lists.proofs.Tests.{list_all-slice_get}
use Rattle.ec_axioms.proofs.Members.{Contains-from_member, list_all-from_members}
use Rattle.ec_rows.specs.Ordered.{is_ascending}
use Rattle.ec_rows.proofs.OrderedLemmas.{ascending-first, ascending-rest, is_ascending-append_one}
use Rattle.ec_store.specs.Table.{KeptProp, term_at}
use Rattle.ec_parts.proofs.LinksByNumber.{IsOneToOne, same_number}
use Rattle.ec_delta.specs.declared.touches.Touched.{Touched}
use Rattle.ec_delta.specs.Touched.{Row as TouchedRow, are_once, matters_at, touched_at}
use Rattle.ec_intervals.specs.Table.{IntervalTable}
use Rattle.ec_watch.specs.declared.row.Row.{Row}
use Rattle.ec_watch.specs.declared.tails.Tail.{Tail}
use Rattle.ec_watch.specs.Tails.{AreGathered, IsKeptTail, IsTailAt, NeedsNoTail, has_tail}
use Rattle.ec_watch.proofs.Places.{place-same, property-same}

-- ---- touched properties

-- a test of numbers fails either way round
eqb-turned : (m n : ℕ) → (m == n) ≡ false → (n == m) ≡ false
eqb-turned m n unlike = ⊎_elim (λ same. absurd (false≢true (sym unlike ∙ eq-eqb m n (sym (eqb-true n m same))))) (λ fails. fails) (cases_Bool (n == m))

not-true : (b : Bool) → not b ≡ true → b ≡ false
not-true b is = grind arith

or-none : (a b : Bool) → (a || b) ≡ false → (a ≡ false) × (b ≡ false)
or-none a b none = (grind arith, grind arith)

module _ {T : Type 0} where
  -- what is found among some rows is found among more
  touched_at-front : (n : ℕ) (xs ys : List (TouchedRow T)) (t : Touched T) → touched_at n xs ≡ Some t → touched_at n (xs ++ ys) ≡ Some t
  touched_at-front n [] ys t found = cc
  touched_at-front n (x ∷ xs) ys t found =
      elim (n == x.0) as (λ b. cond b (Some x.1) (touched_at n xs) ≡ Some t → cond b (Some x.1) (touched_at n (xs ++ ys)) ≡ Some t)
      [ true ↦ λ here. here | false ↦ λ later. touched_at-front n xs ys t later ] found

  -- what is not found among them is looked for behind
  touched_at-behind : (n : ℕ) (xs ys : List (TouchedRow T)) → touched_at n xs ≡ None → touched_at n (xs ++ ys) ≡ touched_at n ys
  touched_at-behind n [] ys none = refl
  touched_at-behind n (x ∷ xs) ys none =
      elim (n == x.0) as (λ b. cond b (Some x.1) (touched_at n xs) ≡ None → cond b (Some x.1) (touched_at n (xs ++ ys)) ≡ touched_at n ys)
      [ true ↦ λ here. cc | false ↦ λ later. touched_at-behind n xs ys later ] none

  -- before its place a property is not found
  pub touched_at-before : (rows : List (TouchedRow T)) (i : ℕ) (row : TouchedRow T) → IsTrue (are_once rows) → slice_get rows i ≡ Some row → touched_at row.0 (take i rows) ≡ None
  touched_at-before [] i row once there = cc
  touched_at-before (x ∷ rows) zero row once there = refl
  touched_at-before (x ∷ rows) (suc i) row once there =
      let other = not-true (x.0 == row.0) (list_all-slice_get (λ (s : TouchedRow T). not (x.0 == s.0)) rows i row (ascending-first (λ (r s : TouchedRow T). not (r.0 == s.0)) x rows once) there) in
      ap (λ b. cond b (Some x.1) (touched_at row.0 (take i rows))) (eqb-turned x.0 row.0 other)
      ∙ touched_at-before rows i row (ascending-rest (λ (r s : TouchedRow T). not (r.0 == s.0)) x rows once) there

  -- with one row more
  pub take_next : (rows : List (TouchedRow T)) (i : ℕ) (row : TouchedRow T) → slice_get rows i ≡ Some row → take (i + 1) rows ≡ take i rows ++ row ∷ []
  take_next rows i row there = take_more rows i row (slice_get_within rows i row there) ∙ ap (λ r. take i rows ++ r ∷ []) (get_or_from_slice_get rows i row row there)

  -- at its place it is
  touched_at-last : (xs : List (TouchedRow T)) (row : TouchedRow T) → touched_at row.0 xs ≡ None → touched_at row.0 (xs ++ row ∷ []) ≡ Some row.1
  touched_at-last xs row none = touched_at-behind row.0 xs (row ∷ []) none ∙ ap (λ b. cond b (Some row.1) None) (eq-eqb row.0 row.0 refl)

  pub touched_at-there : (rows : List (TouchedRow T)) (i : ℕ) (row : TouchedRow T) → IsTrue (are_once rows) → slice_get rows i ≡ Some row → touched_at row.0 rows ≡ Some row.1
  touched_at-there rows i row once there =
      let here : touched_at row.0 (take (i + 1) rows) ≡ Some row.1 = ap (touched_at row.0) (take_next rows i row there) ∙ touched_at-last (take i rows) row (touched_at-before rows i row once there) in
      ap (touched_at row.0) (sym (take-append-drop (i + 1) rows)) ∙ touched_at-front row.0 (take (i + 1) rows) (drop (i + 1) rows) row.1 here

-- ---- tails

module _ {T : Type 0} (rank : T → ℤ) (rows : List Row) (table : List KeptProp) (intervals : IntervalTable T) where
  -- at first no property was touched, and there are no tails
  pub AreGathered-none : AreGathered rank rows table intervals [] []
  unfolding is_ascending
  AreGathered-none = record { apart = refl; each = λ i d within. absurd (omega (arith, within)); others = λ i id row at kept none. refl }

  module _ (touched : List (TouchedRow T)) (r : TouchedRow T) (tails : List (Tail T)) (fresh : touched_at r.0 touched ≡ None) (so_far : AreGathered rank rows table intervals touched tails) where
    -- a tail stays that of a touched property
    IsKeptTail-more : (tail : Tail T) → IsKeptTail rank rows table intervals touched tail → IsKeptTail rank rows table intervals (touched ++ r ∷ []) tail
    IsKeptTail-more tail is = record { id = is.id; change = is.change; touches = touched_at-front is.id touched (r ∷ []) is.change is.touches; at = is.at }

    each-more : All (IsKeptTail rank rows table intervals (touched ++ r ∷ [])) tails
    each-more i d within = IsKeptTail-more _ (so_far.each i d within)

    -- a property that no change mattered to so far is moved only if it is the one that was touched last
    matters_at-more : (id : ℕ) → matters_at id touched ≡ false → ((id ≡ r.0) → r.1.matters ≡ false) → matters_at id (touched ++ r ∷ []) ≡ false
    matters_at-more id before last = by_found (touched_at id touched) refl
      where
        matters : Option (Touched T) → Bool
        matters o = option_map_or (λ (t : Touched T). t.matters) o false

        by_found : (o : Option (Touched T)) → touched_at id touched ≡ o → matters_at id (touched ++ r ∷ []) ≡ false
        by_found (Some t) is = ap matters (touched_at-front id touched (r ∷ []) t is ∙ sym is) ∙ before
        by_found None is =
            ap matters (touched_at-behind id touched (r ∷ []) is)
            ∙ ⊎_elim (λ here. ap (λ b. matters (cond b (Some r.1) None)) here ∙ last (eqb-true id r.0 here)) (λ elsewhere. ap (λ b. matters (cond b (Some r.1) None)) elsewhere) (cases_Bool (id == r.0))

    -- a touched property that needs no tail
    pub AreGathered-pass : NeedsNoTail rows table r.0 r.1 → AreGathered rank rows table intervals (touched ++ r ∷ []) tails
    AreGathered-pass needless = record {
      apart = so_far.apart;
      each = each-more;
      others = λ i id row at kept none. matters_at-more id (so_far.others i id row at kept none) (λ same. needless i row at (ap (λ n. term_at n table) (sym same) ∙ kept));
    }

    -- a touched property and its tail
    module _ (one : IsOneToOne table) (tail : Tail T) (is : IsTailAt rank rows table intervals r.0 r.1 tail) where
      -- no tail so far is that of its row
      apart-last : list_all (λ (other : Tail T). not (other.place == tail.place)) tails ≡ true
      apart-last = list_all-from_members (λ (other : Tail T). not (other.place == tail.place)) tails (λ other member.
          ⊎_elim (λ same. absurd (clash other (All-contains (IsKeptTail rank rows table intervals touched) tails other so_far.each (Contains-from_member tails other member)) (eqb-true other.place tail.place same)))
          (λ fails. ap not fails) (cases_Bool (other.place == tail.place)))
        where
          clash : (other : Tail T) → IsKeptTail rank rows table intervals touched other → other.place ≡ tail.place → ⊥
          clash other kept same =
              let property = property-same kept.at.property is.property rows other.place tail.place kept.at.there is.there same in
              let number = same_number table kept.id r.0 is.property one (kept.at.kept ∙ ap Some property) is.kept in
              false≢true (sym (ap is_some fresh) ∙ ap is_some (sym (ap (λ n. touched_at n touched) number) ∙ kept.touches))

      -- the row of the property that was touched last is that of the last tail
      is_last : (i id : ℕ) (row : Row) → slice_get rows i ≡ Some row → term_at id table ≡ Some row.prop → has_tail i (tail ∷ []) ≡ false → id ≡ r.0 → ⊥
      is_last i id row at kept none same =
          let property : row.prop ≡ is.property = let terms : Some row.prop ≡ Some is.property = sym kept ∙ ap (λ n. term_at n table) same ∙ is.kept in cc in
          let place : i ≡ tail.place = place-same is.property rows i tail.place row is.there at property in
          false≢true (sym (or-none (tail.place == i) false none).0 ∙ eq-eqb tail.place i (sym place))

      pub AreGathered-more : AreGathered rank rows table intervals (touched ++ r ∷ []) (tails ++ tail ∷ [])
      AreGathered-more = record {
        apart = is_ascending-append_one (λ (a b : Tail T). not (a.place == b.place)) tails tail so_far.apart apart-last;
        each = All-push (IsKeptTail rank rows table intervals (touched ++ r ∷ [])) tails tail each-more
            (record { id = r.0; change = r.1; touches = touched_at-last touched r fresh; at = is });
        others = λ i id row at kept none.
            let parts = or-none (has_tail i tails) (has_tail i (tail ∷ [])) (sym (list_any-append (λ (t : Tail T). t.place == i) tails (tail ∷ [])) ∙ none) in
            matters_at-more id (so_far.others i id row at kept parts.0) (λ same. absurd (is_last i id row at kept parts.1 same));
      }
