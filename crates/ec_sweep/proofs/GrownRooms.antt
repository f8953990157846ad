-- Rows that grow in their room alone, one after another, and what holds of the touched properties up to a place.
use Rattle.std.proofs.Common.{◌≡◌, ℕ, ◌+◌, ◌<◌, ◌≤◌, ◌≢◌, List, Option, Some, IsTrue, length, refl, sym, ap, ap₂, subst, ◌∙◌, ⊎_elim, arith}
use Rattle.std.specs.Prelude.{◌==◌, ◌++◌, is_some, map, slice_get, unwrap_or}
use Rattle.std.proofs.lemmas.Bool.{cases_Bool, eqb-true, eqb-false}
use Rattle.std.proofs.lemmas.Map.Entries.{place_from_lookup}
use Rattle.std.proofs.lemmas.Option.{slice_get_within}
use Rattle.ec_points.specs.SeenRows.{IsGrown}
use Rattle.ec_points.specs.Table.{PointTable, marks_in, room_at, room_in, row_at}
use Rattle.ec_intervals.specs.Table.{IntervalTable, front_members, room_in as span_room_in, row_at as span_row_at, span_interval, IsGrown as IsRowGrown}
use Rattle.ec_delta.specs.declared.touches.Touched.{Touched}
use Rattle.ec_delta.specs.Touched.{Row, touched_at}
use Rattle.ec_sweep.specs.Rooms.{AreIntervalsGrown, AreMarksGrown, HasRoomIn, HasRoomToMove}

-- ---- touched properties up to a place

-- each touched property before a place has what is asked
abbrev pub EachUpTo : {T : Type 0} → (ℕ → Touched T → Type 0) → ℕ → List (Row T) → Type 0
EachUpTo {T} P i rows = (k : ℕ) (n : ℕ) (touched : Touched T) → k < i → slice_get rows k ≡ Some (n, touched) → P n touched

module _ {T : Type 0} (rows : List (Row T)) where
  -- one more
  pub each_up_to-more : (P Q : ℕ → Touched T → Type 0) (i p : ℕ) (row : Touched T) → ((n : ℕ) (touched : Touched T) → P n touched → Q n touched)
      → EachUpTo P i rows → slice_get rows i ≡ Some (p, row) → Q p row → EachUpTo Q (i + 1) rows
  each_up_to-more P Q i p row wider each here has k n touched lt is =
      ⊎_elim
      (λ same.
      let both : Some (p, row) ≡ Some (n, touched) = sym here ∙ ap (slice_get rows) (sym (eqb-true k i same)) ∙ is in
      let number : p ≡ n = ap (λ (o : Option (Row T)). (unwrap_or o (p, row)).0) both in
      let value : row ≡ touched = ap (λ (o : Option (Row T)). (unwrap_or o (p, row)).1) both in
      subst (λ m. Q m touched) number (subst (λ t. Q p t) value has))
      (λ apart.
      let ne = eqb-false k i apart in
      let below : k < i = omega arith in
      wider n touched (each k n touched below is))
      (cases_Bool (k == i))

  -- and all of them
  pub each_up_to-all : (P : ℕ → Touched T → Type 0) (n : ℕ) (touched : Touched T) → EachUpTo P (length rows) rows → touched_at n rows ≡ Some touched → P n touched
  each_up_to-all P n touched each is =
      let found = place_from_lookup (λ k. n == k) rows touched is in
      subst (λ m. P m touched) (sym (eqb-true n found.1 found.3)) (each found.0 found.1 touched (slice_get_within rows found.0 (found.1, touched) found.2) found.2)

-- ---- rows of marks

pub AreMarksGrown-same : {T : Type 0} (points : PointTable T) → AreMarksGrown points points
AreMarksGrown-same points = record { marks = λ n. refl; room = λ n. omega arith; kept = λ n is. is; initials = refl }

-- one row grows, and no other changes
pub AreMarksGrown-one : {T : Type 0} (p : ℕ) (before after : PointTable T) → IsGrown (row_at p before) (row_at p after)
    → ((m : ℕ) → m ≢ p → row_at m after ≡ row_at m before) → after.initials ≡ before.initials → AreMarksGrown before after
AreMarksGrown-one {T} p before after grown others initials = record {
  marks = λ n. (each n).marks;
  room = λ n. (each n).room;
  kept = λ n. (each n).kept;
  initials = initials;
}
  where
    each : (n : ℕ) → IsGrown (row_at n before) (row_at n after)
    each n =
        ⊎_elim
        (λ same. subst (λ m. IsGrown (row_at m before) (row_at m after)) (sym (eqb-true n p same)) grown)
        (λ apart.
        let is = others n (eqb-false n p apart) in
        record {
          marks = ap marks_in is;
          room = subst (λ r. room_in (row_at n before) ≤ room_in r) (sym is) (omega arith);
          kept = λ there. subst (λ r. IsTrue (is_some r)) (sym is) there;
        })
        (cases_Bool (n == p))

-- and so on
pub AreMarksGrown-chain : {T : Type 0} (before mid after : PointTable T) → AreMarksGrown before mid → AreMarksGrown mid after → AreMarksGrown before after
AreMarksGrown-chain before mid after first then = record {
  marks = λ n. then.marks n ∙ first.marks n;
  room = λ n. omega (arith, first.room n, then.room n);
  kept = λ n is. then.kept n (first.kept n is);
  initials = then.initials ∙ first.initials;
}

-- what has room keeps it
pub HasRoomIn-grown : {T : Type 0} (n more : ℕ) (before after : PointTable T) → AreMarksGrown before after → HasRoomIn n more before → HasRoomIn n more after
HasRoomIn-grown n more before after grown has = record { row = grown.kept n has.row; room = omega (arith, grown.room n, has.room) }

pub spare-grown : {T : Type 0} (n more : ℕ) (before after : PointTable T) → AreMarksGrown before after → more ≤ room_at n before → more ≤ room_at n after
spare-grown n more before after grown has = omega (arith, grown.room n)

-- ---- rows of intervals

pub AreIntervalsGrown-same : {T : Type 0} (intervals : IntervalTable T) → AreIntervalsGrown intervals intervals
AreIntervalsGrown-same intervals = record { members = λ n. refl; room = λ n. omega arith; kept = λ n is. is; buffer = omega arith }

-- one row grows, and no other changes
pub AreIntervalsGrown-one : {T : Type 0} (p : ℕ) (before after : IntervalTable T) → IsRowGrown (span_row_at p before) (span_row_at p after)
    → ((m : ℕ) → m ≢ p → span_row_at m after ≡ span_row_at m before) → before.buffer ≤ after.buffer → AreIntervalsGrown before after
AreIntervalsGrown-one {T} p before after grown others buffer = record {
  members = λ n. ap₂ (λ front spans. front_members front ++ map span_interval spans) (each n).front (each n).spans;
  room = λ n. (each n).room;
  kept = λ n. (each n).kept;
  buffer = buffer;
}
  where
    each : (n : ℕ) → IsRowGrown (span_row_at n before) (span_row_at n after)
    each n =
        ⊎_elim
        (λ same. subst (λ m. IsRowGrown (span_row_at m before) (span_row_at m after)) (sym (eqb-true n p same)) grown)
        (λ apart.
        let is = others n (eqb-false n p apart) in
        record {
          front = simp is;
          spans = simp is;
          room = subst (λ r. span_room_in (span_row_at n before) ≤ span_room_in r) (sym is) (omega arith);
          kept = λ there. subst (λ r. IsTrue (is_some r)) (sym is) there;
        })
        (cases_Bool (n == p))

-- and so on
pub AreIntervalsGrown-chain : {T : Type 0} (before mid after : IntervalTable T) → AreIntervalsGrown before mid → AreIntervalsGrown mid after → AreIntervalsGrown before after
AreIntervalsGrown-chain before mid after first then = record {
  members = λ n. then.members n ∙ first.members n;
  room = λ n. omega (arith, first.room n, then.room n);
  kept = λ n is. then.kept n (first.kept n is);
  buffer = omega (arith, first.buffer, then.buffer);
}

-- what has room keeps it
pub HasRoomToMove-grown : {T : Type 0} (n marks : ℕ) (touched : Touched T) (before after : IntervalTable T) → AreIntervalsGrown before after
    → HasRoomToMove n marks touched before → HasRoomToMove n marks touched after
HasRoomToMove-grown n marks touched before after grown has = record {
  row = λ moves. grown.kept n (has.row moves);
  spans = λ moves. omega (arith, grown.room n, has.spans moves);
  buffer = λ moves. omega (arith, grown.buffer, has.buffer moves);
}
