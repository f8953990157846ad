-- The rooms that are made are those that a planned change needs.
use Rattle.std.proofs.Common.{◌≡◌, ℕ, ◌+◌, ◌*◌, ◌<◌, ◌≤◌, ℤ, false, not, ◌&&◌, List, length, Option, Some, None, IsTrue, refl, sym, ap, subst, ◌∙◌, arith}
use Rattle.std.specs.Prelude.{is_some}
use Rattle.std.specs.List.{slice_index_or}
use Rattle.std.specs.Option.{option_map_or}
use Rattle.std.proofs.lemmas.Bool.{false≢true}
use Rattle.std.proofs.lemmas.Option.{none-some}
use Rattle.ec_lists.proofs.Filters.{length-filter_le}
use Rattle.ec_points.specs.Changes.{Change as MarkChange, count_of, growth_of}
use Rattle.ec_points.specs.Clashes.{clashes_at, is_clash, new_clashes}
use Rattle.ec_points.specs.Table.{PointRow, PointTable, marks_at, marks_in, room_at, room_in}
use Rattle.ec_intervals.specs.Table.{room_at as span_room_at}
use Rattle.ec_parts.specs.StandFor.{View}
use Rattle.ec_delta.specs.declared.delta.Planned.{Planned}
use Rattle.ec_delta.specs.declared.touches.Touched.{Touched}
use Rattle.ec_delta.specs.Ready.{AreWindows, HasRoomForIntervals, HasRoomForMarks}
use Rattle.ec_delta.specs.Touched.{Row, matters_at, touched_at}
use Rattle.ec_sweep.specs.Rooms.{AreMarksGrown, HasRoomIn, HaveRoomIn, HaveRoomToMove, HaveSpareIn}
use Rattle.ec_sweep.proofs.OwnChanges.{growth_of-within, has_change-first}

-- a property of which some change matters is touched
matters_at-touched : {T : Type 0} (n : ℕ) (rows : List (Row T)) → IsTrue (matters_at n rows) → (touched : Touched T) × (touched_at n rows ≡ Some touched) × IsTrue touched.matters
matters_at-touched {T} n rows matters = by_case (touched_at n rows) refl
  where
    by_case : (o : Option (Touched T)) → touched_at n rows ≡ o → (touched : Touched T) × (touched_at n rows ≡ Some touched) × IsTrue touched.matters
    by_case None is = absurd (false≢true (sym (ap (λ (o : Option (Touched T)). option_map_or (λ (touched : Touched T). touched.matters) o false) is) ∙ matters))
    by_case (Some touched) is = (touched, is, sym (ap (λ (o : Option (Touched T)). option_map_or (λ (touched : Touched T). touched.matters) o false) is) ∙ matters)

-- rows that are the same have the same marks, and the same room
module _ {T : Type 0} (mid after : PointTable T) (rows : after.rows ≡ mid.rows) where
  same_marks : (n : ℕ) → marks_at n after ≡ marks_at n mid
  same_marks n = ap (λ (rs : List (Option (PointRow T))). marks_in (slice_index_or rs n None)) rows

  HasRoomIn-rows : (n more : ℕ) → HasRoomIn n more mid → HasRoomIn n more after
  HasRoomIn-rows n more has = record {
    row = ap (λ (rs : List (Option (PointRow T))). is_some (slice_index_or rs n None)) rows ∙ has.row;
    room = subst (λ k. more ≤ k) (sym (ap (λ (rs : List (Option (PointRow T))). room_in (slice_index_or rs n None)) rows)) has.room;
  }

module _ {T : Type 0} (rank : T → ℤ) (before after : View T) (planned : Planned T) (windows : AreWindows rank before planned) (mid : PointTable T)
    (grown : AreMarksGrown before.points mid) (rows : after.points.rows ≡ mid.rows) (room : HaveRoomIn (λ (t : Touched T). t.grows) planned.touched mid) where
  -- the marks are the same as at first
  all_marks : (n : ℕ) → marks_at n after.points ≡ marks_at n before.points
  all_marks n = same_marks mid after.points rows n ∙ grown.marks n

  -- there is room for the marks that are new
  pub HasRoomForMarks-made : length planned.marks ≤ after.points.clash_room → AreMarksGrown before.initiations after.initiations
      → HaveSpareIn (λ (t : Touched T). t.starts) planned.touched after.initiations → HasRoomForMarks rank after planned
  HasRoomForMarks-made clash_room starts_grown starts_room = record {
    marks = λ n. subst (λ marks. growth_of rank n planned.marks marks ≤ room_at n after.points) (sym (all_marks n)) (marks_room n (touched_at n planned.touched) refl);
    clashes = fits (length-filter_le (λ (change : MarkChange T). is_clash change.1 && not (clashes_at rank change.0.0 (rank change.1.at) after.points)) planned.marks);
    initiations = λ n. subst (λ marks. growth_of rank n planned.initiations marks ≤ room_at n after.initiations) (sym (starts_grown.marks n)) (starts n (touched_at n planned.touched) refl);
  }
    where
      fits : new_clashes rank (λ n t. clashes_at rank n t after.points) planned.marks ≤ length planned.marks → new_clashes rank (λ n t. clashes_at rank n t after.points) planned.marks ≤ after.points.clash_room
      fits few = omega arith

      none_needed : (n growth room : ℕ) → growth ≡ 0 → growth ≤ room
      none_needed n growth room none = omega arith

      marks_room : (n : ℕ) (o : Option (Touched T)) → touched_at n planned.touched ≡ o → growth_of rank n planned.marks (marks_at n before.points) ≤ room_at n after.points
      marks_room n None none =
          none_needed n (growth_of rank n planned.marks (marks_at n before.points)) (room_at n after.points)
          (growth_of-within rank n planned.marks (marks_at n before.points)
          (has_change-first rank n planned.marks (λ t change. let found = windows.windows n t change in none-some found.0 (sym none ∙ found.1))))
      marks_room n (Some touched) is =
          let has = HasRoomIn-rows mid after.points rows n touched.grows (room n touched is) in
          let enough = has.room in
          let grows = windows.grown n touched is in
          omega arith

      starts : (n : ℕ) (o : Option (Touched T)) → touched_at n planned.touched ≡ o → growth_of rank n planned.initiations (marks_at n before.initiations) ≤ room_at n after.initiations
      starts n None none =
          none_needed n (growth_of rank n planned.initiations (marks_at n before.initiations)) (room_at n after.initiations)
          (growth_of-within rank n planned.initiations (marks_at n before.initiations) (windows.started_only n none))
      starts n (Some touched) is =
          let enough = starts_room n touched is in
          let grows = windows.started n touched is in
          omega arith

  -- there is room for the intervals that may come
  pub HasRoomForIntervals-made : HaveRoomToMove planned.touched mid after.intervals → HasRoomForIntervals rank after planned
  HasRoomForIntervals-made moves = record {
    row = λ n matters. let found = matters_at-touched n planned.touched matters in (moves n found.0 found.1).row found.2;
    marks_row = λ n matters. let found = matters_at-touched n planned.touched matters in (HasRoomIn-rows mid after.points rows n found.0.grows (room n found.0 found.1)).row;
    spans = λ n matters.
        let found = matters_at-touched n planned.touched matters in
        spans_fit (count_of n planned.marks) found.0.count (span_room_at n after.intervals) (windows.counted n found.0 found.1) ((moves n found.0 found.1).spans found.2);
    buffer = λ n matters.
        let found = matters_at-touched n planned.touched matters in
        subst (λ marks. length marks + growth_of rank n planned.marks marks < after.intervals.buffer) (sym (all_marks n))
        (buffer_fits (length (marks_at n before.points)) (growth_of rank n planned.marks (marks_at n before.points)) found.0.grows after.intervals.buffer (windows.grown n found.0 found.1)
        (subst (λ marks. length marks + found.0.grows < after.intervals.buffer) (grown.marks n) ((moves n found.0 found.1).buffer found.2)));
  }
    where
      spans_fit : (count counted room : ℕ) → count ≤ counted → 2 * counted + 1 ≤ room → 2 * count + 1 ≤ room
      spans_fit count counted room few fits = omega arith

      buffer_fits : (marks growth grows room : ℕ) → growth ≤ grows → marks + grows < room → marks + growth < room
      buffer_fits marks growth grows room few fits = omega arith
