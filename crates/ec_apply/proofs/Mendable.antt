-- The intervals of touched properties can be mended once the marks are changed.
use Rattle.std.proofs.Common.{◌≡◌, ℕ, ◌+◌, ◌*◌, ◌≤◌, ℤ, true, false, List, length, map, filter, Option, Some, None, IsTrue, sym, ap, subst, ◌∙◌, arith, length-append}
use Rattle.std.specs.Prelude.{int_lt, ◌==◌, ◌≤ℤ◌}
use Rattle.std.specs.List.{list_any}
use Rattle.std.specs.Ordering.{int_eq}
use Rattle.std.specs.Option.{option_map_or}
use Rattle.std.proofs.lemmas.Bool.{false_from_ne_true}
use Rattle.std.proofs.lemmas.Int.{ints}
use Rattle.std.proofs.lemmas.List.{length-map}
use Rattle.ec_lists.proofs.Tests.{list_any-filter, list_any-map}
use Rattle.ec_terms.specs.declared.ground.Ground.{Ground}
use Rattle.ec_terms.specs.declared.theory.Theory.{Theory}
use Rattle.ec_terms.specs.Domain.{is_initial, is_strong}
use Rattle.ec_axioms.specs.Calculus.{PlainEvent, intervals_of}
use Rattle.ec_axioms.specs.Changes.{is_history}
use Rattle.ec_axioms.specs.Marks.{marks_of, spans_of}
use Rattle.ec_axioms.proofs.HistoryLaws.{SpansAreTheIntervals-law}
use Rattle.ec_rows.specs.declared.span.End.{End}
use Rattle.ec_rows.specs.Marks.{IsMarkRow, mark_at as row_mark_at}
use Rattle.ec_rows.specs.PlainMarks.{plain_marks}
use Rattle.ec_store.specs.Table.{term_at}
use Rattle.ec_numbered.specs.PropSet.{has_number}
use Rattle.ec_points.specs.Changes.{Change, ChangesAreMade, are_all_apart, changed, count_of, growth_of, has_change}
use Rattle.ec_points.specs.Table.{PointTable, has_row, is_initial_at, marks_at}
use Rattle.ec_intervals.specs.ChangedRows.{GrowthIsBounded}
use Rattle.ec_intervals.specs.OldMarks.{AreOfOldMarks}
use Rattle.ec_intervals.specs.Table.{front_members, front_in, members_at, plain_interval, spans_at, span_interval, row_at}
use Rattle.ec_parts.specs.Caches.{AreIntervalsOf, AreMarksOf}
use Rattle.ec_parts.specs.StandFor.{View}
use Rattle.ec_parts.specs.Tables.{AreAllAdded}
use Rattle.ec_parts.proofs.Mentioned.{kept_term}
use Rattle.ec_delta.specs.declared.delta.Planned.{Planned}
use Rattle.ec_delta.specs.declared.touches.Touched.{Touched}
use Rattle.ec_delta.specs.Ready.{AreWindows, HasRoomForIntervals}
use Rattle.ec_delta.specs.Touched.{are_once, matters_at, touched_at}
use Rattle.ec_apply.specs.Mended.{AreMendable, intervals_at, spelt_by}
use Rattle.ec_apply.proofs.ChangedRows.{IsMarkRow-marks_of, mark_at-unchanged, marks_where-ext}
use Rattle.ec_apply.proofs.Listed.{touched_at-listed}

module _ {T : Type 0} (rank : T → ℤ) (theory : Theory) (old new : List PlainEvent) (history_old : IsTrue (is_history old)) (history_new : IsTrue (is_history new))
    (view : View T) (points : PointTable T) (planned : Planned T) (law : ChangesAreMade rank) (growth : GrowthIsBounded rank)
    (apart : IsTrue (are_all_apart rank planned.marks)) (initials : points.initials ≡ view.points.initials)
    (rows : (n : ℕ) → has_row n points ≡ has_row n view.points) (made : (n : ℕ) → marks_at n points ≡ changed rank n planned.marks (marks_at n view.points))
    (marks_old : AreMarksOf rank theory old view.table view.points) (marks_new : AreMarksOf rank theory new view.table points)
    (intervals_old : AreIntervalsOf rank theory old view.table view.intervals) (added : AreAllAdded theory view.table view.neighbours)
    (windows : AreWindows rank view planned) (room : HasRoomForIntervals rank view planned) (once : IsTrue (are_once planned.touched)) where
  -- the initial properties stay
  initial-same : (n : ℕ) → is_initial_at n points ≡ is_initial_at n view.points
  initial-same n = ap (has_number n) initials

  module _ (n : ℕ) (p : Ground) (kept : term_at n view.table ≡ Some p) where
    row_old : IsMarkRow rank (marks_at n view.points)
    row_old = IsMarkRow-marks_of rank theory old p (marks_at n view.points) history_old (marks_old.marks n p kept)

    row_new : IsMarkRow rank (marks_at n points)
    row_new = IsMarkRow-marks_of rank theory new p (marks_at n points) history_new (marks_new.marks n p kept)

    is_initial-is : is_initial_at n points ≡ is_initial theory p
    is_initial-is = initial-same n ∙ marks_old.initials.initial n p kept

    -- the intervals that a row spells are those of its list
    pub spelt-old : spans_of (plain_marks rank (marks_at n view.points)) (is_strong theory p) (is_initial_at n points) ≡ intervals_of theory old p
    spelt-old =
        ap (λ marks. spans_of marks (is_strong theory p) (is_initial_at n points)) (marks_old.marks n p kept)
        ∙ ap (spans_of (marks_of theory old p) (is_strong theory p)) is_initial-is ∙ (SpansAreTheIntervals-law theory old p history_old).0

    pub spelt-new : spelt_by rank theory p n points ≡ intervals_of theory new p
    spelt-new =
        ap (λ marks. spans_of marks (is_strong theory p) (is_initial_at n points)) (marks_new.marks n p kept)
        ∙ ap (spans_of (marks_of theory new p) (is_strong theory p)) is_initial-is ∙ (SpansAreTheIntervals-law theory new p history_new).0

    -- the intervals that are there are those of the old marks
    members-spelt : intervals_at rank n view.intervals ≡ spans_of (plain_marks rank (marks_at n view.points)) (is_strong theory p) (is_initial_at n points)
    members-spelt = intervals_old.members n p kept ∙ sym spelt-old

    -- where there is no change the mark is what it was
    same-mark : (t : ℤ) → has_change rank n t planned.marks ≡ false → row_mark_at rank t (marks_at n view.points) ≡ row_mark_at rank t (marks_at n points)
    same-mark t none = sym (ap (row_mark_at rank t) (made n) ∙ mark_at-unchanged rank law planned.marks apart n (marks_at n view.points) t none)

    -- ---- room

    -- the instants of the changes
    abbrev instants : List ℤ
    instants = map (λ (change : Change T). rank change.1.at) (filter (λ (change : Change T). change.0.0 == n) planned.marks)

    instants-has : (t : ℤ) → list_any (λ u. int_eq u t) instants ≡ has_change rank n t planned.marks
    instants-has t =
        list_any-map (λ u. int_eq u t) (λ (change : Change T). rank change.1.at) (filter (λ (change : Change T). change.0.0 == n) planned.marks)
        ∙ list_any-filter (λ (change : Change T). int_eq (rank change.1.at) t) (λ change. change.0.0 == n) planned.marks

    grown : length (spelt_by rank theory p n points) ≤ length (intervals_at rank n view.intervals) + 2 * count_of n planned.marks
    grown =
        let more = growth (marks_at n view.points) (marks_at n points) instants (is_strong theory p) (is_initial_at n points) row_old row_new
        (λ t none. same-mark t (sym (instants-has t) ∙ none)) in
        let were = ap length members-spelt in
        let many : length instants ≡ count_of n planned.marks = length-map (filter (λ (change : Change T). change.0.0 == n) planned.marks) (λ (change : Change T). rank change.1.at) in
        omega (arith, more, were, many)

    few-members : length (intervals_at rank n view.intervals) ≤ length (spans_at n view.intervals) + 1
    few-members =
        let front = front_members (front_in (row_at n view.intervals)) in
        let plain = length-map (members_at n view.intervals) (plain_interval rank) in
        let all = length-append front (map span_interval (spans_at n view.intervals)) in
        let spans = length-map (spans_at n view.intervals) (span_interval {T = T}) in
        let few = few_front (front_in (row_at n view.intervals)) in
        omega (arith, plain, all, spans, few)
      where
        few_front : (front : Option (End T)) → length (front_members front) ≤ 1
        few_front None = omega arith
        few_front (Some end) = omega arith

    -- ---- the window

    module _ (touched : Touched T) (found : touched_at n planned.touched ≡ Some touched) where
      outside : (t : ℤ) → (int_lt t (rank touched.from) ≡ true) → has_change rank n t planned.marks ≡ false
      outside t before =
          false_from_ne_true (has_change rank n t planned.marks)
          (λ there. let window = windows.windows n t there in
          let same : window.0 ≡ touched = cc in
          let from = subst (λ (w : Touched T). rank w.from ≤ℤ t) same window.2.0 in
          apart_times (rank touched.from) t from before)
        where
          apart_times : (a t : ℤ) → a ≤ℤ t → int_lt t a ≡ true → ⊥
          apart_times a t from before = grind (arith, ints)

      behind : (t : ℤ) → (int_lt (rank touched.until) t ≡ true) → has_change rank n t planned.marks ≡ false
      behind t later =
          false_from_ne_true (has_change rank n t planned.marks)
          (λ there. let window = windows.windows n t there in
          let same : window.0 ≡ touched = cc in
          let until = subst (λ (w : Touched T). t ≤ℤ rank w.until) same window.2.1 in
          apart_times (rank touched.until) t until later)
        where
          apart_times : (b t : ℤ) → t ≤ℤ b → int_lt b t ≡ true → ⊥
          apart_times b t until later = grind (arith, ints)

      old-marks : AreOfOldMarks rank (rank touched.from) (rank touched.until) (is_strong theory p) (is_initial_at n points) (marks_at n points) (intervals_at rank n view.intervals)
      old-marks = record {
        old = marks_at n view.points;
        row = row_old;
        before = marks_where-ext rank (λ t. int_lt t (rank touched.from)) (marks_at n view.points) (marks_at n points) row_old row_new (λ t before. same-mark t (outside t before));
        behind = marks_where-ext rank (λ t. int_lt (rank touched.until) t) (marks_at n view.points) (marks_at n points) row_old row_new (λ t later. same-mark t (behind t later));
        spelt = members-spelt;
      }

  -- the law
  module _ (few_marks : (n : ℕ) (p : Ground) → term_at n view.table ≡ Some p → length (marks_at n points) ≤ length (marks_at n view.points) + growth_of rank n planned.marks (marks_at n view.points)) where
    pub AreMendable-changed : AreMendable rank view.neighbours points planned.touched view.intervals
    AreMendable-changed i row there matters =
        let n = row.0 in
        let found : touched_at n planned.touched ≡ Some row.1 = touched_at-listed planned.touched i row once there in
        let at : IsTrue (matters_at n planned.touched) = ap (λ o. option_map_or (λ (t : Touched T). t.matters) o false) found ∙ matters in
        let kept = windows.kept n row.1 found in
        let term = kept_term view.table (record { 0 = n }) kept in
        let more = grown n term.0 term.1 in
        let few = few-members n term.0 term.1 in
        let spans = room.spans n at in
        let buffer = room.buffer n at in
        let marks = few_marks n term.0 term.1 in
        record {
          theory = theory;
          table = view.table;
          property = term.0;
          neighbours = added.neighbours;
          kept = term.1;
          added = added.added (record { 0 = n }) ∙ kept;
          marks_row = rows n ∙ room.marks_row n at;
          row = room.row n at;
          ordered = windows.in_order n row.1 found;
          old = old-marks n term.0 term.1 row.1 found;
          room = omega (arith, more, few, spans);
          buffer = omega (arith, buffer, marks);
        }
