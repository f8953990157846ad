-- Tails that were kept before a change are those between the list that was and the one that is.
use Rattle.std.proofs.Common.{◌≡◌, ℕ, ℤ, Bool, true, false, ◌&&◌, List, [], ◌∷◌, length, filter, take, drop, Option, Some, None, is_some, IsTrue, IsSome, ◌<◌, refl, sym, ap, subst, ◌∙◌, arith}
use Rattle.std.specs.Prelude.{int_le, int_lt, option_map, slice_get, ◌≤ℤ◌}
use Rattle.std.specs.List.{list_all}
use Rattle.std.specs.Option.{option_map_or}
use Rattle.std.specs.Ordering.{int_eq}
use Rattle.std.proofs.lemmas.Bool.{and_from, and_parts, false_from_ne_true, false≢true}
use Rattle.std.proofs.lemmas.Int.{ints}
use Rattle.std.proofs.lemmas.List.{drop-map}
use Rattle.std.proofs.lemmas.List.Elements.{All-nil, All-weaker}
use Rattle.ec_lists.proofs.Filters.{length-filter_le}
use Rattle.ec_lists.proofs.Finds.{find-map, find-none}
use Rattle.ec_terms.specs.declared.ground.Ground.{Ground}
use Rattle.ec_terms.specs.declared.theory.Theory.{Theory}
use Rattle.ec_terms.specs.Domain.{is_initial, is_strong}
use Rattle.ec_axioms.specs.Calculus.{PlainEvent, intervals_of}
use Rattle.ec_axioms.specs.Changes.{is_history}
use Rattle.ec_axioms.specs.Links.{is_live}
use Rattle.ec_axioms.specs.Marks.{PlainMark, mark_at, spans_of}
use Rattle.ec_axioms.specs.Timeline.{Begin, before_all, begin_at, Interval, is_after}
use Rattle.ec_axioms.proofs.HistoryLaws.{SpansAreTheIntervals-law}
use Rattle.ec_changes.proofs.LiveMarks.{NotLiveIsUnknown-law}
use Rattle.ec_rows.specs.declared.mark.Mark.{Mark}
use Rattle.ec_rows.specs.Marks.{IsMarkRow, marks_before, mark_at as row_mark_at}
use Rattle.ec_rows.specs.Ordered.{is_ascending}
use Rattle.ec_rows.specs.PlainMarks.{plain_mark, plain_marks}
use Rattle.ec_rows.proofs.OrderedLemmas.{ascending-first, ascending-rest}
use Rattle.ec_store.specs.Store.{Kept, history_of}
use Rattle.ec_store.specs.Table.{prop_of, term_at}
use Rattle.ec_points.specs.Changes.{has_change}
use Rattle.ec_points.specs.Table.{PointTable, marks_at}
use Rattle.ec_intervals.specs.ChangedRows.{WhatEndsBeforeAChangeStays}
use Rattle.ec_intervals.specs.Steps.{IsIntervalRow, begins_from, comes_before, ends_before, is_proper}
use Rattle.ec_intervals.specs.Table.{members_at, plain_interval, plain_intervals}
use Rattle.ec_intervals.proofs.HistoryRows.{IsIntervalRow-intervals_of}
use Rattle.ec_intervals.proofs.SpanCuts.{filter-both, take-cut}
use Rattle.ec_parts.specs.declared.tally.Tally.{Tally}
use Rattle.ec_parts.specs.Caches.{AreMarksOf}
use Rattle.ec_parts.specs.StandFor.{StandForBoth, View}
use Rattle.ec_parts.proofs.LinksByNumber.{IsOneToOne, term_at-prop_of}
use Rattle.ec_delta.specs.declared.delta.Delta.{Delta}
use Rattle.ec_delta.specs.declared.touches.Touched.{Touched}
use Rattle.ec_delta.specs.Ready.{IsReady, mark_made}
use Rattle.ec_delta.specs.Touched.{touched_at}
use Rattle.ec_apply.proofs.ChangedRows.{IsMarkRow-marks_of, marks_where-ext}
use Rattle.ec_apply.proofs.PlainRows.{if_marked, plain_at, plain_at-marks_of}
use Rattle.ec_watch.specs.declared.row.Row.{Row}
use Rattle.ec_watch.specs.declared.tails.Tail.{Tail}
use Rattle.ec_watch.specs.Watched.{comes_first}
use Rattle.ec_watch.specs.Tails.{AreKeptTails, AreTails, IsKeptTail, IsTailOf, are_placed, has_tail}
use Rattle.ec_watch.proofs.Places.{row-there}

-- ---- what ends before an instant

-- an interval comes before another that begins before it ends
abbrev follows : Interval → Interval → Bool
follows i j = comes_before i j && is_proper j

-- the intervals of a row follow one another
follows-ascend : (xs : List Interval) → IsIntervalRow xs → is_ascending follows xs ≡ true
unfolding is_ascending
follows-ascend [] row = refl
follows-ascend (i ∷ xs) row =
    let proper = and_parts (is_proper i) (list_all is_proper xs) row.proper in
    and_from (list_all (follows i) xs) (is_ascending follows xs) (each xs proper.1 (ascending-first comes_before i xs row.ascending))
    (follows-ascend xs (record { proper = proper.1; ascending = ascending-rest comes_before i xs row.ascending }))
  where
    each : (ys : List Interval) → list_all is_proper ys ≡ true → list_all (comes_before i) ys ≡ true → list_all (follows i) ys ≡ true
    each [] proper before = refl
    each (y ∷ ys) proper before =
        let one = and_parts (is_proper y) (list_all is_proper ys) proper in
        let two = and_parts (comes_before i y) (list_all (comes_before i) ys) before in
        and_from (follows i y) (list_all (follows i) ys) (and_from (comes_before i y) (is_proper y) two.0 one.0) (each ys one.1 two.1)

-- what comes before one that ends before an instant does so too
ends-earlier : (a : ℤ) (i j : Interval) → follows i j ≡ true → ends_before a j ≡ true → ends_before a i ≡ true
ends-earlier a i j follow ends =
    let parts = and_parts (comes_before i j) (is_proper j) follow in by_ends i.until j.from j.until parts.0 parts.1 ends
  where
    between : (x t y : ℤ) → int_le x t ≡ true → int_lt t y ≡ true → int_lt y a ≡ true → int_lt x a ≡ true
    between x t y by before ends = grind (arith, ints)

    by_ends : (until : Option ℤ) (from : Begin) (later : Option ℤ) → option_map_or (λ x. begins_from x from) until false ≡ true → option_map_or (is_after from) later true ≡ true
        → option_map_or (λ x. int_lt x a) later false ≡ true → option_map_or (λ x. int_lt x a) until false ≡ true
    by_ends None from later before proper ends = absurd (false≢true before)
    by_ends (Some x) before_all later before proper ends = absurd (false≢true before)
    by_ends (Some x) (begin_at t) None before proper ends = absurd (false≢true ends)
    by_ends (Some x) (begin_at t) (Some y) before proper ends = between x t y before proper ends

-- the intervals of a row that end before an instant are its first ones
first-ended : (a : ℤ) (xs : List Interval) → IsIntervalRow xs → take (length (filter (ends_before a) xs)) xs ≡ filter (ends_before a) xs
first-ended a xs row = take-cut (ends_before a) xs (filter-both follows (ends_before a) (λ i j follow ends. ends-earlier a i j follow ends) xs (follows-ascend xs row))

-- ---- marks

-- marks that are the same with their times as whole numbers are the same
plain_mark-one : {T : Type 0} (rank : T → ℤ) → ((s t : T) → rank s ≡ rank t → s ≡ t) → (x y : Mark T) → plain_mark rank x ≡ plain_mark rank y → x ≡ y
plain_mark-one {T} rank same_moment x y same =
    let at : x.at ≡ y.at = same_moment x.at y.at (ap (λ (m : PlainMark). m.instant) same) in
    let inits : x.inits ≡ y.inits = ap (λ (m : PlainMark). m.inits) same in
    let terms : x.terms ≡ y.terms = ap (λ (m : PlainMark). m.terms) same in
    let clashes : x.clashes ≡ y.clashes = ap (λ (m : PlainMark). m.clashes) same in
    joined at inits terms clashes
  where
    joined : {s t : T} {i j k l m n : ℕ} → s ≡ t → i ≡ j → k ≡ l → m ≡ n
        → (let made : T → ℕ → ℕ → ℕ → Mark T = λ at inits terms clashes. record { at = at; inits = inits; terms = terms; clashes = clashes } in made s i k m ≡ made t j l n)
    joined at inits terms clashes = cc

option_map-one : {X Y : Type 0} (f : X → Y) → ((x y : X) → f x ≡ f y → x ≡ y) → (o p : Option X) → option_map f o ≡ option_map f p → o ≡ p
option_map-one f one None None same = refl
option_map-one f one None (Some y) same = cc
option_map-one f one (Some x) None same = cc
option_map-one f one (Some x) (Some y) same = ap Some (one x y (let is : Some (f x) ≡ Some (f y) = same in cc))

module _ {T : Type 0} (rank : T → ℤ) (same_moment : (s t : T) → rank s ≡ rank t → s ≡ t) (law : WhatEndsBeforeAChangeStays rank) (theory : Theory) (new : List PlainEvent) (view : View T)
    (tally : Tally) (delta : Delta T) (stand : StandForBoth rank theory (history_of rank view.store.events) new view tally) (ready : IsReady rank theory new view delta)
    (points : PointTable T) (marks_new : AreMarksOf rank theory new view.table points) (history_new : IsTrue (is_history new)) where
  abbrev old : List PlainEvent
  old = history_of rank view.store.events

  module _ (n : ℕ) (p : Ground) (kept : term_at n view.table ≡ Some p) (touched : Touched T) (found : touched_at n delta.planned.touched ≡ Some touched) where
    abbrev a : ℤ
    a = rank touched.from

    row_old : IsMarkRow rank (marks_at n view.points)
    row_old = IsMarkRow-marks_of rank theory old p (marks_at n view.points) stand.caches.history (stand.caches.marks_of.marks n p kept)

    row_new : IsMarkRow rank (marks_at n points)
    row_new = IsMarkRow-marks_of rank theory new p (marks_at n points) history_new (marks_new.marks n p kept)

    -- before the first change there is none
    unchanged : (t : ℤ) → int_lt t a ≡ true → has_change rank n t delta.planned.marks ≡ false
    unchanged t before =
        false_from_ne_true (has_change rank n t delta.planned.marks) (λ there.
        let window = ready.windows.windows n t there in
        let same : window.0 ≡ touched = cc in
        let from = subst (λ (w : Touched T). rank w.from ≤ℤ t) same window.2.0 in
        apart a t from before)
      where
        apart : (a t : ℤ) → a ≤ℤ t → int_lt t a ≡ true → ⊥
        apart a t from before = grind (arith, ints)

    same-mark : (t : ℤ) → int_lt t a ≡ true → mark_at theory old p t ≡ mark_at theory new p t
    same-mark t before =
        ap (λ o. mark_made rank o (mark_at theory old p t)) (sym (find-none _ delta.planned.marks (unchanged t before))) ∙ ready.marks.marks n p t kept

    -- what a row has at an instant is the mark there
    shown : (events : List PlainEvent) (table : PointTable T) → IsTrue (is_history events) → AreMarksOf rank theory events view.table table → (t : ℤ)
        → option_map (plain_mark rank) (row_mark_at rank t (marks_at n table)) ≡ if_marked (mark_at theory events p t)
    shown events table history marks t =
        sym (find-map (λ (m : PlainMark). int_eq m.instant t) (plain_mark rank) (marks_at n table)) ∙ ap (plain_at t) (marks.marks n p kept) ∙ plain_at-marks_of theory events p history t

    same-row : marks_before rank a (marks_at n view.points) ≡ marks_before rank a (marks_at n points)
    same-row = marks_where-ext rank (λ t. int_lt t a) (marks_at n view.points) (marks_at n points) row_old row_new (λ t before.
        option_map-one (plain_mark rank) (plain_mark-one rank same_moment) (row_mark_at rank t (marks_at n view.points)) (row_mark_at rank t (marks_at n points))
        (shown old view.points stand.caches.history stand.caches.marks_of t ∙ ap if_marked (same-mark t before) ∙ sym (shown new points history_new marks_new t)))

    spelt : (events : List PlainEvent) (table : PointTable T) → IsTrue (is_history events) → AreMarksOf rank theory events view.table table
        → spans_of (plain_marks rank (marks_at n table)) (is_strong theory p) (is_initial theory p) ≡ intervals_of theory events p
    spelt events table history marks =
        ap (λ ms. spans_of ms (is_strong theory p) (is_initial theory p)) (marks.marks n p kept) ∙ (SpansAreTheIntervals-law theory events p history).0

    -- so what ends before it is the same
    same-ended : filter (ends_before a) (intervals_of theory old p) ≡ filter (ends_before a) (intervals_of theory new p)
    same-ended =
        ap (filter (ends_before a)) (sym (spelt old view.points stand.caches.history stand.caches.marks_of))
        ∙ law (marks_at n view.points) (marks_at n points) a (is_strong theory p) (is_initial theory p) row_old row_new same-row
        ∙ ap (filter (ends_before a)) (spelt new points history_new marks_new)

    -- and so is what is skipped
    same-first : (k : ℕ) → k ≡ length (filter (ends_before a) (intervals_of theory old p)) → take k (intervals_of theory old p) ≡ take k (intervals_of theory new p)
    same-first k is =
        ap (λ m. take m (intervals_of theory old p)) is ∙ first-ended a (intervals_of theory old p) (IsIntervalRow-intervals_of theory old p stand.caches.history)
        ∙ same-ended ∙ sym (first-ended a (intervals_of theory new p) (IsIntervalRow-intervals_of theory new p history_new))
        ∙ ap (λ m. take m (intervals_of theory new p)) (sym (is ∙ ap length same-ended))

  module _ (rows : List Row) (tails : List (Tail T)) (kept : AreKeptTails rank rows view.table view.intervals delta.planned.touched tails) (one : IsOneToOne view.table) where
    -- a tail that was kept is one
    IsTailOf-kept : (tail : Tail T) → IsKeptTail rank rows view.table view.intervals delta.planned.touched tail → (row : Row) → slice_get rows tail.place ≡ Some row → IsTailOf rank theory old new row.prop tail
    IsTailOf-kept tail is row at =
        let there = row-there is.at.property rows tail.place is.at.there in
        let read : Some there.0 ≡ Some row = sym there.1 ∙ at in
        let same : there.0 ≡ row = cc in
        let property : is.at.property ≡ row.prop = sym there.2 ∙ ap (λ (r : Row). r.prop) same in
        let members = stand.caches.intervals_of.members is.id is.at.property is.at.kept in
        let skipped = is.at.from.skipped ∙ ap (λ xs. length (filter (ends_before (rank is.change.from)) xs)) members in
        let fewer = length-filter_le (ends_before (rank is.change.from)) (intervals_of theory old is.at.property) in
        subst (λ q. IsTailOf rank theory old new q tail) property
        (record {
          kept = ap (plain_intervals rank) is.at.from.kept ∙ sym (drop-map (plain_interval rank) tail.skipped (members_at is.id view.intervals)) ∙ ap (drop tail.skipped) members;
          within = omega (arith, skipped, fewer);
          stayed = same-first is.id is.at.property is.at.kept is.change is.touches tail.skipped skipped;
        })

    -- a watched property without a tail has the same intervals
    stays : (i : ℕ) (row : Row) → slice_get rows i ≡ Some row → has_tail i tails ≡ false → intervals_of theory old row.prop ≡ intervals_of theory new row.prop
    stays i row at none = by_number (prop_of row.prop view.table) refl
      where
        unknown : (events : List PlainEvent) → (IsTrue (is_live theory events row.prop) → IsSome (prop_of row.prop view.table)) → prop_of row.prop view.table ≡ None → intervals_of theory events row.prop ≡ []
        unknown events live absent =
            (NotLiveIsUnknown-law theory events row.prop (false_from_ne_true (is_live theory events row.prop) (λ is. false≢true (sym (ap is_some absent) ∙ live is)))).no_interval

        by_number : (o : Option ℕ) → prop_of row.prop view.table ≡ o → intervals_of theory old row.prop ≡ intervals_of theory new row.prop
        by_number (Some id) is =
            let term = term_at-prop_of view.table row.prop id one is in
            ready.unmoved id row.prop term (kept.others i id row at term none)
        by_number None is = unknown old (stand.live row.prop) is ∙ sym (unknown new (stand.tables.kept.live row.prop) is)

    pub AreTails-kept : AreTails rank theory old new rows tails
    AreTails-kept = record {
      placed = kept.placed;
      of_rows = All-weaker (IsKeptTail rank rows view.table view.intervals delta.planned.touched) (λ tail. tail.place < length rows) (λ tail is. is.at.there.within) tails kept.each;
      each = All-weaker (IsKeptTail rank rows view.table view.intervals delta.planned.touched) (λ tail. (row : Row) → slice_get rows tail.place ≡ Some row → IsTailOf rank theory old new row.prop tail)
          (λ tail is. IsTailOf-kept tail is) tails kept.each;
      others = stays;
    }

no_tails-placed : (T : Type 0) → are_placed {T = T} [] ≡ true
unfolding is_ascending
no_tails-placed T = refl

-- where a list stays, what is watched has no tails
pub AreTails-same : {T : Type 0} (rank : T → ℤ) (theory : Theory) (events : List PlainEvent) (rows : List Row) (tails : List (Tail T)) → tails ≡ [] → AreTails rank theory events events rows tails
AreTails-same {T} rank theory events rows tails none =
    subst (AreTails rank theory events events rows) (sym none)
    (record { placed = no_tails-placed T; of_rows = All-nil (λ tail. tail.place < length rows); each = All-nil _; others = λ i row at other. refl })

-- tails that were kept between a plan and the change that it led to
pub tails-made : {T : Type 0} (rank : T → ℤ) → ((s t : T) → rank s ≡ rank t → s ≡ t) → WhatEndsBeforeAChangeStays rank → (theory planned : Theory) (events : List (Kept T)) (new : List PlainEvent)
    (view after : View T) (tally : Tally) (delta : Delta T) → planned ≡ theory → view.store.events ≡ events → after.table ≡ view.table
    → StandForBoth rank planned (history_of rank view.store.events) new view tally → IsReady rank theory new view delta → StandForBoth rank planned new new after tally
    → (rows : List Row) (tails : List (Tail T)) → AreKeptTails rank rows view.table view.intervals delta.planned.touched tails → IsOneToOne view.table
    → AreTails rank theory (history_of rank events) new rows tails
tails-made rank same_moment law theory planned events new view after tally delta theories stores tables stand ready made rows tails kept one =
    subst (λ es. AreTails rank theory (history_of rank es) new rows tails) stores
    (AreTails-kept rank same_moment law theory new view tally delta (subst (λ t. StandForBoth rank t (history_of rank view.store.events) new view tally) theories stand) ready after.points
    (subst (λ t. AreMarksOf rank t new view.table after.points) theories (subst (λ table. AreMarksOf rank planned new table after.points) tables made.caches.marks_of)) ready.change.history
    rows tails kept one)

-- nothing that is watched is in order
pub no_rows-ascend : is_ascending comes_first [] ≡ true
unfolding is_ascending
no_rows-ascend = refl

-- tails are the same by parts that show the same
pub AreTails-moved : {T : Type 0} (rank : T → ℤ) (theory later : Theory) (events stored : List (Kept T)) (soon after : List PlainEvent) (rows : List Row) (tails : List (Tail T))
    → later ≡ theory → stored ≡ events → after ≡ soon → AreTails rank later (history_of rank stored) soon rows tails → AreTails rank theory (history_of rank events) after rows tails
AreTails-moved rank theory later events stored soon after rows tails theories stores lists are =
    subst (λ es. AreTails rank theory (history_of rank events) es rows tails) (sym lists)
    (subst (λ es. AreTails rank theory (history_of rank es) soon rows tails) stores (subst (λ t. AreTails rank t (history_of rank stored) soon rows tails) theories are))
