-- The laws of the calculus on intervals, holding and marks: the laws of timelines, at the timelines of the properties of a history.
use Rattle.std.proofs.Common.{◌≤ℤ◌, IsTrue, ap, sym, ◌∙◌}
use Rattle.std.specs.Prelude.{int_le}
use Rattle.ec_terms.specs.Domain.{is_strong, is_initial}
use Rattle.ec_terms.proofs.DomainLemmas.{are_exclusive-comm}
use Rattle.ec_axioms.specs.Timeline.{begin_at, is_current_on, begins_of, next_break, intervals_on, broken_on}
use Rattle.ec_axioms.specs.Calculus.{timeline_of, timeline_by, instants_of, intervals_of, broken_of, holds_at, holds_through, reason_of}
use Rattle.ec_axioms.specs.Marks.{mark_at, marks_of}
use Rattle.ec_axioms.specs.Laws.{CurrencyIsOfTheLastMark, SpansAreTheIntervals, IntervalsAreDisjoint, AtMostOneIntervalCovers, ExclusivesShareOnlyABeginning, ThroughIsEachInstant, HoldingIsTheReasonYes}
use Rattle.ec_axioms.proofs.Rounds.{is_current-equation}
use Rattle.ec_lists.proofs.Integers.{int_le-is, int_le-from}
use Rattle.ec_axioms.proofs.Members.{IsMember-from_contains, IsSomeAnd-weaker}
use Rattle.ec_axioms.proofs.Instants.{is_ascending-instants_of}
use Rattle.ec_axioms.proofs.TimelineLaws.{IsBegin-from_member, next_break-start, is_held_at-reason_on, is_held_through-each, covers-same, covers-same_begin}
use Rattle.ec_axioms.proofs.MarkLaws.{is_current_on-last_mark, spans_of-marks_at, broken_spans_of-marks_at}
use Rattle.ec_axioms.proofs.HistoryMarks.{instant-mark_at, timeline_of-marks, AreAllMarked-mark_at}
use Rattle.ec_axioms.proofs.ExclusiveLaws.{IsBrokenBy-timeline_of}

-- ---- marks

-- the last mark before a time tells currency there
pub CurrencyIsOfTheLastMark-law : CurrencyIsOfTheLastMark
unfolding timeline_of marks_of
CurrencyIsOfTheLastMark-law theory events p t history =
    is_current-equation theory events p t
    ∙ ap (λ line. is_current_on line t) (timeline_of-marks theory events p)
    ∙ is_current_on-last_mark (mark_at theory events p) (is_strong theory p) (instant-mark_at theory events p) (is_initial theory p)
    (instants_of events) (is_ascending-instants_of events history) t

-- the marks of a property spell its intervals and its broken begins
pub SpansAreTheIntervals-law : SpansAreTheIntervals
unfolding marks_of intervals_of broken_of
SpansAreTheIntervals-law theory events p history =
    let mark = mark_at theory events p in
    let placed = instant-mark_at theory events p in
    let instants = instants_of events in
    let ascending = is_ascending-instants_of events history in
    let all = AreAllMarked-mark_at theory events p in
    let counted = timeline_of-marks theory events p in (
      spans_of-marks_at mark (is_strong theory p) placed (is_initial theory p) instants ascending all ∙ sym (ap intervals_on counted),
      broken_spans_of-marks_at mark (is_strong theory p) placed (is_initial theory p) instants ascending all ∙ sym (ap broken_on counted),
    )

-- ---- intervals

-- the next break after a begin comes not after a later start
pub IntervalsAreDisjoint-law : IntervalsAreDisjoint
unfolding timeline_of timeline_by
IntervalsAreDisjoint-law theory events p begin s history first start after =
    let line = timeline_of theory events p in
    let begins = IsBegin-from_member line begin (IsMember-from_contains (begins_of line) begin first) in
    let starts = IsBegin-from_member line (begin_at s) (IsMember-from_contains (begins_of line) (begin_at s) start) in
    IsSomeAnd-weaker (next_break line begin) (λ x. IsTrue (int_le x s)) (λ x. x ≤ℤ s) (λ x. int_le-is x s)
    (next_break-start line (is_ascending-instants_of events history) begin s begins starts after)

-- an interval that covers a time has ended before a later one begins
pub AtMostOneIntervalCovers-law : AtMostOneIntervalCovers
unfolding timeline_of timeline_by intervals_of
AtMostOneIntervalCovers-law theory events p t i j history has_i has_j covers_i covers_j =
    let line = timeline_of theory events p in
    covers-same line (is_ascending-instants_of events history) i j
    (IsMember-from_contains (intervals_on line) i has_i) (IsMember-from_contains (intervals_on line) j has_j) t covers_i covers_j

-- each of two exclusive properties breaks where the other begins
pub ExclusivesShareOnlyABeginning-law : ExclusivesShareOnlyABeginning
unfolding timeline_of timeline_by intervals_of
ExclusivesShareOnlyABeginning-law theory events p q t i j history exclusive has_i has_j covers_i covers_j =
    let first = timeline_of theory events p in
    let second = timeline_of theory events q in
    let ascending = is_ascending-instants_of events history in
    covers-same_begin first second ascending ascending
    (IsBrokenBy-timeline_of theory events p q exclusive) (IsBrokenBy-timeline_of theory events q p (are_exclusive-comm theory q p ∙ exclusive))
    i j (IsMember-from_contains (intervals_on first) i has_i) (IsMember-from_contains (intervals_on second) j has_j) t covers_i covers_j

-- ---- holding

-- each interval that ends within a stretch is followed by one that begins there
pub ThroughIsEachInstant-law : ThroughIsEachInstant
unfolding timeline_of timeline_by holds_at holds_through intervals_of
ThroughIsEachInstant-law theory events p a b history stretch =
    let each = is_held_through-each (timeline_of theory events p) (is_ascending-instants_of events history) a b (int_le-from a b stretch) in (
      λ through t from_a to_b. each.0 through t (int_le-from a t from_a) (int_le-from t b to_b),
      λ held. each.1 (λ t from_a to_b. held t (int_le-is a t from_a) (int_le-is t b to_b)),
    )

-- only from the last begin before a time may the reason there be yes
pub HoldingIsTheReasonYes-law : HoldingIsTheReasonYes
unfolding timeline_of timeline_by holds_at intervals_of reason_of
HoldingIsTheReasonYes-law theory events p t history = is_held_at-reason_on (timeline_of theory events p) (is_ascending-instants_of events history) t
