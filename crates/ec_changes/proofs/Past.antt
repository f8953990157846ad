-- Before the first event that stands in one list alone, the two lists have the same events, and so all else is the same.
use Rattle.std.proofs.Common.{◌≡◌, ℤ, ◌≤ℤ◌, ◌<ℤ◌, Bool, true, not, ◌&&◌, ◌||◌, List, map, IsTrue, sym, ap, ap₂, subst, ◌∙◌, ⊎_elim, arith, IsFalse, filter}
use Rattle.std.specs.Prelude.{int_lt, int_le}
use Rattle.std.specs.Ordering.{int_eq}
use Rattle.std.proofs.lemmas.Bool.{false_from_ne_true, cases_Bool, false≢true, not_from_false}
use Rattle.std.proofs.lemmas.Int.{ints}
use Rattle.ec_lists.proofs.Integers.{int_le-from, int_lt-not_after, int_lt-same, int_lt-from_le_turned}
use Rattle.ec_lists.proofs.Filters.{filter_comm, filter-filter_wider}
use Rattle.ec_terms.specs.declared.ground.Ground.{Ground}
use Rattle.ec_terms.specs.declared.theory.Theory.{Theory}
use Rattle.ec_terms.specs.Domain.{GroundEntry}
use Rattle.ec_axioms.specs.Laws.{events_before, events_up_to}
use Rattle.ec_axioms.specs.Timeline.{is_start}
use Rattle.ec_axioms.specs.Calculus.{PlainEvent, instants_of, effects_at, is_initiated, has_break, is_current, timeline_by, timeline_of}
use Rattle.ec_axioms.specs.Marks.{PlainMark, mark_at, marks_of, is_marked}
use Rattle.ec_axioms.specs.Changes.{is_history, has_event, kept_events, events_only_in}
use Rattle.ec_axioms.proofs.Effects.{is_initiated-same, has_break-same}
use Rattle.ec_axioms.proofs.Rounds.{is_current-past, effects_at-past, is_current-equation}
use Rattle.ec_axioms.proofs.Members.{IsMember, IsMember-filter, IsMember-from_filter, IsMember-from_map, IsPairwise, IsPairwise-filter, IsPairwise-map, IsPairwise-weaker, filter_all, list_all-member, IsMember-map, IsMember-append_right, IsMember-append_left}
use Rattle.ec_axioms.proofs.Instants.{IsPairwise-from_ascending, is_ascending-instants_of}
use Rattle.ec_axioms.proofs.HistoryMarks.{instant-mark_at, AreAllMarked-mark_at}
use Rattle.ec_changes.specs.QuietLaws.{single_events, EventsStay, PastStays, DifferFrom, marks_before}
use Rattle.ec_changes.proofs.Activity.{is_active-each}
use Rattle.ec_changes.proofs.KeptEvents.{kept_events-both, same_from_members}
use Rattle.ec_changes.proofs.Quiet.{mark_at-same}

-- ---- events

-- the events of a list that pass a test stand in the other list too, where those that do not fail it
kept_passing : (p : PlainEvent → Bool) (these those : List PlainEvent) → ((e : PlainEvent) → IsMember (events_only_in these those) e → IsFalse (p e))
    → filter p (kept_events these those) ≡ filter p these
unfolding kept_events events_only_in
kept_passing p these those fails =
    filter_comm p (has_event those) these
    ∙ filter_all (has_event those) (filter p these)
    (λ e member.
    let kept = IsMember-from_filter p these e member in
    ⊎_elim (λ there. there)
    (λ absent.
    let single = IsMember-filter (λ f. not (has_event those f)) these e kept.0 (not_from_false (has_event those e) absent) in
    absurd (false≢true (sym (fails e single) ∙ kept.1)))
    (cases_Bool (has_event those e)))

-- so where the events of one list alone fail a test, those that pass it are the same in both
events-passing : (p : PlainEvent → Bool) (old new : List PlainEvent) → IsTrue (is_history old) → IsTrue (is_history new)
    → ((e : PlainEvent) → IsMember (single_events old new) e → IsFalse (p e)) → filter p old ≡ filter p new
events-passing p old new history_old history_new fails =
    sym (kept_passing p old new (λ e member. fails e (IsMember-append_left (events_only_in old new) (events_only_in new old) e member)))
    ∙ ap (filter p) (kept_events-both old new history_old history_new)
    ∙ kept_passing p new old (λ e member. fails e (IsMember-append_right (events_only_in old new) (events_only_in new old) e member))

-- the law
pub EventsStay-law : EventsStay
EventsStay-law old new t history_old history_new none =
    events-passing (λ e. int_eq e.rank t) old new history_old history_new
    (λ e member. false_from_ne_true (int_eq e.rank t)
    (λ there. subst (λ events. IsMember events e) none (IsMember-filter (λ (f : PlainEvent). int_eq f.rank t) (single_events old new) e member there)))

-- both lists have the same events before t
events_before-same : (old new : List PlainEvent) (t : ℤ) → IsTrue (is_history old) → IsTrue (is_history new) → DifferFrom t old new
    → events_before t old ≡ events_before t new
events_before-same old new t history_old history_new late =
    events-passing (λ e. int_lt e.rank t) old new history_old history_new
    (λ e member. int_lt-from_le_turned t e.rank (list_all-member (λ (f : PlainEvent). int_le t f.rank) (single_events old new) e late member))

-- and the same events up to each earlier time
events_up_to-same : (old new : List PlainEvent) (s t : ℤ) → events_before t old ≡ events_before t new → s <ℤ t → events_up_to s old ≡ events_up_to s new
events_up_to-same old new s t same earlier =
    sym (filter-filter_wider (λ e. int_le e.rank s) (λ e. int_lt e.rank t) old (within s earlier))
    ∙ ap (events_up_to s) same
    ∙ filter-filter_wider (λ e. int_le e.rank s) (λ e. int_lt e.rank t) new (within s earlier)
  where
    within : (s : ℤ) → s <ℤ t → (e : PlainEvent) → int_le e.rank s ≡ true → int_lt e.rank t ≡ true
    within s earlier e up = grind (arith, ints)

-- ---- rows of marks

-- a mark of a property is that at its instant, and has a count
pub IsMember-from_marks_of : (theory : Theory) (events : List PlainEvent) (p : Ground) (mark : PlainMark) → IsMember (marks_of theory events p) mark
    → (mark_at theory events p mark.instant ≡ mark) × IsTrue (is_marked mark)
unfolding marks_of
IsMember-from_marks_of theory events p mark member =
    let kept = IsMember-from_filter is_marked (map (mark_at theory events p) (instants_of events)) mark member in
    let found = IsMember-from_map (mark_at theory events p) (instants_of events) mark kept.0 in
    let placed : found.0 ≡ mark.instant = sym (instant-mark_at theory events p found.0) ∙ ap (λ (m : PlainMark). m.instant) found.2 in
    (ap (mark_at theory events p) (sym placed) ∙ found.2, kept.1)

-- and each that has a count is one of them
pub IsMember-marks_of : (theory : Theory) (events : List PlainEvent) (p : Ground) (t : ℤ) → IsTrue (is_marked (mark_at theory events p t))
    → IsMember (marks_of theory events p) (mark_at theory events p t)
unfolding marks_of
IsMember-marks_of theory events p t some =
    IsMember-filter is_marked (map (mark_at theory events p) (instants_of events)) (mark_at theory events p t)
    (IsMember-map (mark_at theory events p) (instants_of events) t (AreAllMarked-mark_at theory events p t some)) some

-- marks stand in the order of their instants
abbrev pub is_earlier : PlainMark → PlainMark → Type 0
is_earlier m n = IsTrue (int_lt m.instant n.instant)

pub IsPairwise-marks_of : (theory : Theory) (events : List PlainEvent) (p : Ground) → IsTrue (is_history events) → IsPairwise is_earlier (marks_of theory events p)
unfolding marks_of
IsPairwise-marks_of theory events p history =
    IsPairwise-filter is_earlier is_marked (map (mark_at theory events p) (instants_of events))
    (IsPairwise-map is_earlier (mark_at theory events p) (instants_of events)
    (IsPairwise-weaker (λ s t. IsTrue (int_lt s t)) _ (instants_of events) (IsPairwise-from_ascending (instants_of events) (is_ascending-instants_of events history))
    (λ s t left right before.
    subst (λ u. IsTrue (int_lt u (mark_at theory events p t).instant)) (sym (instant-mark_at theory events p s))
    (subst (λ u. IsTrue (int_lt s u)) (sym (instant-mark_at theory events p t)) before))))

-- rows agree before t where the marks at each instant before t do
marks_before-same : (theory : Theory) (old new : List PlainEvent) (p : Ground) (t : ℤ) → IsTrue (is_history old) → IsTrue (is_history new)
    → ((s : ℤ) → IsTrue (int_lt s t) → mark_at theory old p s ≡ mark_at theory new p s)
    → marks_before t (marks_of theory old p) ≡ marks_before t (marks_of theory new p)
marks_before-same theory old new p t history_old history_new same =
    same_from_members is_earlier (λ m before. false≢true (sym (int_lt-same m.instant) ∙ before))
    (λ m n before after. false≢true (sym (int_lt-not_after m.instant n.instant before) ∙ after))
    (marks_before t (marks_of theory old p)) (marks_before t (marks_of theory new p))
    (IsPairwise-filter is_earlier (λ m. int_lt m.instant t) (marks_of theory old p) (IsPairwise-marks_of theory old p history_old))
    (IsPairwise-filter is_earlier (λ m. int_lt m.instant t) (marks_of theory new p) (IsPairwise-marks_of theory new p history_new))
    (moved old new same)
    (moved new old (λ s before. sym (same s before)))
  where
    moved : (these those : List PlainEvent) → ((s : ℤ) → IsTrue (int_lt s t) → mark_at theory these p s ≡ mark_at theory those p s) → (mark : PlainMark)
        → IsMember (marks_before t (marks_of theory these p)) mark → IsMember (marks_before t (marks_of theory those p)) mark
    moved these those agree mark member =
        let kept = IsMember-from_filter (λ (m : PlainMark). int_lt m.instant t) (marks_of theory these p) mark member in
        let own = IsMember-from_marks_of theory these p mark kept.0 in
        let there : mark_at theory those p mark.instant ≡ mark = sym (agree mark.instant kept.1) ∙ own.0 in
        IsMember-filter (λ (m : PlainMark). int_lt m.instant t) (marks_of theory those p) mark
        (subst (IsMember (marks_of theory those p)) there
        (IsMember-marks_of theory those p mark.instant (subst (λ (m : PlainMark). IsTrue (is_marked m)) (sym there) own.1))) kept.1

-- ---- starts

-- a start at s by what is initiated, broken and current there
is_start-by : (theory : Theory) (events : List PlainEvent) (p : Ground) (s : ℤ)
    → is_start (timeline_of theory events p) s
    ≡ (is_initiated theory events (is_current theory events) p s && (has_break theory events (is_current theory events) p s || not (is_current theory events p s)))
unfolding timeline_of timeline_by
is_start-by theory events p s =
    ap (λ current. is_initiated theory events (is_current theory events) p s && (has_break theory events (is_current theory events) p s || not current))
    (sym (is_current-equation theory events p s))

-- the law
pub PastStays-law : PastStays
PastStays-law theory old new t history_old history_new late = record {
  currency = λ p s within. current p s within;
  marks = λ p s before. mark p s before;
  rows = λ p. marks_before-same theory old new p t history_old history_new (λ s before. mark p s (lt_from s before));
  starts = λ p s before.
      is_start-by theory old p s
      ∙ start _ _ _ _ _ _ (is_initiated-same theory old new (is_current theory old) (is_current theory new) p s (effects s before))
      (has_break-same theory old new (is_current theory old) (is_current theory new) p s (effects s before))
      (current p s (le_from s before))
      ∙ sym (is_start-by theory new p s);
  activity = λ effect within. is_active-each (is_current theory old) (is_current theory new) effect (λ literal member. current literal.prop effect.event.rank within);
}
  where
    same : events_before t old ≡ events_before t new
    same = events_before-same old new t history_old history_new late

    current : (p : Ground) (s : ℤ) → s ≤ℤ t → is_current theory old p s ≡ is_current theory new p s
    current p s within = is_current-past theory old new t s p same (int_le-from s t within)

    effects : (s : ℤ) → s <ℤ t → (wanted : GroundEntry → Bool)
        → effects_at theory old (is_current theory old) wanted s ≡ effects_at theory new (is_current theory new) wanted s
    effects s before wanted = effects_at-past theory old new s wanted (events_up_to-same old new s t same before)

    mark : (p : Ground) (s : ℤ) → s <ℤ t → mark_at theory old p s ≡ mark_at theory new p s
    mark p s before = sym (mark_at-same theory old new p s (effects s before))

    lt_from : (s : ℤ) → IsTrue (int_lt s t) → s <ℤ t
    lt_from s before = grind (arith, ints)

    le_from : (s : ℤ) → s <ℤ t → s ≤ℤ t
    le_from s before = omega (arith, ints)

    start : (i j b e c d : Bool) → i ≡ j → b ≡ e → c ≡ d → (i && (b || not c)) ≡ (j && (e || not d))
    start i j b e c d x y z = ap₂ (λ u v. u && v) x (ap₂ (λ u v. u || not v) y z)
