-- The last begin of a property before a time: its last start, or that before all events; and where no initiation can break it, that of
-- an interval.
use Rattle.std.proofs.Common.{◌≡◌, ℤ, Bool, true, false, List, [], ◌∷◌, ◌++◌, map, filter, Option, Some, None, option_map, IsTrue, refl, sym, ap, ap₂, ◌∙◌}
use Rattle.std.specs.Prelude.{int_lt}
use Rattle.std.specs.List.{last_or}
use Rattle.std.specs.Option.{option_or}
use Rattle.std.proofs.lemmas.List.Elements.{filter-append}
use Rattle.std.proofs.lemmas.Bool.{and_parts, both_ways, false_from_ne_true, or_parts}
use Rattle.ec_lists.proofs.Filters.{filter_comm, filter-map, filter-filter_wider}
use Rattle.ec_terms.specs.declared.ground.Ground.{Ground}
use Rattle.ec_terms.specs.declared.theory.Theory.{Theory}
use Rattle.ec_terms.specs.Domain.{are_exclusive, is_initial, is_strong}
use Rattle.ec_terms.proofs.DomainLemmas.{are_exclusive-comm}
use Rattle.ec_axioms.specs.Calculus.{PlainEvent, instants_of, timeline_of, timeline_by, intervals_of, is_current, is_initiated}
use Rattle.ec_axioms.specs.Marks.{PlainMark, is_marked, mark_initiates, marks_of, mark_at}
use Rattle.ec_axioms.specs.Timeline.{Timeline, Begin, begin_at, begins_of, initial_begins, instants_before, is_after, is_start, last_begin}
use Rattle.ec_axioms.proofs.HistoryMarks.{timeline_of-marks}
use Rattle.ec_axioms.proofs.Members.{IsMember-from_filter}
use Rattle.ec_axioms.proofs.ExclusiveLaws.{break-terminated}
use Rattle.ec_axioms.proofs.TimelineLaws.{IsBegin-from_member, begins-of_intervals, initiated_at}
use Rattle.ec_axioms.proofs.MarkLaws.{is_marked-initiates}
use Rattle.ec_exclusive.specs.Forms.{breaks_by_initiation, has_form}
use Rattle.ec_exclusive.proofs.KeyLemmas.{exclusive-has_form}
use Rattle.ec_intervals.specs.Table.{last_begin_of}
use Rattle.ec_query.proofs.Lasts.{last_or-append, last_or-map, last_or-member, last_or-or}

-- ---- on a timeline

-- the begin before all events is before each time
initial_begins-before : (initial : Bool) (t : ℤ) → filter (λ begin. is_after begin t) (initial_begins initial) ≡ initial_begins initial
initial_begins-before true t = refl
initial_begins-before false t = refl

-- the last begin is the last start, or else that before all events
pub last_begin-by_start : (line : Timeline) (t : ℤ) → last_begin line t
    ≡ option_or (option_map begin_at (last_or None (filter (is_start line) (instants_before line t)))) (last_or None (initial_begins line.initial))
last_begin-by_start line t =
    let starts : List ℤ = filter (is_start line) line.instants in
    let before : List ℤ = filter (is_start line) (instants_before line t) in
    ap (last_or None)
    (filter-append (λ begin. is_after begin t) (initial_begins line.initial) (map begin_at starts)
    ∙ ap₂ (λ (xs ys : List Begin). xs ++ ys) (initial_begins-before line.initial t)
    (filter-map (λ begin. is_after begin t) begin_at starts ∙ ap (map begin_at) (filter_comm (λ s. int_lt s t) (is_start line) line.instants)))
    ∙ last_or-append None (initial_begins line.initial) (map begin_at before)
    ∙ last_or-or (last_or None (initial_begins line.initial)) (map begin_at before)
    ∙ ap (λ o. option_or o (last_or None (initial_begins line.initial))) (last_or-map begin_at None before)

-- a last begin that is an instant is initiated
pub last_begin-initiated : (line : Timeline) (t s : ℤ) → last_begin line t ≡ Some (begin_at s) → IsTrue (line.initiated s)
last_begin-initiated line t s last =
    initiated_at line s (IsBegin-from_member line (begin_at s) (IsMember-from_filter (λ begin. is_after begin t) (begins_of line) (begin_at s) (last_or-member (filter (λ begin. is_after begin t) (begins_of line)) (begin_at s) last)).0)

-- ---- by the instants that initiate

-- the instants of some marks
abbrev pub instants_in : List PlainMark → List ℤ
instants_in marks = map (λ (mark : PlainMark). mark.instant) marks

-- starts are among the instants that initiate
pub starts-initiated : (line : Timeline) (t : ℤ) → filter (is_start line) (filter (λ s. int_lt s t) (filter line.initiated line.instants)) ≡ filter (is_start line) (instants_before line t)
starts-initiated line t =
    ap (filter (is_start line)) (filter_comm (λ s. int_lt s t) line.initiated line.instants)
    ∙ filter-filter_wider (is_start line) line.initiated (instants_before line t) (λ s start. (and_parts (line.initiated s) _ start).0)

-- the initiations of a property, by their instants
pub initiated-instants : (theory : Theory) (events : List PlainEvent) (p : Ground)
    → instants_in (filter mark_initiates (marks_of theory events p)) ≡ filter (is_initiated theory events (is_current theory events) p) (instants_of events)
unfolding marks_of mark_at timeline_of timeline_by
initiated-instants theory events p =
    let mark : ℤ → PlainMark = mark_at theory events p in
    ap instants_in (filter-filter_wider mark_initiates is_marked (map mark (instants_of events)) is_marked-initiates ∙ filter-map mark_initiates mark (instants_of events))
    ∙ same_instants (filter (λ t. mark_initiates (mark t)) (instants_of events))
    ∙ ap (λ (line : Timeline). filter line.initiated (instants_of events)) (sym (timeline_of-marks theory events p))
  where
    same_instants : (ts : List ℤ) → instants_in (map (mark_at theory events p) ts) ≡ ts
    same_instants [] = refl
    same_instants (t ∷ ts) = ap (λ us. t ∷ us) (same_instants ts)

-- ---- of a property

module _ (theory : Theory) (events : List PlainEvent) (p : Ground) (t : ℤ) where
  -- the last start before a time, if there is one
  abbrev pub last_start : Option ℤ
  last_start = last_or None (filter (is_start (timeline_of theory events p)) (instants_before (timeline_of theory events p) t))

  pub last_begin-started : (s : ℤ) → Some s ≡ last_start → Some (begin_at s) ≡ last_begin (timeline_of theory events p) t
  last_begin-started s is =
      ap (λ o. option_or (option_map begin_at o) (last_or None (initial_begins (timeline_of theory events p).initial))) is
      ∙ sym (last_begin-by_start (timeline_of theory events p) t)

  pub last_begin-initially : (found : Option Begin) → None ≡ last_start → found ≡ last_or None (initial_begins (is_initial theory p)) → found ≡ last_begin (timeline_of theory events p) t
  unfolding timeline_of timeline_by
  last_begin-initially found none is =
      is
      ∙ ap (λ o. option_or (option_map begin_at o) (last_or None (initial_begins (is_initial theory p)))) none
      ∙ sym (last_begin-by_start (timeline_of theory events p) t)

-- ---- by the intervals

-- where no initiation can break a property, its last begin is that of an interval
pub last_begin-of_intervals : (theory : Theory) (events : List PlainEvent) (p : Ground) (t : ℤ) → breaks_by_initiation theory p ≡ false
    → last_begin_of (intervals_of theory events p) t ≡ last_begin (timeline_of theory events p) t
unfolding intervals_of
last_begin-of_intervals theory events p t never =
    let neither = or_parts (has_form theory p) (is_strong theory p) never in
    ap (λ begins. last_or None (filter (λ begin. is_after begin t) begins))
    (begins-of_intervals (timeline_of theory events p)
    (break-terminated theory events p
    (λ q. false_from_ne_true (are_exclusive theory p q)
    (λ exclusive. both_ways (has_form theory p) neither.0 (exclusive-has_form theory q p (are_exclusive-comm theory q p ∙ exclusive))))
    neither.1))
