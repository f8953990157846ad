-- What the marks of a property under its number say of its timeline.
use Rattle.std.proofs.Common.{◌≡◌, ℕ, ◌+◌, ◌<◌, ◌≤◌, ℤ, Bool, true, false, cond, not, ◌&&◌, ◌||◌, List, [], ◌∷◌, ◌++◌, length, map, filter, take, Some, None, option_map, IsTrue, refl, sym, ap, ap₂, ◌∙◌, append-nil, arith}
use Rattle.std.specs.Prelude.{int_lt, nat_lt, slice_get}
use Rattle.std.specs.List.{last_or}
use Rattle.std.specs.Option.{option_map_or}
use Rattle.std.specs.Ordering.{int_eq}
use Rattle.std.specs.List.{list_all}
use Rattle.std.proofs.lemmas.Bool.{and_parts}
use Rattle.std.proofs.lemmas.Bool.Decides.{nat_tests}
use Rattle.std.proofs.lemmas.Int.{ints}
use Rattle.std.proofs.lemmas.Option.{slice_get_within, get_or_from_slice_get}
use Rattle.std.proofs.lemmas.List.{map-append, take_more}
use Rattle.std.proofs.lemmas.List.Elements.{filter-append}
use Rattle.ec_lists.proofs.Filters.{filter-map}
use Rattle.ec_lists.proofs.Finds.{find-map}
use Rattle.ec_terms.specs.declared.ground.Ground.{Ground}
use Rattle.ec_terms.specs.declared.theory.Theory.{Theory}
use Rattle.ec_terms.specs.Domain.{is_initial, is_strong}
use Rattle.ec_axioms.specs.Calculus.{PlainEvent, instants_of, is_current, is_initiated, timeline_by, timeline_of}
use Rattle.ec_axioms.specs.Changes.{is_history}
use Rattle.ec_axioms.specs.Marks.{PlainMark, current_after, last_mark_before, mark_at as plain_at, mark_breaks, mark_initiates, marks_of, row_mark, row_timeline}
use Rattle.ec_axioms.specs.Timeline.{Timeline, instants_before, is_start}
use Rattle.ec_axioms.proofs.HistoryLaws.{CurrencyIsOfTheLastMark-law}
use Rattle.ec_axioms.proofs.HistoryMarks.{AreAllMarked-mark_at, instant-mark_at, timeline_of-marks}
use Rattle.ec_axioms.proofs.MarkLaws.{row_timeline-breaks, row_timeline-initiated}
use Rattle.ec_axioms.proofs.Rounds.{is_current-equation}
use Rattle.ec_axioms.proofs.Members.{list_all-member}
use Rattle.ec_rows.specs.declared.mark.Mark.{Mark}
use Rattle.ec_rows.specs.Marks.{IsMarkRow, mark_at, mark_before, marks_before}
use Rattle.ec_rows.specs.Ordered.{is_ascending}
use Rattle.ec_rows.specs.PlainMarks.{plain_mark, plain_marks}
use Rattle.ec_query.proofs.EventWalks.{StandInFront, take-passing}
use Rattle.ec_query.proofs.LastBegins.{instants_in, starts-initiated}
use Rattle.ec_query.proofs.Lasts.{last_or-append}

-- ---- the mark at a time

-- a timeline has what the marks of the property count
start-by_marks : (theory : Theory) (events : List PlainEvent) (p : Ground) (t : ℤ)
    → is_start (timeline_of theory events p) t
    ≡ (mark_initiates (plain_at theory events p t) && (mark_breaks (is_strong theory p) (plain_at theory events p t) || not (is_current theory events p t)))
unfolding timeline_of
start-by_marks theory events p t =
    ap₂ (λ (line : Timeline) current. line.initiated t && (line.breaks t || not current)) (timeline_of-marks theory events p) (sym (is_current-equation theory events p t))

module _ {T : Type 0} (rank : T → ℤ) (theory : Theory) (events : List PlainEvent) (p : Ground) (marks : List (Mark T)) (are : plain_marks rank marks ≡ marks_of theory events p) (t : ℤ) where
  row_mark-of : row_mark (marks_of theory events p) t ≡ option_map (plain_mark rank) (mark_at rank t marks)
  row_mark-of = ap (λ ms. row_mark ms t) (sym are) ∙ find-map (λ (m : PlainMark). int_eq m.instant t) (plain_mark rank) marks

  -- what the mark at a time says, or nothing where there is none
  abbrev pub by_mark : (PlainMark → Bool) → Bool
  by_mark test = option_map_or test (option_map (plain_mark rank) (mark_at rank t marks)) false

  by_mark-initiates : by_mark mark_initiates ≡ mark_initiates (plain_at theory events p t)
  unfolding row_timeline marks_of
  by_mark-initiates =
      ap (λ o. option_map_or mark_initiates o false) (sym row_mark-of)
      ∙ row_timeline-initiated (plain_at theory events p) (is_strong theory p) (instant-mark_at theory events p) (is_initial theory p) (instants_of events) (AreAllMarked-mark_at theory events p) t

  by_mark-breaks : by_mark (mark_breaks (is_strong theory p)) ≡ mark_breaks (is_strong theory p) (plain_at theory events p t)
  unfolding row_timeline marks_of
  by_mark-breaks =
      ap (λ o. option_map_or (mark_breaks (is_strong theory p)) o false) (sym row_mark-of)
      ∙ row_timeline-breaks (plain_at theory events p) (is_strong theory p) (instant-mark_at theory events p) (is_initial theory p) (instants_of events) (AreAllMarked-mark_at theory events p) t

  -- where there is no mark the property does not start
  pub start-no_mark : mark_at rank t marks ≡ None → is_start (timeline_of theory events p) t ≡ false
  start-no_mark none =
      start-by_marks theory events p t
      ∙ ap (λ b. b && (mark_breaks (is_strong theory p) (plain_at theory events p t) || not (is_current theory events p t)))
      (sym by_mark-initiates ∙ ap (λ o. option_map_or mark_initiates (option_map (plain_mark rank) o) false) none)

  -- where there is one, it tells
  pub start-mark : (m : Mark T) → mark_at rank t marks ≡ Some m → (nat_lt 0 m.inits && (mark_breaks (is_strong theory p) (plain_mark rank m) || not (is_current theory events p t))) ≡ is_start (timeline_of theory events p) t
  start-mark m is =
      ap₂ (λ a b. a && (b || not (is_current theory events p t)))
      (sym (ap (λ o. option_map_or mark_initiates (option_map (plain_mark rank) o) false) is) ∙ by_mark-initiates)
      (sym (ap (λ o. option_map_or (mark_breaks (is_strong theory p)) (option_map (plain_mark rank) o) false) is) ∙ by_mark-breaks)
      ∙ sym (start-by_marks theory events p t)

  -- the marks tell currency
  pub current-by_marks : (initial : Bool) → is_history events ≡ true → initial ≡ is_initial theory p → current_after initial (last_mark_before (plain_marks rank marks) t) ≡ is_current theory events p t
  current-by_marks initial history is = ap₂ (λ b ms. current_after b (last_mark_before ms t)) is are ∙ sym (CurrencyIsOfTheLastMark-law theory events p t history)

-- ---- a walk back over the initiations

module _ {T : Type 0} (rank : T → ℤ) where
  -- the times of marks
  abbrev pub times_in : List (Mark T) → List ℤ
  times_in marks = map (λ mark. rank mark.at) marks

  pub times-instants : (marks : List (Mark T)) → times_in marks ≡ instants_in (plain_marks rank marks)
  times-instants [] = refl
  times-instants (m ∷ marks) = ap (λ ts. rank m.at ∷ ts) (times-instants marks)

  row-pairs : (t : ℤ) (marks : List (Mark T)) → IsTrue (is_ascending (mark_before rank) marks) → StandInFront (λ (m : Mark T). int_lt (rank m.at) t) marks
  unfolding is_ascending
  row-pairs t [] ascending = tt
  row-pairs t (m ∷ marks) ascending =
      let parts = and_parts (list_all (mark_before rank m) marks) (is_ascending (mark_before rank) marks) ascending in
      (λ n member late. later (rank m.at) (rank n.at) (list_all-member (mark_before rank m) marks n parts.0 member) late, row-pairs t marks parts.1)
    where
      later : (a b : ℤ) → int_lt a b ≡ true → int_lt a t ≡ false → int_lt b t ≡ false
      later a b less late = grind (arith, ints)

  -- the starts of a timeline among some marks
  abbrev pub starts_of : Timeline → List (Mark T) → List ℤ
  starts_of line ms = filter (is_start line) (times_in ms)

  module _ (theory : Theory) (events : List PlainEvent) (p : Ground) (marks : List (Mark T)) (times : times_in marks ≡ filter (is_initiated theory events (is_current theory events) p) (instants_of events)) (t : ℤ) where
    starts-all : starts_of (timeline_of theory events p) (marks_before rank t marks) ≡ filter (is_start (timeline_of theory events p)) (instants_before (timeline_of theory events p) t)
    unfolding timeline_of timeline_by
    starts-all =
        ap (filter (is_start (timeline_of theory events p))) (sym (filter-map (λ s. int_lt s t) (λ (m : Mark T). rank m.at) marks) ∙ ap (filter (λ s. int_lt s t)) times)
        ∙ starts-initiated (timeline_of theory events p) t

    -- at first all marks before the time are left
    pub starts-first : (i : ℕ) → i ≡ length (marks_before rank t marks) → IsMarkRow rank marks
        → starts_of (timeline_of theory events p) (take i marks) ≡ filter (is_start (timeline_of theory events p)) (instants_before (timeline_of theory events p) t)
    starts-first i is row =
        ap (starts_of (timeline_of theory events p)) (ap (λ n. take n marks) is ∙ take-passing (λ (m : Mark T). int_lt (rank m.at) t) marks (row-pairs t marks row.ascending)) ∙ starts-all

    -- where the property has no mark that initiates, it has no start
    pub starts-none : marks ≡ [] → filter (is_start (timeline_of theory events p)) (instants_before (timeline_of theory events p) t) ≡ []
    starts-none none = sym starts-all ∙ ap (λ ms. starts_of (timeline_of theory events p) (marks_before rank t ms)) none

  -- the last of those that are left
  module _ (line : Timeline) (marks : List (Mark T)) (i : ℕ) (m : Mark T) (there : slice_get marks i ≡ Some m) where
    take-last : take (i + 1) marks ≡ take i marks ++ m ∷ []
    take-last = take_more marks i m (slice_get_within marks i m there) ∙ ap (λ n. take i marks ++ n ∷ []) (get_or_from_slice_get marks i m m there)

    starts-last : starts_of line (take (i + 1) marks) ≡ starts_of line (take i marks) ++ filter (is_start line) (rank m.at ∷ [])
    starts-last = ap (starts_of line) take-last ∙ ap (filter (is_start line)) (map-append (λ (n : Mark T). rank n.at) (take i marks) (m ∷ [])) ∙ filter-append (is_start line) (times_in (take i marks)) (rank m.at ∷ [])

    -- is a start
    pub starts-here : is_start line (rank m.at) ≡ true → last_or None (starts_of line (take (i + 1) marks)) ≡ Some (rank m.at)
    starts-here start =
        ap (last_or None) (starts-last ∙ ap (λ b. starts_of line (take i marks) ++ cond b (rank m.at ∷ []) []) start)
        ∙ last_or-append None (starts_of line (take i marks)) (rank m.at ∷ [])

    -- or none
    pub starts-earlier : is_start line (rank m.at) ≡ false → starts_of line (take (i + 1) marks) ≡ starts_of line (take i marks)
    starts-earlier no_start = starts-last ∙ ap (λ b. starts_of line (take i marks) ++ cond b (rank m.at ∷ []) []) no_start ∙ append-nil (starts_of line (take i marks))

-- where no mark is left
pub at_first : (i : ℕ) → i ≤ 0 → i ≡ 0
at_first i none = omega (arith, none)

-- ---- what was asked of a mark

pub start_breaks : (inits : ℕ) (asked breaks current start : Bool) → 0 < inits → asked ≡ true → asked ≡ breaks → (nat_lt 0 inits && (breaks || not current)) ≡ start → asked ≡ start
start_breaks inits asked breaks current start some is says told = grind (arith, nat_tests)

pub start_not_current : (inits : ℕ) (asked breaks answer current start : Bool) → 0 < inits → asked ≡ false → asked ≡ breaks → answer ≡ current → (nat_lt 0 inits && (breaks || not current)) ≡ start → not answer ≡ start
start_not_current inits asked breaks answer current start some is says answered told = grind (arith, nat_tests)

pub start_not_initiated : (inits : ℕ) (rest start : Bool) → inits ≤ 0 → (nat_lt 0 inits && rest) ≡ start → nat_lt 0 inits ≡ start
start_not_initiated inits rest start none told = grind (arith, nat_tests)
