-- The laws of marks: the last mark before an instant tells currency there, and the spans that a row of marks spells are the intervals.
use Rattle.std.proofs.Common.{◌≡◌, ℤ, Bool, true, false, cond, not, ◌&&◌, ◌||◌, List, [], ◌∷◌, ◌++◌, map, filter, find, filter_map, Option, Some, None, option_map, IsTrue, IsFalse, refl, ap, ap₂, sym, subst, ◌∙◌, ⊎_elim, arith}
use Rattle.std.specs.Prelude.{int_lt}
use Rattle.std.specs.List.{list_any, last_or}
use Rattle.std.specs.Option.{option_map_or}
use Rattle.std.specs.Ordering.{int_eq}
use Rattle.std.proofs.lemmas.Bool.{cond-true, cond-false, and_parts, and_left, and_from, cases_Bool, false≢true}
use Rattle.std.proofs.lemmas.Bool.Decides.{nat_tests}
use mathlib.Core.Path.{fun_ext}
use Rattle.ec_axioms.specs.Timeline.{Timeline, Begin, begin_at, is_current_on, is_after, is_start, initial_begins, begins_of, next_break, interval_from, broken_from, intervals_on, broken_on}
use Rattle.ec_axioms.specs.Marks.{PlainMark, is_marked, last_mark_before, mark_initiates, mark_terminates, mark_breaks, current_after, mark_starts, row_starts, row_begins, row_mark, row_timeline, spans_of, broken_spans_of}
use Rattle.ec_lists.proofs.Integers.{int_lt-same, int_lt-not_after, int_eq-is, int_eq-same}
use Rattle.ec_lists.proofs.Filters.{filter-map, filter_comm}
use Rattle.ec_lists.proofs.Finds.{find-filter, find-map, find_agree}
use Rattle.ec_axioms.proofs.Members.{IsMember, IsMember-from_filter, find-Some, find-None, filter_all, filter_none, list_any_agree, filter_agree}
use Rattle.ec_axioms.proofs.Instants.{is_ascending, is_ascending-head, is_ascending-tail, is_ascending-filter}

-- ---- marks

-- a mark with no count does not initiate
not_marked-initiates : (mark : PlainMark) → IsFalse (is_marked mark) → IsFalse (mark_initiates mark)
not_marked-initiates mark empty = grind (arith, nat_tests)

-- so one that initiates has a count
pub is_marked-initiates : (mark : PlainMark) → mark_initiates mark ≡ true → is_marked mark ≡ true
is_marked-initiates mark initiates = grind (arith, nat_tests)

-- it does not terminate
not_marked-terminates : (mark : PlainMark) → IsFalse (is_marked mark) → IsFalse (mark_terminates mark)
not_marked-terminates mark empty = grind (arith, nat_tests)

-- and it does not break
not_marked-breaks : (strong : Bool) (mark : PlainMark) → IsFalse (is_marked mark) → IsFalse (mark_breaks strong mark)
not_marked-breaks strong mark empty = grind (arith, nat_tests)

-- a mark that breaks has a count
marked-from_breaks : (strong : Bool) (mark : PlainMark) → IsTrue (mark_breaks strong mark) → IsTrue (is_marked mark)
marked-from_breaks strong mark breaks = grind (arith, nat_tests)

-- whether a property is current just behind an instant, from its mark there and from whether it is current at it
abbrev is_current_after : Bool → Bool → PlainMark → Bool
is_current_after strong current mark = mark_initiates mark || (current && not (mark_breaks strong mark))

-- a mark with a count decides it alone
marked-current : (strong current : Bool) (mark : PlainMark) → IsTrue (is_marked mark) → is_current_after strong current mark ≡ mark_initiates mark
marked-current strong current mark some = grind (arith, nat_tests)

-- and a mark with no count leaves it as it is
not_marked-current : (strong current : Bool) (mark : PlainMark) → IsFalse (is_marked mark) → is_current_after strong current mark ≡ current
not_marked-current strong current mark empty = grind (arith, nat_tests)

-- the marks of some instants: those with a count
abbrev pub marks_at : (ℤ → PlainMark) → List ℤ → List PlainMark
marks_at mark ts = filter is_marked (map mark ts)

-- ---- currency, instant by instant

-- some instants with a first one in front: initiated behind the last break, or current at the first and not broken
current_step : (initiated breaks current some broken : Bool)
    → (((initiated && not broken) || some) || (current && not (breaks || broken))) ≡ (some || ((initiated || (current && not breaks)) && not broken))
current_step initiated breaks current some broken = grind arith

module _ (mark : ℤ → PlainMark) (strong : Bool) where
  -- the timeline of some instants whose happenings at each rank are counted by a mark
  abbrev pub marked_timeline : Bool → List ℤ → Timeline
  marked_timeline initial ts = record {
    instants = ts;
    initiated = λ t. mark_initiates (mark t);
    terminated = λ t. mark_terminates (mark t);
    breaks = λ t. mark_breaks strong (mark t);
    initial = initial;
  }

  -- some instant breaks
  abbrev is_broken : List ℤ → Bool
  is_broken ts = list_any (λ t. mark_breaks strong (mark t)) ts

  -- current behind some instants, from whether the property is current at the first of them
  abbrev is_current_behind : Bool → List ℤ → Bool
  is_current_behind current ts =
      list_any (λ s. mark_initiates (mark s) && not (is_broken (filter (λ u. int_lt s u) ts))) ts || (current && not (is_broken ts))

  -- no instant changes nothing
  is_current_behind-none : (current : Bool) → is_current_behind current [] ≡ current
  is_current_behind-none true = refl
  is_current_behind-none false = refl

  -- behind a first instant and others the property is what it is behind the others, from its currency just behind the first
  is_current_behind-first : (current : Bool) (u : ℤ) (ts : List ℤ) → ((s : ℤ) → IsMember ts s → IsTrue (int_lt u s))
      → is_current_behind current (u ∷ ts) ≡ is_current_behind (is_current_after strong current (mark u)) ts
  is_current_behind-first current u ts first =
      let carries : List ℤ → ℤ → Bool = λ us s. mark_initiates (mark s) && not (is_broken (filter (λ v. int_lt s v) us)) in
      let own : filter (λ s. int_lt u s) (u ∷ ts) ≡ ts = cond-false (int_lt u u) _ _ (int_lt-same u) ∙ filter_all (λ s. int_lt u s) ts first in
      let others : list_any (carries (u ∷ ts)) ts ≡ list_any (carries ts) ts =
      list_any_agree (carries (u ∷ ts)) (carries ts) ts
      (λ s member. ap (λ us. mark_initiates (mark s) && not (is_broken us)) (cond-false (int_lt s u) _ _ (int_lt-not_after u s (first s member)))) in
      ap₂ (λ us some. ((mark_initiates (mark u) && not (is_broken us)) || some) || (current && not (mark_breaks strong (mark u) || is_broken ts)))
      own others
      ∙ current_step (mark_initiates (mark u)) (mark_breaks strong (mark u)) current _ (is_broken ts)

  -- behind ascending instants the last of their marks tells currency, or that before them where they have none
  is_current_behind-last : (initial : Bool) (before : Option PlainMark) (ts : List ℤ) → IsTrue (is_ascending ts)
      → is_current_behind (current_after initial before) ts ≡ current_after initial (last_or before (marks_at mark ts))
  is_current_behind-last initial before [] ascending = is_current_behind-none (current_after initial before)
  is_current_behind-last initial before (u ∷ ts) ascending =
      let current = current_after initial before in
      let rest = is_ascending-tail u ts ascending in
      is_current_behind-first current u ts (is_ascending-head u ts ascending)
      ∙ (elim (is_marked (mark u)) as (λ b. is_marked (mark u) ≡ b
      → is_current_behind (is_current_after strong current (mark u)) ts
      ≡ current_after initial (last_or before (cond b (mark u ∷ marks_at mark ts) (marks_at mark ts)))) [
        | true ↦ λ some. ap (λ b. is_current_behind b ts) (marked-current strong current (mark u) some)
            ∙ is_current_behind-last initial (Some (mark u)) ts rest
        | false ↦ λ empty. ap (λ b. is_current_behind b ts) (not_marked-current strong current (mark u) empty)
            ∙ is_current_behind-last initial before ts rest
      ])
      refl

  -- at the first instant the property is current where it is initial
  current_first : (initial : Bool) (u : ℤ) (ts : List ℤ) → IsTrue (is_ascending (u ∷ ts))
      → is_current_on (marked_timeline initial (u ∷ ts)) u ≡ initial
  current_first initial u ts ascending =
      ap (is_current_behind initial)
      (cond-false (int_lt u u) _ _ (int_lt-same u)
      ∙ filter_none (λ s. int_lt s u) ts (λ s member. int_lt-not_after u s (is_ascending-head u ts ascending s member)))
      ∙ is_current_behind-none initial

  -- at one behind the first it is what it is without the first, from its currency just behind the first
  current_later : (initial : Bool) (u : ℤ) (ts : List ℤ) → IsTrue (is_ascending (u ∷ ts)) → (s : ℤ) → IsMember ts s
      → is_current_on (marked_timeline initial (u ∷ ts)) s ≡ is_current_on (marked_timeline (is_current_after strong initial (mark u)) ts) s
  current_later initial u ts ascending s member =
      ap (is_current_behind initial) (cond-true (int_lt u s) _ _ (is_ascending-head u ts ascending s member))
      ∙ is_current_behind-first initial u (filter (λ v. int_lt v s) ts)
      (λ v kept. is_ascending-head u ts ascending v (IsMember-from_filter (λ v. int_lt v s) ts v kept).0)

  -- so the starts behind the first instant are those without it
  starts_later : (initial : Bool) (u : ℤ) (ts : List ℤ) → IsTrue (is_ascending (u ∷ ts))
      → filter (is_start (marked_timeline initial (u ∷ ts))) ts ≡ filter (is_start (marked_timeline (is_current_after strong initial (mark u)) ts)) ts
  starts_later initial u ts ascending =
      filter_agree (is_start (marked_timeline initial (u ∷ ts))) (is_start (marked_timeline (is_current_after strong initial (mark u)) ts)) ts
      (λ s member. ap (λ current. mark_initiates (mark s) && (mark_breaks strong (mark s) || not current)) (current_later initial u ts ascending s member))

-- ---- starts

-- an instant in front where it is a start
abbrev start_if : Bool → ℤ → List ℤ → List ℤ
start_if true t starts = t ∷ starts
start_if false t starts = starts

-- the starts of a row with a first mark, by those of the marks behind it
pub row_starts-first : (strong initial : Bool) (before : Option PlainMark) (first : PlainMark) (marks : List PlainMark)
    → row_starts strong initial before (first ∷ marks)
    ≡ cond (mark_starts strong initial before first)
    (first.instant ∷ row_starts strong initial (Some first) marks)
    (row_starts strong initial (Some first) marks)
row_starts-first strong initial before first marks =
    elim (mark_starts strong initial before first) as (λ b. start_if b first.instant (row_starts strong initial (Some first) marks)
    ≡ cond b (first.instant ∷ row_starts strong initial (Some first) marks) (row_starts strong initial (Some first) marks))
    [ true ↦ refl | false ↦ refl ]

-- each rank with a mark is among the instants
abbrev pub AreAllMarked : (ℤ → PlainMark) → List ℤ → Type 0
AreAllMarked mark ts = (t : ℤ) → IsTrue (is_marked (mark t)) → IsMember ts t

module _ (mark : ℤ → PlainMark) (strong : Bool) (placed : (t : ℤ) → (mark t).instant ≡ t) where
  -- the marks before an instant are those of the instants before it
  marks_before : (ts : List ℤ) (t : ℤ) → filter (λ m. int_lt m.instant t) (marks_at mark ts) ≡ marks_at mark (filter (λ s. int_lt s t) ts)
  marks_before ts t =
      filter_comm (λ (m : PlainMark). int_lt m.instant t) is_marked (map mark ts)
      ∙ ap (filter is_marked)
      (filter-map (λ (m : PlainMark). int_lt m.instant t) mark ts ∙ ap (λ test. map mark (filter test ts)) (fun_ext (λ s. ap (λ u. int_lt u t) (placed s))))

  -- A property is current at t exactly where the last mark before t initiates it, or there is none and it is initial.
  pub is_current_on-last_mark : (initial : Bool) (ts : List ℤ) → IsTrue (is_ascending ts) → (t : ℤ)
      → is_current_on (marked_timeline mark strong initial ts) t ≡ current_after initial (last_mark_before (marks_at mark ts) t)
  is_current_on-last_mark initial ts ascending t =
      is_current_behind-last mark strong initial None (filter (λ s. int_lt s t) ts) (is_ascending-filter (λ s. int_lt s t) ts ascending)
      ∙ ap (λ marks. current_after initial (last_or None marks)) (sym (marks_before ts t))

  -- the starts among ascending instants are those that their marks spell
  row_starts-marks_at : (initial : Bool) (before : Option PlainMark) (ts : List ℤ) → IsTrue (is_ascending ts)
      → row_starts strong initial before (marks_at mark ts) ≡ filter (is_start (marked_timeline mark strong (current_after initial before) ts)) ts
  row_starts-marks_at initial before [] ascending = refl
  row_starts-marks_at initial before (u ∷ ts) ascending =
      let current = current_after initial before in
      let starts : ℤ → Bool = is_start (marked_timeline mark strong current (u ∷ ts)) in
      let later : (after : Option PlainMark) → is_current_after strong current (mark u) ≡ current_after initial after
      → row_starts strong initial after (marks_at mark ts) ≡ filter starts ts =
      λ after same. row_starts-marks_at initial after ts (is_ascending-tail u ts ascending)
      ∙ sym (starts_later mark strong current u ts ascending ∙ ap (λ b. filter (is_start (marked_timeline mark strong b ts)) ts) same) in
      let here : mark_starts strong initial before (mark u) ≡ starts u =
      sym (ap (λ b. mark_initiates (mark u) && (mark_breaks strong (mark u) || not b)) (current_first mark strong current u ts ascending)) in
      (elim (is_marked (mark u)) as (λ b. is_marked (mark u) ≡ b
      → row_starts strong initial before (cond b (mark u ∷ marks_at mark ts) (marks_at mark ts))
      ≡ cond (starts u) (u ∷ filter starts ts) (filter starts ts)) [
        | true ↦ λ some.
            row_starts-first strong initial before (mark u) (marks_at mark ts)
            ∙ ap₂ (λ b kept. cond b ((mark u).instant ∷ kept) kept) here (later (Some (mark u)) (marked-current strong current (mark u) some))
            ∙ ap (λ t. cond (starts u) (t ∷ filter starts ts) (filter starts ts)) (placed u)
        | false ↦ λ empty.
            later before (not_marked-current strong current (mark u) empty)
            ∙ sym (cond-false (starts u) _ _ (and_left (mark_initiates (mark u)) _ (not_marked-initiates (mark u) empty)))
      ])
      refl

  -- the begins that the marks spell are those of the timeline
  pub row_begins-marks_at : (initial : Bool) (ts : List ℤ) → IsTrue (is_ascending ts)
      → row_begins (marks_at mark ts) strong initial ≡ begins_of (marked_timeline mark strong initial ts)
  row_begins-marks_at initial ts ascending = ap (λ starts. initial_begins initial ++ map begin_at starts) (row_starts-marks_at initial None ts ascending)

  -- ---- the row as a timeline

  -- what a row says of a rank is what the mark there says, if it says nothing of a mark without a count
  row_mark-marks_at : (f : PlainMark → Bool) → ((m : PlainMark) → IsFalse (is_marked m) → IsFalse (f m)) → (ts : List ℤ) → AreAllMarked mark ts
      → (t : ℤ) → option_map_or f (row_mark (marks_at mark ts) t) false ≡ f (mark t)
  row_mark-marks_at f silent ts all t =
      let test : ℤ → Bool = λ u. is_marked (mark u) && int_eq (mark u).instant t in
      ap (λ o. option_map_or f o false)
      (find-filter (λ (m : PlainMark). int_eq m.instant t) is_marked (map mark ts)
      ∙ find-map (λ (m : PlainMark). is_marked m && int_eq m.instant t) mark ts)
      ∙ (elim (find test ts) as (λ o. find test ts ≡ o → option_map_or f (option_map mark o) false ≡ f (mark t)) [
        | None ↦ λ nowhere. sym (⊎_elim
            (λ some. absurd (false≢true (sym (find-None test ts t nowhere (all t some)) ∙ and_from (is_marked (mark t)) (int_eq (mark t).instant t) some
            (subst (λ u. IsTrue (int_eq u t)) (sym (placed t)) (int_eq-same t)))))
            (λ empty. silent (mark t) empty)
            (cases_Bool (is_marked (mark t))))
        | Some u ↦ λ found.
            let passes = (find-Some test ts u found).1 in
            ap (λ v. f (mark v)) (sym (placed u) ∙ int_eq-is (mark u).instant t (and_parts (is_marked (mark u)) (int_eq (mark u).instant t) passes).1)
      ])
      refl

  -- the row initiates at each rank as the timeline does
  pub row_timeline-initiated : (initial : Bool) (ts : List ℤ) → AreAllMarked mark ts → (t : ℤ)
      → (row_timeline (marks_at mark ts) strong initial).initiated t ≡ mark_initiates (mark t)
  unfolding row_timeline
  row_timeline-initiated initial ts = row_mark-marks_at mark_initiates not_marked-initiates ts

  -- it terminates as the timeline does
  pub row_timeline-terminated : (initial : Bool) (ts : List ℤ) → AreAllMarked mark ts → (t : ℤ)
      → (row_timeline (marks_at mark ts) strong initial).terminated t ≡ mark_terminates (mark t)
  unfolding row_timeline
  row_timeline-terminated initial ts = row_mark-marks_at mark_terminates not_marked-terminates ts

  -- and it breaks as the timeline does
  pub row_timeline-breaks : (initial : Bool) (ts : List ℤ) → AreAllMarked mark ts → (t : ℤ)
      → (row_timeline (marks_at mark ts) strong initial).breaks t ≡ mark_breaks strong (mark t)
  unfolding row_timeline
  row_timeline-breaks initial ts = row_mark-marks_at (mark_breaks strong) (not_marked-breaks strong) ts

  -- the instants of the row are those with a mark
  row_timeline-instants : (initial : Bool) (ts : List ℤ)
      → (row_timeline (marks_at mark ts) strong initial).instants ≡ filter (λ t. is_marked (mark t)) ts
  unfolding row_timeline
  row_timeline-instants initial [] = refl
  row_timeline-instants initial (t ∷ ts) =
      let rest = row_timeline-instants initial ts in let here = placed t in grind arith

  -- a break of the row is one that has a mark
  breaks_marked : (begin : Begin) (t : ℤ)
      → (is_marked (mark t) && (is_after begin t && mark_breaks strong (mark t))) ≡ (is_after begin t && mark_breaks strong (mark t))
  breaks_marked begin t = let marked = marked-from_breaks strong (mark t) in grind arith

  -- the next break of the row is that of the timeline
  pub row_timeline-next_break : (initial : Bool) (ts : List ℤ) → AreAllMarked mark ts → (begin : Begin)
      → next_break (row_timeline (marks_at mark ts) strong initial) begin ≡ next_break (marked_timeline mark strong initial ts) begin
  row_timeline-next_break initial ts all begin =
      let row = row_timeline (marks_at mark ts) strong initial in
      let both : ℤ → Bool = λ t. is_after begin t && mark_breaks strong (mark t) in
      find_agree row.breaks (λ t. mark_breaks strong (mark t)) (row_timeline-breaks initial ts all) (filter (is_after begin) row.instants)
      ∙ find-filter (λ t. mark_breaks strong (mark t)) (is_after begin) row.instants
      ∙ ap (find both) (row_timeline-instants initial ts)
      ∙ find-filter both (λ t. is_marked (mark t)) ts
      ∙ find_agree (λ t. is_marked (mark t) && both t) both (breaks_marked begin) ts
      ∙ sym (find-filter (λ t. mark_breaks strong (mark t)) (is_after begin) ts)

  -- so the interval from a begin is that of the timeline
  interval_from-same : (initial : Bool) (ts : List ℤ) → AreAllMarked mark ts → (begin : Begin) (next : Option ℤ)
      → interval_from (row_timeline (marks_at mark ts) strong initial) begin next ≡ interval_from (marked_timeline mark strong initial ts) begin next
  interval_from-same initial ts all begin None = refl
  interval_from-same initial ts all begin (Some x) =
      ap (λ b. cond b (Some (record { from = begin; until = Some x })) None) (row_timeline-terminated initial ts all x)

  -- and so is what is broken
  broken_from-same : (initial : Bool) (ts : List ℤ) → AreAllMarked mark ts → (begin : Begin) (next : Option ℤ)
      → broken_from (row_timeline (marks_at mark ts) strong initial) begin next ≡ broken_from (marked_timeline mark strong initial ts) begin next
  broken_from-same initial ts all begin None = refl
  broken_from-same initial ts all begin (Some x) =
      ap (λ b. cond b None (Some (begin, x))) (row_timeline-terminated initial ts all x)

  -- The intervals that the marks spell are those of the timeline.
  pub spans_of-marks_at : (initial : Bool) (ts : List ℤ) → IsTrue (is_ascending ts) → AreAllMarked mark ts
      → spans_of (marks_at mark ts) strong initial ≡ intervals_on (marked_timeline mark strong initial ts)
  spans_of-marks_at initial ts ascending all =
      let row = row_timeline (marks_at mark ts) strong initial in
      let line = marked_timeline mark strong initial ts in
      ap₂ (λ begins interval. filter_map interval begins) (row_begins-marks_at initial ts ascending)
      (fun_ext {f = λ begin. interval_from row begin (next_break row begin)} {g = λ begin. interval_from line begin (next_break line begin)}
      (λ begin. interval_from-same initial ts all begin (next_break row begin)
      ∙ ap (interval_from line begin) (row_timeline-next_break initial ts all begin)))

  -- And so are the broken begins.
  pub broken_spans_of-marks_at : (initial : Bool) (ts : List ℤ) → IsTrue (is_ascending ts) → AreAllMarked mark ts
      → broken_spans_of (marks_at mark ts) strong initial ≡ broken_on (marked_timeline mark strong initial ts)
  broken_spans_of-marks_at initial ts ascending all =
      let row = row_timeline (marks_at mark ts) strong initial in
      let line = marked_timeline mark strong initial ts in
      ap₂ (λ begins broken. filter_map broken begins) (row_begins-marks_at initial ts ascending)
      (fun_ext {f = λ begin. broken_from row begin (next_break row begin)} {g = λ begin. broken_from line begin (next_break line begin)}
      (λ begin. broken_from-same initial ts all begin (next_break row begin)
      ∙ ap (broken_from line begin) (row_timeline-next_break initial ts all begin)))
