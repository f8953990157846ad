-- Changes that leave the intervals: the timelines of both lists agree wherever the property is current or initiated.
use Rattle.std.proofs.Common.{◌≡◌, ◌⊎◌, ℤ, pos, ◌+ℤ◌, Bool, true, false, List, [], ◌∷◌, IsTrue, refl, sym, ap, ap₂, ◌∙◌, inl, inr, ⊎_elim, arith, ◌||◌}
use Rattle.std.specs.Prelude.{int_lt, int_le}
use Rattle.std.specs.List.{list_all}
use Rattle.std.proofs.lemmas.Bool.{or_left, or_right, cases_Bool, and_parts, and_from, false≢true}
use Rattle.std.proofs.lemmas.Bool.Decides.{nat_tests}
use Rattle.std.proofs.lemmas.Int.{ints}
use Rattle.ec_lists.proofs.Integers.{int_le-same, each_of_stretch}
use Rattle.ec_terms.specs.declared.ground.Ground.{Ground}
use Rattle.ec_terms.specs.declared.theory.Theory.{Theory}
use Rattle.ec_terms.specs.Domain.{is_initial, is_strong}
use Rattle.ec_axioms.specs.Timeline.{Timeline, is_current_on, intervals_on, broken_on}
use Rattle.ec_axioms.specs.Calculus.{PlainEvent, instants_of, is_current, timeline_of, intervals_of, broken_of}
use Rattle.ec_axioms.specs.Marks.{PlainMark, mark_at, is_marked, mark_initiates, mark_terminates, mark_breaks}
use Rattle.ec_axioms.specs.Changes.{is_history}
use Rattle.ec_axioms.proofs.Rounds.{is_current-equation}
use Rattle.ec_axioms.proofs.Members.{filter_none, list_all-member}
use Rattle.ec_axioms.proofs.Instants.{is_ascending-instants_of}
use Rattle.ec_axioms.proofs.HistoryMarks.{timeline_of-marks, AreAllMarked-mark_at}
use Rattle.ec_axioms.proofs.MarkLaws.{marked_timeline}
use Rattle.ec_axioms.proofs.LastInstant.{is_current-first}
use Rattle.ec_changes.specs.QuietLaws.{current_behind}
use Rattle.ec_changes.specs.IntervalLaws.{IsInert, InertChangesKeepIntervals}
use Rattle.ec_changes.proofs.Quiet.{CurrencyBehindMarks-law}
use Rattle.ec_changes.proofs.TwoTimelines.{AgreeInLife, AgreeBothWays, intervals_on-same, broken_on-same}

-- ---- before all events

-- some rank up to t has no event of the list before it
pub rank_before : (events : List PlainEvent) (t : ℤ) → (a : ℤ) × IsTrue (int_le a t) × IsTrue (list_all (λ e. int_le a e.rank) events)
rank_before [] t = (t, int_le-same t, refl)
rank_before (e ∷ events) t =
    let later = rank_before events t in
    ⊎_elim
    (λ within. (later.0, later.1, and_from _ _ within later.2))
    (λ beyond. (e.rank, lower later.0 beyond later.1, and_from _ _ (int_le-same e.rank) (lower_all events later.0 beyond later.2)))
    (cases_Bool (int_le later.0 e.rank))
  where
    lower : (a : ℤ) → int_le a e.rank ≡ false → int_le a t ≡ true → int_le e.rank t ≡ true
    lower a beyond within = grind (arith, ints)

    lower_all : (fs : List PlainEvent) (a : ℤ) → int_le a e.rank ≡ false → list_all (λ f. int_le a f.rank) fs ≡ true → list_all (λ f. int_le e.rank f.rank) fs ≡ true
    lower_all [] a beyond all = refl
    lower_all (f ∷ fs) a beyond all =
        let parts = and_parts _ _ all in and_from _ _ (lower_one f a beyond parts.0) (lower_all fs a beyond parts.1)
      where
        lower_one : (f : PlainEvent) (a : ℤ) → int_le a e.rank ≡ false → int_le a f.rank ≡ true → int_le e.rank f.rank ≡ true
        lower_one f a beyond within = grind (arith, ints)

-- there a property is current where it is initial
pub is_current-before_all : (theory : Theory) (events : List PlainEvent) (p : Ground) (a : ℤ) → IsTrue (list_all (λ e. int_le a e.rank) events)
    → is_current theory events p a ≡ is_initial theory p
is_current-before_all theory events p a all =
    is_current-first theory events p a
    (filter_none (λ (e : PlainEvent). int_lt e.rank a) events
    (λ e member. reached e.rank (list_all-member (λ (f : PlainEvent). int_le a f.rank) events e all member)))
  where
    reached : (s : ℤ) → int_le a s ≡ true → int_lt s a ≡ false
    reached s from = grind (arith, ints)

-- ---- timelines by marks

-- a mark that initiates or breaks has a count
marked-happens : (strong : Bool) (mark : PlainMark) → IsTrue (mark_initiates mark || mark_breaks strong mark) → IsTrue (is_marked mark)
marked-happens strong mark happens = grind (arith, nat_tests)

-- a mark that does not initiate leaves a property that is not current as it is
current_behind-none : (mark : PlainMark) → mark.inits ≡ 0 → current_behind false mark ≡ false
current_behind-none mark none = grind (arith, nat_tests)

-- a mark with no initiation does not initiate
not_initiates : (mark : PlainMark) → mark.inits ≡ 0 → mark_initiates mark ≡ false
not_initiates mark none = grind (arith, nat_tests)

module _ (theory : Theory) (old new : List PlainEvent) (p : Ground) (history_old : IsTrue (is_history old)) (history_new : IsTrue (is_history new))
    (inert : (t : ℤ) → (mark_at theory old p t ≡ mark_at theory new p t) ⊎ IsInert theory old new p t) where
  -- currency goes on the same
  current-next : (t : ℤ) → is_current theory old p t ≡ is_current theory new p t → is_current theory old p (t +ℤ pos 1) ≡ is_current theory new p (t +ℤ pos 1)
  current-next t now =
      CurrencyBehindMarks-law theory old p t
      ∙ ⊎_elim (λ same. ap₂ current_behind now same)
      (λ here.
      ap (λ current. current_behind current (mark_at theory old p t)) here.not_in_old ∙ current_behind-none (mark_at theory old p t) here.no_inits_in_old
      ∙ sym (ap (λ current. current_behind current (mark_at theory new p t)) here.not_in_new ∙ current_behind-none (mark_at theory new p t) here.no_inits_in_new))
      (inert t)
      ∙ sym (CurrencyBehindMarks-law theory new p t)

  -- so it is the same everywhere
  current-same : (t : ℤ) → is_current theory old p t ≡ is_current theory new p t
  current-same t =
      let first = rank_before old t in
      let both = rank_before new first.0 in
      let start : is_current theory old p both.0 ≡ is_current theory new p both.0 =
      is_current-before_all theory old p both.0 (lowered old first.0 both.0 both.1 first.2) ∙ sym (is_current-before_all theory new p both.0 both.2) in
      each_of_stretch (λ s. is_current theory old p s ≡ is_current theory new p s) both.0 t start (λ s from to now. current-next s now) t
      (chain both.0 first.0 both.1 first.1) (int_le-same t)
    where
      chain : (a b : ℤ) → int_le a b ≡ true → int_le b t ≡ true → int_le a t ≡ true
      chain a b one two = grind (arith, ints)

      lowered_one : (a b s : ℤ) → int_le b a ≡ true → int_le a s ≡ true → int_le b s ≡ true
      lowered_one a b s one two = grind (arith, ints)

      lowered : (events : List PlainEvent) (a b : ℤ) → int_le b a ≡ true → list_all (λ e. int_le a e.rank) events ≡ true → list_all (λ e. int_le b e.rank) events ≡ true
      lowered [] a b below all = refl
      lowered (e ∷ events) a b below all =
          let parts = and_parts _ _ all in and_from _ _ (lowered_one a b e.rank below parts.0) (lowered events a b below parts.1)

-- a timeline by its marks
abbrev line_of : Theory → List PlainEvent → Ground → Timeline
line_of theory events p = marked_timeline (mark_at theory events p) (is_strong theory p) (is_initial theory p) (instants_of events)

-- currency on it is currency
line-current : (theory : Theory) (events : List PlainEvent) (p : Ground) (t : ℤ) → is_current theory events p t ≡ is_current_on (line_of theory events p) t
unfolding timeline_of
line-current theory events p t = is_current-equation theory events p t ∙ ap (λ line. is_current_on line t) (timeline_of-marks theory events p)

-- the timelines agree in life
lines-agree : (theory : Theory) (old new : List PlainEvent) (p : Ground) → IsTrue (is_history old)
    → ((t : ℤ) → is_current theory old p t ≡ is_current theory new p t)
    → ((t : ℤ) → (mark_at theory old p t ≡ mark_at theory new p t) ⊎ IsInert theory old new p t)
    → AgreeInLife (line_of theory old p) (line_of theory new p)
lines-agree theory old new p history same inert = record {
  ascending = is_ascending-instants_of old history;
  initial = refl;
  current = λ t. sym (line-current theory old p t) ∙ same t ∙ line-current theory new p t;
  initiated = λ t. ⊎_elim (λ marks. ap mark_initiates marks)
      (λ here. not_initiates (mark_at theory old p t) here.no_inits_in_old ∙ sym (not_initiates (mark_at theory new p t) here.no_inits_in_new)) (inert t);
  breaks = λ t alive. ⊎_elim (λ marks. ap (mark_breaks (is_strong theory p)) marks)
      (λ here. absurd (⊎_elim
      (λ current. false≢true (sym here.not_in_old ∙ line-current theory old p t ∙ current))
      (λ initiated. false≢true (sym (not_initiates (mark_at theory old p t) here.no_inits_in_old) ∙ initiated)) alive)) (inert t);
  terminated = λ t current. ⊎_elim (λ marks. ap mark_terminates marks)
      (λ here. absurd (false≢true (sym here.not_in_old ∙ line-current theory old p t ∙ current))) (inert t);
  has_initiated = λ t initiated. AreAllMarked-mark_at theory old p t (marked-happens (is_strong theory p) (mark_at theory old p t) (or_left _ _ initiated));
  has_broken = λ t broken. AreAllMarked-mark_at theory old p t (marked-happens (is_strong theory p) (mark_at theory old p t) (or_right _ _ broken));
}

-- the law
pub InertChangesKeepIntervals-law : InertChangesKeepIntervals
unfolding intervals_of broken_of
InertChangesKeepIntervals-law theory old new p history_old history_new inert =
    let same = current-same theory old new p history_old history_new inert in
    let agree : AgreeBothWays (line_of theory old p) (line_of theory new p) = record {
      into = lines-agree theory old new p history_old same inert;
      back = lines-agree theory new old p history_new (λ t. sym (same t))
          (λ t. ⊎_elim (λ marks. inl (sym marks))
          (λ here. inr (record { not_in_old = here.not_in_new; not_in_new = here.not_in_old; no_inits_in_old = here.no_inits_in_new; no_inits_in_new = here.no_inits_in_old })) (inert t));
    } in
    record {
      currency = same;
      intervals = ap intervals_on (timeline_of-marks theory old p) ∙ intervals_on-same (line_of theory old p) (line_of theory new p) agree ∙ sym (ap intervals_on (timeline_of-marks theory new p));
      broken = ap broken_on (timeline_of-marks theory old p) ∙ broken_on-same (line_of theory old p) (line_of theory new p) agree ∙ sym (ap broken_on (timeline_of-marks theory new p));
    }
