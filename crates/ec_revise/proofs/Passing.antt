-- A sweep passes over instants at which no event stands in one list alone and nothing is due.
use Rattle.std.proofs.Common.{◌≡◌, ℕ, zero, suc, ◌<◌, ℤ, pos, negsuc, ◌+ℤ◌, ◌-ℤ◌, ◌≤ℤ◌, ◌<ℤ◌, Bool, List, flat_map, IsTrue, IsFalse, refl, sym, ap, ap₂, subst, ◌∙◌, inl, ⊎_elim, arith}
use Rattle.std.specs.Prelude.{Contains}
use Rattle.std.proofs.lemmas.Bool.{cases_Bool, cond-false, or_parts, false≢true, false_from_ne_true}
use Rattle.std.proofs.lemmas.Int.{by_lt_z, ints}
use Rattle.ec_terms.specs.declared.ground.Ground.{Ground}
use Rattle.ec_terms.specs.declared.theory.Theory.{Theory}
use Rattle.ec_axioms.specs.Plain.{events_at}
use Rattle.ec_axioms.specs.Calculus.{PlainEvent, Effect, effects_of, is_active, is_current}
use Rattle.ec_axioms.specs.Marks.{PlainMark, mark_at, is_marked}
use Rattle.ec_changes.specs.Differences.{differs, entries_at, IsQuietStretch}
use Rattle.ec_changes.specs.CountLaws.{CountsNothingBetween}
use Rattle.ec_changes.specs.Turns.{kept_count}
use Rattle.ec_changes.proofs.Activity.{differs-not}
use Rattle.ec_changes.proofs.KeptCounts.{QuietCountsNothing-law}
use Rattle.ec_changes.proofs.Past.{EventsStay-law}
use Rattle.ec_changes.proofs.Quiet.{CurrencyBehindMarks-law, QuietEntriesStay-law, QuietStretchesPassOn-law, add_none, add_step}
use Rattle.ec_revise.specs.Sweep.{AreCompared, Found, Swept, bears_on, other_currency}
use Rattle.ec_revise.specs.SweepLaws.{HasNoVisit, SweepPasses}
use Rattle.ec_revise.proofs.OtherCurrency.{is_dirty-differs, other_currency-same}

-- ---- whole numbers

-- from one whole number to a later one there are so many steps
steps_between : (r s d : ℤ) → d ≡ s -ℤ r → r ≤ℤ s → (n : ℕ) × (s ≡ r +ℤ pos n)
steps_between r s (pos n) is within = (n, omega (arith, ints))
steps_between r s (negsuc n) is within = absurd (omega (arith, ints))

-- an instant of a stretch is so many steps from its first
step_of : (r t : ℤ) (n : ℕ) → r <ℤ t → t ≤ℤ (r +ℤ pos n) → (k : ℕ) × (k < n) × (t ≡ (r +ℤ pos 1) +ℤ pos k)
step_of r t n after within =
    let found = steps_between (r +ℤ pos 1) t (t -ℤ (r +ℤ pos 1)) refl (omega (arith, ints)) in
    let is : t ≡ (r +ℤ pos 1) +ℤ pos found.0 = found.1 in
    (found.0, omega (arith, ints), is)

-- ---- currency over a stretch without marks

-- a property without marks keeps its currency
pub is_current-unmarked : (theory : Theory) (events : List PlainEvent) (p : Ground) (r : ℤ) (n : ℕ)
    → ((k : ℕ) → k < n → IsFalse (is_marked (mark_at theory events p (r +ℤ pos k))))
    → is_current theory events p (r +ℤ pos n) ≡ is_current theory events p r
is_current-unmarked theory events p r zero none = ap (is_current theory events p) (add_none r)
is_current-unmarked theory events p r (suc n) none =
    ap (is_current theory events p) (sym (add_step r n))
    ∙ CurrencyBehindMarks-law theory events p (r +ℤ pos n)
    ∙ cond-false (is_marked (mark_at theory events p (r +ℤ pos n))) _ _ (none n (omega arith))
    ∙ is_current-unmarked theory events p r n (λ k below. none k (omega arith))

-- ---- a stretch without a visit

module _ (theory : Theory) (old new : List PlainEvent) (kept : Ground → Bool) (r : ℤ) (n : ℕ) (found : Found) (compared : AreCompared theory old new kept)
    (swept : Swept theory old new kept r found) (free : HasNoVisit old new found r (r +ℤ pos n)) where
  -- nothing bears on what differs
  not_bearing : (p : Ground) (t : ℤ) → IsTrue (differs theory old new p (r +ℤ pos 1)) → r <ℤ t → t ≤ℤ (r +ℤ pos n) → IsFalse (bears_on theory old p t)
  not_bearing p t differ after within =
      false_from_ne_true (bears_on theory old p t)
      (λ bears.
      let due = swept.due p t (is_dirty-differs theory old new kept r found swept p ∙ differ) after bears in
      let behind = due.after in
      let by = due.by in
      absurd (false≢true (sym (free.not_due p due.time behind (omega (arith, ints))) ∙ due.due)))

  -- the events are the same
  same_events : (t : ℤ) → r <ℤ t → t ≤ℤ (r +ℤ pos n) → events_at t old ≡ events_at t new
  same_events t after within = EventsStay-law old new t compared.old_history compared.new_history (free.same_events t after within)

  -- so the stretch is quiet
  quiet : IsQuietStretch theory old new (r +ℤ pos 1) n
  quiet k below =
      let after : r <ℤ ((r +ℤ pos 1) +ℤ pos k) = omega (arith, ints) in
      let within : ((r +ℤ pos 1) +ℤ pos k) ≤ℤ (r +ℤ pos n) = omega (arith, ints) in record {
        same_events = same_events ((r +ℤ pos 1) +ℤ pos k) after within;
        unread = λ p differ. (or_parts _ _ (not_bearing p ((r +ℤ pos 1) +ℤ pos k) differ after within)).1;
        unmarked = λ p differ. (or_parts _ _ (not_bearing p ((r +ℤ pos 1) +ℤ pos k) differ after within)).0;
      }

  -- the marks are the same
  same_mark : (p : Ground) (t : ℤ) → r <ℤ t → t ≤ℤ (r +ℤ pos n) → mark_at theory new p t ≡ mark_at theory old p t
  same_mark p t after within =
      let step = step_of r t n after within in
      subst (λ u. mark_at theory new p u ≡ mark_at theory old p u) (sym step.2)
      ((QuietStretchesPassOn-law theory old new (r +ℤ pos 1) n p quiet).0 step.0 step.1)

  -- what is dirty stays so, with its currency
  same_dirty : (p : Ground) → other_currency (is_current theory old p ((r +ℤ pos 1) +ℤ pos n)) (is_current theory new p ((r +ℤ pos 1) +ℤ pos n))
      ≡ other_currency (is_current theory old p (r +ℤ pos 1)) (is_current theory new p (r +ℤ pos 1))
  same_dirty p =
      ⊎_elim
      (λ differ.
      let unmarked : (k : ℕ) → k < n → IsFalse (is_marked (mark_at theory old p ((r +ℤ pos 1) +ℤ pos k))) = λ k below. (quiet k below).unmarked p differ in
      ap₂ other_currency
      (is_current-unmarked theory old p (r +ℤ pos 1) n unmarked)
      (is_current-unmarked theory new p (r +ℤ pos 1) n
      (λ k below. subst (λ (mark : PlainMark). IsFalse (is_marked mark)) (sym ((QuietStretchesPassOn-law theory old new (r +ℤ pos 1) n p quiet).0 k below)) (unmarked k below))))
      (λ same.
      other_currency-same _ _ (differs-not theory old new p ((r +ℤ pos 1) +ℤ pos n) ((QuietStretchesPassOn-law theory old new (r +ℤ pos 1) n p quiet).1 ∙ same))
      ∙ sym (other_currency-same _ _ (differs-not theory old new p (r +ℤ pos 1) same)))
      (cases_Bool (differs theory old new p (r +ℤ pos 1)))

  -- entries are active alike
  same_active : (effect : Effect) (t : ℤ) → r <ℤ t → t ≤ℤ (r +ℤ pos n) → Contains (entries_at theory old t) effect
      → is_active (is_current theory old) effect ≡ is_active (is_current theory new) effect
  same_active effect t after within contained =
      let step = step_of r t n after within in
      QuietEntriesStay-law theory old new (r +ℤ pos 1) n step.0 effect quiet step.1 (subst (λ u. Contains (entries_at theory old u) effect) step.2 contained)

  -- what is due is due behind it
  due_behind : (p : Ground) (t : ℤ) → r <ℤ t → IsTrue (found.agenda t p) → (r +ℤ pos n) <ℤ t
  due_behind p t after due =
      by_lt_z (r +ℤ pos n) t (λ behind. behind) (λ within. absurd (false≢true (sym (free.not_due p t after within) ∙ due)))

  next : (r +ℤ pos n) +ℤ pos 1 ≡ (r +ℤ pos 1) +ℤ pos n
  next = omega (arith, ints)

  pub swept_stretch : Swept theory old new kept (r +ℤ pos n) found
  swept_stretch = record {
    dirty = λ p. swept.dirty p ∙ sym (same_dirty p)
        ∙ sym (ap (λ t. other_currency (is_current theory old p t) (is_current theory new p t)) next);
    marks = λ p t keeps within.
        by_lt_z r t (λ after. rw (swept.none_planned p t after) (sym (same_mark p t after within))) (λ early. swept.marks p t keeps early);
    none_planned = λ p t after. swept.none_planned p t (omega (arith, ints));
    active = λ effect t within contained.
        by_lt_z r t
        (λ after.
        let there = subst (λ entries. Contains entries effect) (sym (ap (flat_map (effects_of theory)) (same_events t after within))) contained in
        swept.not_yet effect t after there ∙ same_active effect t after within there)
        (λ early. swept.active effect t early contained);
    not_yet = λ effect t after contained. swept.not_yet effect t (omega (arith, ints)) contained;
    inert = λ p t keeps within unmattered.
        by_lt_z r t (λ after. inl (sym (same_mark p t after within))) (λ early. swept.inert p t keeps early unmattered);
    seen = swept.seen ∙ sym counted.seen ∙ sym (ap (kept_count theory old new _) next);
    on = swept.on ∙ sym counted.on ∙ sym (ap (kept_count theory old new _) next);
    off = swept.off ∙ sym counted.off ∙ sym (ap (kept_count theory old new _) next);
    due = λ p u dirty after bears.
        let due = swept.due p u dirty (omega (arith, ints)) bears in
        record { time = due.time; after = due_behind p due.time due.after due.due; by = due.by; due = due.due };
    ahead = λ p t due. due_behind p t (swept.ahead p t due) due;
  }
    where
      counted : CountsNothingBetween theory old new (r +ℤ pos 1) ((r +ℤ pos 1) +ℤ pos n)
      counted = QuietCountsNothing-law theory old new (r +ℤ pos 1) n quiet

-- the law
pub SweepPasses-law : SweepPasses
SweepPasses-law theory old new kept r s found compared swept within free =
    let steps = steps_between r s (s -ℤ r) refl within in
    subst (λ t. Swept theory old new kept t found) (sym steps.1)
    (swept_stretch theory old new kept r steps.0 found compared swept (subst (λ t. HasNoVisit old new found r t) steps.1 free))
