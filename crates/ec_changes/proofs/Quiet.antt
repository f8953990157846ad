-- Currency from one whole number to the next, and what passes over quiet ones.
use Rattle.std.proofs.Common.{◌≡◌, ℕ, zero, suc, ℤ, pos, ◌+ℤ◌, Bool, true, false, not, ◌&&◌, ◌||◌, List, [], ◌∷◌, length, nat_lt, IsTrue, IsFalse, refl, sym, ap, ap₂, subst, ◌∙◌, ⊎_elim, arith}
use Rattle.std.specs.Prelude.{int_lt, int_le}
use Rattle.std.specs.Bool.{beq}
use Rattle.std.specs.List.{list_any, list_all}
use Rattle.std.specs.Ordering.{int_eq}
use Rattle.std.proofs.lemmas.Bool.{cond-false, cases_Bool, false≢true}
use Rattle.std.proofs.lemmas.Bool.Decides.{nat_tests}
use Rattle.std.proofs.lemmas.Int.{ints}
use Rattle.ec_lists.proofs.Integers.{int_lt-next}
use Rattle.ec_lists.proofs.Booleans.{not-beq_same}
use Rattle.ec_terms.specs.declared.ground.Ground.{Ground}
use Rattle.ec_terms.specs.declared.theory.Theory.{Theory}
use Rattle.ec_terms.specs.Domain.{GroundEntry, is_initial, is_strong}
use Rattle.ec_axioms.specs.Calculus.{PlainEvent, Effect, Currency, effects_at, is_active, has_effect, is_initiated, has_break, is_current, is_initiating, is_terminating, is_clashing}
use Rattle.ec_axioms.specs.Marks.{PlainMark, mark_at, is_marked, mark_initiates, mark_breaks}
use Rattle.ec_axioms.proofs.Effects.{any_before, any_before-same, breaks_between, current_by, is_current_on-by, effects_at-events, effects_at-none}
use Rattle.ec_axioms.proofs.Rounds.{is_current-equation}
use Rattle.ec_axioms.proofs.LastInstant.{is_current-last}
use Rattle.ec_axioms.proofs.Members.{IsMember-from_contains, IsMember, filter_none, list_any-false}
use Rattle.ec_changes.specs.Differences.{differs, entries_at, reads, IsQuiet, IsQuietStretch}
use Rattle.ec_changes.specs.QuietLaws.{QuietEntriesStay, current_behind, CurrencyBehindMarks, CurrencyGoesOn, QuietInstantsPassOn, QuietStretchesPassOn}
use Rattle.ec_changes.proofs.Activity.{differs-not, rank-entries_at, is_active-unread, effects_at-agree}

-- ---- the next whole number

-- where no event is at t, a test of the events before the next whole number is that of the events before t
any_before-next : (test : ℤ → Bool) (events : List PlainEvent) (t : ℤ) → IsFalse (list_any (λ e. int_eq e.rank t) events)
    → any_before test events (t +ℤ pos 1) ≡ any_before test events t
any_before-next test [] t none = refl
any_before-next test (e ∷ events) t none =
    let ih = any_before-next test events t in
    let order : int_eq e.rank t ≡ false → int_lt e.rank (t +ℤ pos 1) ≡ int_lt e.rank t = λ apart. grind (arith, ints) in grind arith

-- and so is what is current
current_by-next : (i b : ℤ → Bool) (initial : Bool) (events : List PlainEvent) (t : ℤ) → IsFalse (list_any (λ e. int_eq e.rank t) events)
    → current_by i b initial events (t +ℤ pos 1) ≡ current_by i b initial events t
current_by-next i b initial events t none =
    let between : (s : ℤ) → breaks_between b events (t +ℤ pos 1) s ≡ breaks_between b events t s =
    λ s. any_before-next (λ u. int_lt s u && b u) events t none in
    ap₂ (λ x y. x || (initial && not y))
    (any_before-same _ _ events (t +ℤ pos 1) (λ s before. ap (λ y. i s && not y) (between s))
    ∙ any_before-next (λ s. i s && not (breaks_between b events t s)) events t none)
    (any_before-next b events t none)

-- where no event is at t, currency stays
is_current-next_none : (theory : Theory) (events : List PlainEvent) (p : Ground) (t : ℤ) → IsFalse (list_any (λ e. int_eq e.rank t) events)
    → is_current theory events p (t +ℤ pos 1) ≡ is_current theory events p t
is_current-next_none theory events p t none =
    let by : (u : ℤ) → is_current theory events p u
    ≡ current_by (is_initiated theory events (is_current theory events) p) (has_break theory events (is_current theory events) p) (is_initial theory p) events u =
    λ u. is_current-equation theory events p u ∙ is_current_on-by theory events (is_current theory events) p u in
    by (t +ℤ pos 1) ∙ current_by-next _ _ (is_initial theory p) events t none ∙ sym (by t)

-- and nothing is initiated or broken
has_effect-none : (theory : Theory) (events : List PlainEvent) (c : Currency) (wanted : GroundEntry → Bool) (t : ℤ)
    → IsFalse (list_any (λ e. int_eq e.rank t) events) → IsFalse (has_effect theory events c wanted t)
unfolding has_effect
has_effect-none theory events c wanted t none =
    ap (λ effects. nat_lt 0 (length effects))
    (effects_at-none theory events c wanted t
    (filter_none (λ (e : PlainEvent). int_eq e.rank t) events (λ e member. list_any-false (λ (f : PlainEvent). int_eq f.rank t) events e none member)))

has_break-none : (theory : Theory) (events : List PlainEvent) (c : Currency) (p : Ground) (t : ℤ)
    → IsFalse (list_any (λ e. int_eq e.rank t) events) → IsFalse (has_break theory events c p t)
unfolding has_break
has_break-none theory events c p t none =
    let initiated = has_effect-none theory events c (is_initiating p) t none in
    let terminated = has_effect-none theory events c (is_terminating p) t none in
    let clashed = has_effect-none theory events c (is_clashing theory p) t none in grind arith

-- each event is not after t, or not before the next whole number
all_sides : (events : List PlainEvent) (t : ℤ) → IsTrue (list_all (λ e. int_le e.rank t || int_le (t +ℤ pos 1) e.rank) events)
all_sides [] t = refl
all_sides (e ∷ events) t =
    let rest = all_sides events t in
    let here : (int_le e.rank t || int_le (t +ℤ pos 1) e.rank) ≡ true = grind (arith, ints) in grind arith

-- the law
pub CurrencyGoesOn-law : CurrencyGoesOn
CurrencyGoesOn-law theory events p t =
    ⊎_elim
    (λ there. is_current-last theory events p (t +ℤ pos 1) t (record { before = int_lt-next t; instant = there; last = all_sides events t }))
    (λ none.
    let c : Currency = is_current theory events in
    let initiated = has_effect-none theory events c (is_initiating p) t none in
    let broken = has_break-none theory events c p t none in
    let stays = is_current-next_none theory events p t none in
    stays ∙ unchanged (c p t) _ _ initiated broken)
    (cases_Bool (list_any (λ e. int_eq e.rank t) events))
  where
    unchanged : (current initiated broken : Bool) → IsFalse initiated → IsFalse broken → current ≡ (initiated || (current && not broken))
    unchanged current initiated broken a b = grind arith

-- what is initiated, current and broken, by a mark
current_behind-mark : (strong current : Bool) (mark : PlainMark)
    → (mark_initiates mark || (current && not (mark_breaks strong mark))) ≡ current_behind current mark
current_behind-mark strong current mark = grind (arith, nat_tests)

-- the law
pub CurrencyBehindMarks-law : CurrencyBehindMarks
unfolding mark_at has_break has_effect
CurrencyBehindMarks-law theory events p t =
    CurrencyGoesOn-law theory events p t ∙ current_behind-mark (is_strong theory p) (is_current theory events p t) (mark_at theory events p t)

-- ---- quiet instants

-- a property without a mark keeps its currency
not_marked-current : (theory : Theory) (events : List PlainEvent) (p : Ground) (t : ℤ) → IsFalse (is_marked (mark_at theory events p t))
    → is_current theory events p (t +ℤ pos 1) ≡ is_current theory events p t
not_marked-current theory events p t none =
    CurrencyBehindMarks-law theory events p t ∙ cond-false (is_marked (mark_at theory events p t)) _ _ none

-- effects that are the same give the same mark
pub mark_at-same : (theory : Theory) (old new : List PlainEvent) (p : Ground) (t : ℤ)
    → ((wanted : GroundEntry → Bool) → effects_at theory old (is_current theory old) wanted t ≡ effects_at theory new (is_current theory new) wanted t)
    → mark_at theory new p t ≡ mark_at theory old p t
unfolding mark_at
mark_at-same theory old new p t same =
    let inits = ap length (same (is_initiating p)) in
    let terms = ap length (same (is_terminating p)) in
    let clashes = ap length (same (is_clashing theory p)) in cc

module _ (theory : Theory) (old new : List PlainEvent) (t : ℤ) (quiet : IsQuiet theory old new (λ p. differs theory old new p t) t) where
  -- an entry at a quiet instant is active in both lists, or in neither
  pub quiet-active : (effect : Effect) → IsMember (entries_at theory old t) effect
      → is_active (is_current theory old) effect ≡ is_active (is_current theory new) effect
  quiet-active effect member =
      is_active-unread (is_current theory old) (is_current theory new) effect
      (λ p read.
      let rank = rank-entries_at theory old t effect member in
      subst (λ s. is_current theory old p s ≡ is_current theory new p s) (sym rank)
      (⊎_elim
      (λ differ. absurd (false≢true (sym (list_any-false (reads p) (entries_at theory old t) effect (quiet.unread p differ) member) ∙ read)))
      (λ same. differs-not theory old new p t same)
      (cases_Bool (differs theory old new p t))))

  -- so what takes effect there is the same
  quiet-effects : (wanted : GroundEntry → Bool) → effects_at theory old (is_current theory old) wanted t ≡ effects_at theory new (is_current theory new) wanted t
  quiet-effects wanted =
      effects_at-agree theory old (is_current theory old) (is_current theory new) wanted t quiet-active
      ∙ effects_at-events theory old new (is_current theory new) wanted t quiet.same_events

  -- marks are the same
  pub quiet-mark : (p : Ground) → mark_at theory new p t ≡ mark_at theory old p t
  quiet-mark p = mark_at-same theory old new p t quiet-effects

  -- what differs goes on differing, and what does not does not begin to
  pub quiet-differs : (p : Ground) → differs theory old new p (t +ℤ pos 1) ≡ differs theory old new p t
  unfolding differs
  quiet-differs p =
      ⊎_elim
      (λ differ.
      let none = quiet.unmarked p differ in
      ap₂ (λ x y. not (beq x y))
      (not_marked-current theory old p t none)
      (not_marked-current theory new p t (subst (λ (mark : PlainMark). IsFalse (is_marked mark)) (sym (quiet-mark p)) none)))
      (λ same.
      let now = differs-not theory old new p t same in
      let next : is_current theory old p (t +ℤ pos 1) ≡ is_current theory new p (t +ℤ pos 1) =
      CurrencyBehindMarks-law theory old p t ∙ ap₂ current_behind now (sym (quiet-mark p)) ∙ sym (CurrencyBehindMarks-law theory new p t) in
      ap₂ (λ x y. not (beq x y)) next refl ∙ not-beq_same _ ∙ sym (ap₂ (λ x y. not (beq x y)) now refl ∙ not-beq_same _))
      (cases_Bool (differs theory old new p t))

-- the law
pub QuietInstantsPassOn-law : QuietInstantsPassOn
QuietInstantsPassOn-law theory old new t quiet p = (quiet-mark theory old new t quiet p, quiet-differs theory old new t quiet p)

-- ---- quiet stretches

-- n + 1 steps are n and one more
pub add_step : (r : ℤ) (n : ℕ) → (r +ℤ pos n) +ℤ pos 1 ≡ r +ℤ pos (suc n)
add_step r n = omega (arith, ints)

-- no step leads nowhere
pub add_none : (r : ℤ) → r +ℤ pos zero ≡ r
add_none r = omega (arith, ints)

-- quiet for what differs at r is quiet for what differs where the same does
pub IsQuiet-same : (theory : Theory) (old new : List PlainEvent) (r t : ℤ) → ((p : Ground) → differs theory old new p t ≡ differs theory old new p r)
    → IsQuiet theory old new (λ p. differs theory old new p r) t → IsQuiet theory old new (λ p. differs theory old new p t) t
IsQuiet-same theory old new r t same quiet = record {
  same_events = quiet.same_events;
  unread = λ p differ. quiet.unread p (sym (same p) ∙ differ);
  unmarked = λ p differ. quiet.unmarked p (sym (same p) ∙ differ);
}

-- what differs at r differs behind a quiet stretch
pub stretch-differs : (theory : Theory) (old new : List PlainEvent) (r : ℤ) (n : ℕ) → IsQuietStretch theory old new r n
    → (p : Ground) → differs theory old new p (r +ℤ pos n) ≡ differs theory old new p r
stretch-differs theory old new r zero quiet p = ap (differs theory old new p) (add_none r)
stretch-differs theory old new r (suc n) quiet p =
    let before = stretch-differs theory old new r n (λ k below. quiet k (omega arith)) in
    ap (differs theory old new p) (sym (add_step r n))
    ∙ quiet-differs theory old new (r +ℤ pos n) (IsQuiet-same theory old new r (r +ℤ pos n) before (quiet n (omega arith))) p
    ∙ before p

-- the law
pub QuietStretchesPassOn-law : QuietStretchesPassOn
QuietStretchesPassOn-law theory old new r n p quiet = (
  λ k below.
      let before = stretch-differs theory old new r k (λ j lower. quiet j (omega arith)) in
      quiet-mark theory old new (r +ℤ pos k) (IsQuiet-same theory old new r (r +ℤ pos k) before (quiet k below)) p,
  stretch-differs theory old new r n quiet p,
)

-- the law
pub QuietEntriesStay-law : QuietEntriesStay
QuietEntriesStay-law theory old new r n k effect quiet below contained =
    let before = stretch-differs theory old new r k (λ j lower. quiet j (omega arith)) in
    quiet-active theory old new (r +ℤ pos k) (IsQuiet-same theory old new r (r +ℤ pos k) before (quiet k below)) effect
    (IsMember-from_contains (entries_at theory old (r +ℤ pos k)) effect contained)
