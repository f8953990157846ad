-- The rounds of currency settle: at an instant, after as many rounds as there are instants before it.
use Rattle.std.proofs.Common.{◌≡◌, ℕ, ◌<◌, ◌≤◌, ℤ, zero, suc, ◌∷◌, [], Bool, List, true, false, not, ◌&&◌, ◌||◌, length, filter, sym, ap, ◌∙◌, ⊎_elim, arith}
use Rattle.std.specs.Prelude.{int_lt, int_le}
use Rattle.std.specs.List.{list_any}
use Rattle.std.specs.Ordering.{int_eq}
use Rattle.std.proofs.lemmas.Bool.{cases_Bool}
use Rattle.std.proofs.lemmas.Int.{ints}
use Rattle.std.proofs.lemmas.List.{nil_from_length}
use Rattle.std.proofs.Math.Bool.{and-true}
use Rattle.ec_terms.specs.declared.ground.Ground.{Ground}
use Rattle.ec_terms.specs.declared.theory.Theory.{Theory}
use Rattle.ec_terms.specs.Domain.{GroundEntry, is_initial}
use Rattle.ec_axioms.specs.Laws.{SolvesEquation, CurrencyIsTheSolution, PastIsClosed, events_before, events_up_to}
use Rattle.ec_axioms.specs.Timeline.{Timeline, is_current_on, carries}
use Rattle.ec_axioms.specs.Calculus.{PlainEvent, Currency, instants_of, effects_at, is_initiated, has_break, timeline_by, round_current, is_current}
use Rattle.ec_lists.proofs.Filters.{filter-filter_wider, filter-none, length-filter_le, length-filter_wider}
use Rattle.ec_lists.proofs.Integers.{int_lt-trans, int_le-same}
use Rattle.ec_axioms.proofs.Effects.{list_any-instants, current_by, is_current_on-by, current_by-same, current_by-past, events_at, is_active-same, effects_at-same, effects_at-events, effects_at-none, is_initiated-same, has_break-same}

-- ---- how many instants lie before

-- the number of instants before t
abbrev pub depth_at : List PlainEvent → ℤ → ℕ
depth_at events t = length (filter (λ s. int_lt s t) (instants_of events))

-- fewer of the numbers are less than a smaller one that is among them
pub length-below_lt : (us : List ℤ) (s t : ℤ) → int_lt s t ≡ true → list_any (λ u. int_eq u s) us ≡ true →
    length (filter (λ u. int_lt u s) us) < length (filter (λ u. int_lt u t) us)
length-below_lt [] s t before there = grind arith
length-below_lt (u ∷ us) s t before there =
    let le = length-filter_wider (λ u. int_lt u s) (λ u. int_lt u t) (λ u sooner. int_lt-trans u s t sooner before) us in
    let ih = length-below_lt us s t before in
    let step : int_lt u s ≡ true → int_lt u t ≡ true = λ e. grind (arith, ints) in
    let here : int_eq u s ≡ true → (int_lt u s ≡ false) × (int_lt u t ≡ true) = λ e. (grind (arith, ints), grind (arith, ints)) in grind arith

-- a time that is no instant has no event
pub events_at-no_instant : (events : List PlainEvent) (s : ℤ) → list_any (λ u. int_eq u s) (instants_of events) ≡ false → events_at s events ≡ []
events_at-no_instant events s none = filter-none (λ e. int_eq e.rank s) events (sym (list_any-instants (λ u. int_eq u s) events) ∙ none)

-- ---- one round

-- what the timelines whose contexts read a currency say
abbrev pub next_round : Theory → List PlainEvent → Currency → Currency
next_round theory events current p t = is_current_on (timeline_by theory events current p) t

-- currencies that agree on the effects before t are followed by the same at t
pub next_round-same : (theory : Theory) (events : List PlainEvent) (c d : Currency) (p : Ground) (t : ℤ) →
    ((s : ℤ) → int_lt s t ≡ true → (wanted : GroundEntry → Bool) → effects_at theory events c wanted s ≡ effects_at theory events d wanted s) →
    next_round theory events c p t ≡ next_round theory events d p t
next_round-same theory events c d p t same =
    is_current_on-by theory events c p t
    ∙ current_by-same _ _ _ _ (is_initial theory p) events t
    (λ s before. is_initiated-same theory events events c d p s (same s before))
    (λ s before. has_break-same theory events events c d p s (same s before))
    ∙ sym (is_current_on-by theory events d p t)

-- where no instant is before t, only what is initial is current
next_round-first : (theory : Theory) (events : List PlainEvent) (c : Currency) (p : Ground) (t : ℤ) →
    depth_at events t ≤ 0 → next_round theory events c p t ≡ is_initial theory p
unfolding timeline_by
next_round-first theory events c p t none =
    let line : Timeline = timeline_by theory events c p in
    let empty : filter (λ s. int_lt s t) (instants_of events) ≡ [] = nil_from_length (filter (λ s. int_lt s t) (instants_of events)) (omega arith) in
    ap (λ us. list_any (carries line t) us || (line.initial && not (list_any line.breaks us))) empty ∙ and-true (is_initial theory p)

-- a currency is settled by that at the times that have fewer instants before them
next_round-deeper : (theory : Theory) (events : List PlainEvent) (c d : Currency) (n : ℕ) (p : Ground) (t : ℤ) → depth_at events t ≤ suc n →
    ((s : ℤ) → int_lt s t ≡ true → depth_at events s ≤ n → (q : Ground) → c q s ≡ d q s) →
    next_round theory events c p t ≡ next_round theory events d p t
next_round-deeper theory events c d n p t deep same = next_round-same theory events c d p t effects
  where
    effects : (s : ℤ) → int_lt s t ≡ true → (wanted : GroundEntry → Bool) → effects_at theory events c wanted s ≡ effects_at theory events d wanted s
    effects s before wanted = ⊎_elim
        (λ there. let less = length-below_lt (instants_of events) s t before there in
        effects_at-same theory events c d wanted s (same s before (omega arith)))
        (λ absent. let none = events_at-no_instant events s absent in
        effects_at-none theory events c wanted s none ∙ sym (effects_at-none theory events d wanted s none))
        (cases_Bool (list_any (λ u. int_eq u s) (instants_of events)))

-- ---- the equation

-- rounds beyond the instants before t change nothing there
pub round_current-settled : (theory : Theory) (events : List PlainEvent) (n : ℕ) (p : Ground) (t : ℤ) → depth_at events t ≤ n →
    round_current theory events n p t ≡ next_round theory events (round_current theory events n) p t
unfolding round_current
round_current-settled theory events zero p t deep = sym (next_round-first theory events (round_current theory events zero) p t deep)
round_current-settled theory events (suc n) p t deep =
    next_round-deeper theory events (round_current theory events n) (round_current theory events (suc n)) n p t deep
    (λ s before shallow q. round_current-settled theory events n q s shallow)

-- The currency of a history is what the timelines say whose contexts read it.
pub is_current-equation : (theory : Theory) (events : List PlainEvent) → SolvesEquation theory events (is_current theory events)
unfolding is_current
is_current-equation theory events p t =
    round_current-settled theory events (length (instants_of events)) p t (length-filter_le (λ s. int_lt s t) (instants_of events))

-- Two currencies that agree with their timelines up to t agree up to t.
pub Currency-unique : (theory : Theory) (events : List PlainEvent) (c d : Currency) (t : ℤ) →
    ((s : ℤ) → int_le s t ≡ true → (q : Ground) → c q s ≡ next_round theory events c q s) →
    ((s : ℤ) → int_le s t ≡ true → (q : Ground) → d q s ≡ next_round theory events d q s) →
    (n : ℕ) (s : ℤ) → int_le s t ≡ true → depth_at events s ≤ n → (p : Ground) → c p s ≡ d p s
Currency-unique theory events c d t solves_c solves_d zero s within deep p =
    solves_c s within p ∙ next_round-first theory events c p s deep
    ∙ sym (next_round-first theory events d p s deep) ∙ sym (solves_d s within p)
Currency-unique theory events c d t solves_c solves_d (suc n) s within deep p =
    solves_c s within p
    ∙ next_round-deeper theory events c d n p s deep
    (λ r before shallow q. Currency-unique theory events c d t solves_c solves_d n r (let both : int_le r t ≡ true = grind (arith, ints) in both) shallow q)
    ∙ sym (solves_d s within p)

-- the law
pub CurrencyIsTheSolution-law : CurrencyIsTheSolution
CurrencyIsTheSolution-law = (
  is_current-equation,
  λ theory events current solves p t.
      Currency-unique theory events current (is_current theory events) t
      (λ s within q. solves q s) (λ s within q. is_current-equation theory events q s)
      (depth_at events t) t (int_le-same t) (omega arith) p,
)

-- ---- the past is closed

-- a list of events says what is current at t no more than its events before t do
next_round-past : (theory : Theory) (old new : List PlainEvent) (c : Currency) (p : Ground) (t : ℤ) →
    events_before t old ≡ events_before t new → next_round theory old c p t ≡ next_round theory new c p t
next_round-past theory old new c p t same =
    is_current_on-by theory old c p t
    ∙ current_by-past _ _ (is_initial theory p) old t
    ∙ ap (λ events. current_by (is_initiated theory old c p) (has_break theory old c p) (is_initial theory p) events t) same
    ∙ current_by-same _ _ _ _ (is_initial theory p) (events_before t new) t
    (λ s before. is_initiated-same theory old new c c p s (effects s before))
    (λ s before. has_break-same theory old new c c p s (effects s before))
    ∙ sym (current_by-past _ _ (is_initial theory p) new t)
    ∙ sym (is_current_on-by theory new c p t)
  where
    earlier : (s : ℤ) → int_lt s t ≡ true → (e : PlainEvent) → int_eq e.rank s ≡ true → int_lt e.rank t ≡ true
    earlier s before e there = grind (arith, ints)

    events : (s : ℤ) → int_lt s t ≡ true → events_at s old ≡ events_at s new
    events s before =
        sym (filter-filter_wider (λ e. int_eq e.rank s) (λ e. int_lt e.rank t) old (earlier s before))
        ∙ ap (events_at s) same
        ∙ filter-filter_wider (λ e. int_eq e.rank s) (λ e. int_lt e.rank t) new (earlier s before)

    effects : (s : ℤ) → int_lt s t ≡ true → (wanted : GroundEntry → Bool) → effects_at theory old c wanted s ≡ effects_at theory new c wanted s
    effects s before wanted = effects_at-events theory old new c wanted s (events s before)

-- the events before an earlier time are the same too
events_before-earlier : (old new : List PlainEvent) (s t : ℤ) → int_le s t ≡ true →
    events_before t old ≡ events_before t new → events_before s old ≡ events_before s new
events_before-earlier old new s t within same =
    sym (filter-filter_wider (λ e. int_lt e.rank s) (λ e. int_lt e.rank t) old earlier)
    ∙ ap (events_before s) same
    ∙ filter-filter_wider (λ e. int_lt e.rank s) (λ e. int_lt e.rank t) new earlier
  where
    earlier : (e : PlainEvent) → int_lt e.rank s ≡ true → int_lt e.rank t ≡ true
    earlier e before = grind (arith, ints)

-- the same events before t give the same currency up to t
pub is_current-past : (theory : Theory) (old new : List PlainEvent) (t s : ℤ) (p : Ground) →
    events_before t old ≡ events_before t new → int_le s t ≡ true → is_current theory old p s ≡ is_current theory new p s
is_current-past theory old new t s p same within =
    Currency-unique theory old (is_current theory old) (is_current theory new) t
    (λ r early q. is_current-equation theory old q r)
    (λ r early q. is_current-equation theory new q r ∙ sym (next_round-past theory old new (is_current theory new) q r (events_before-earlier old new r t early same)))
    (depth_at old s) s within (omega arith) p

-- the same events up to t give the same effects there
pub effects_at-past : (theory : Theory) (old new : List PlainEvent) (t : ℤ) (wanted : GroundEntry → Bool) →
    events_up_to t old ≡ events_up_to t new
    → effects_at theory old (is_current theory old) wanted t ≡ effects_at theory new (is_current theory new) wanted t
effects_at-past theory old new t wanted same =
    effects_at-same theory old (is_current theory old) (is_current theory new) wanted t
    (λ p. is_current-past theory old new t t p before (let itself : int_le t t ≡ true = grind (arith, ints) in itself))
    ∙ effects_at-events theory old new (is_current theory new) wanted t at
  where
    before : events_before t old ≡ events_before t new
    before =
        sym (filter-filter_wider (λ e. int_lt e.rank t) (λ e. int_le e.rank t) old (λ e earlier. grind (arith, ints)))
        ∙ ap (events_before t) same
        ∙ filter-filter_wider (λ e. int_lt e.rank t) (λ e. int_le e.rank t) new (λ e earlier. grind (arith, ints))

    at : events_at t old ≡ events_at t new
    at =
        sym (filter-filter_wider (λ e. int_eq e.rank t) (λ e. int_le e.rank t) old (λ e there. grind (arith, ints)))
        ∙ ap (events_at t) same
        ∙ filter-filter_wider (λ e. int_eq e.rank t) (λ e. int_le e.rank t) new (λ e there. grind (arith, ints))

-- the law
pub PastIsClosed-law : PastIsClosed
PastIsClosed-law = (
  λ theory old new t u p same within. is_current-past theory old new t u p same (grind (arith, ints)),
  effects_at-past,
  λ theory old new t effect same within.
      is_active-same (is_current theory old) (is_current theory new) effect
      (λ p. is_current-past theory old new t effect.event.rank p same (grind (arith, ints))),
)
