-- The last instant before a time, and what is current behind it.
use Rattle.std.proofs.Common.{◌≡◌, ℕ, ◌-◌, ◌<◌, ◌≤◌, ℤ, zero, suc, ◌∷◌, [], Bool, List, Some, true, false, cond, not, ◌&&◌, ◌||◌, length, get_or, map, ⊎_elim, refl, sym, ap, ap₂, ◌∙◌, subst, arith}
use Rattle.std.specs.Prelude.{int_lt, int_le}
use Rattle.std.specs.List.{list_all, list_any, slice_get}
use Rattle.std.specs.Ordering.{int_eq}
use Rattle.std.proofs.lemmas.Bool.{and_parts, and_from, or_left, or_right}
use Rattle.std.proofs.lemmas.Int.{ints}
use Rattle.std.proofs.lemmas.List.{length-map}
use Rattle.std.proofs.lemmas.Option.{slice_get_cases, get_or_from_slice_get}
use Rattle.std.proofs.Math.Bool.{and-true}
use Rattle.std.proofs.Math.ListN.{get_or-map}
use Rattle.ec_terms.specs.declared.ground.Ground.{Ground}
use Rattle.ec_terms.specs.declared.theory.Theory.{Theory}
use Rattle.ec_terms.specs.Domain.{is_initial}
use Rattle.ec_axioms.specs.Calculus.{PlainEvent, Currency, is_initiated, has_break, is_current}
use Rattle.ec_axioms.specs.Changes.{is_history, comes_before}
use Rattle.ec_axioms.specs.Laws.{events_before}
use Rattle.ec_axioms.specs.Plain.{IsLastBefore}
use Rattle.ec_axioms.proofs.Effects.{any_before, any_before-same, breaks_between, current_by, current_by-past, is_current_on-by}
use Rattle.ec_lists.proofs.Integers.{int_eq-is}
use Rattle.ec_axioms.proofs.Rounds.{is_current-equation}
use Rattle.ec_axioms.proofs.OrderedEvents.{comes_before-rank}

-- ---- which it is

-- one more event in front that is not after the last instant, or not before t
IsLastBefore-cons : (e : PlainEvent) (events : List PlainEvent) (t s : ℤ) → (int_le e.rank s || int_le t e.rank) ≡ true →
    IsLastBefore events t s → IsLastBefore (e ∷ events) t s
IsLastBefore-cons e events t s here l = record { before = l.before; instant = or_right _ _ l.instant; last = and_from _ _ here l.last }

-- where none is before t, each is from t on
list_all-none_before : (events : List PlainEvent) (t s : ℤ) → length (events_before t events) ≡ 0 → list_all (λ e. int_le e.rank s || int_le t e.rank) events ≡ true
list_all-none_before [] t s none = refl
list_all-none_before (e ∷ events) t s none =
    let here : int_lt e.rank t ≡ false → int_le t e.rank ≡ true = λ no. grind (arith, ints) in
    let ih = list_all-none_before events t s in grind arith

-- an event comes before each instant behind it
comes_before-instant : (e : PlainEvent) (events : List PlainEvent) (s : ℤ) → list_all (comes_before e) events ≡ true →
    list_any (λ f. int_eq f.rank s) events ≡ true → int_le e.rank s ≡ true
comes_before-instant e [] s all there = cc
comes_before-instant e (f ∷ events) s all there =
    let parts = and_parts _ _ all in
    let up = comes_before-rank e f parts.0 in
    let ih = comes_before-instant e events s parts.1 in
    let here : int_eq f.rank s ≡ true → int_le e.rank s ≡ true = λ same. grind (arith, ints) in grind arith

-- the last of the events before t, by whether the first event is one of them
IsLastBefore-last_by : (e : PlainEvent) (events : List PlainEvent) (t : ℤ) (d : PlainEvent) → list_all (comes_before e) events ≡ true →
    ((i : ℕ) → suc i ≡ length (events_before t events) → IsLastBefore events t (get_or (events_before t events) i d).rank) →
    (b : Bool) (i : ℕ) → int_lt e.rank t ≡ b → suc i ≡ length (cond b (e ∷ events_before t events) (events_before t events)) →
    IsLastBefore (e ∷ events) t (get_or (cond b (e ∷ events_before t events) (events_before t events)) i d).rank
IsLastBefore-last_by e events t d first later true zero is end =
    let itself : int_eq e.rank e.rank ≡ true = grind (arith, ints) in
    let le : int_le e.rank e.rank ≡ true = grind (arith, ints) in
    record {
      before = is;
      instant = or_left _ _ itself;
      last = and_from _ _ (or_left _ _ le) (list_all-none_before events t e.rank (omega arith));
    }
IsLastBefore-last_by e events t d first later true (suc i) is end =
    let l = later i (omega arith) in
    IsLastBefore-cons e events t _ (or_left _ _ (comes_before-instant e events _ first l.instant)) l
IsLastBefore-last_by e events t d first later false i is end =
    let from : int_le t e.rank ≡ true = grind (arith, ints) in IsLastBefore-cons e events t _ (or_right _ _ from) (later i end)

-- the last of the events before t is at the last instant before t
pub IsLastBefore-last : (events : List PlainEvent) (t : ℤ) (i : ℕ) (d : PlainEvent) → is_history events ≡ true →
    suc i ≡ length (events_before t events) → IsLastBefore events t (get_or (events_before t events) i d).rank
unfolding is_history
IsLastBefore-last [] t i d ordered end = absurd (omega arith)
IsLastBefore-last (e ∷ events) t i d ordered end =
    let both = and_parts _ _ ordered in
    IsLastBefore-last_by e events t d (and_parts _ _ both.0).0 (λ j. IsLastBefore-last events t j d both.1) (int_lt e.rank t) i refl end

-- the same of the program's events
pub IsLastBefore-slice : {E : Type 0} (f : E → PlainEvent) (xs before : List E) (t : ℤ) (e : E) → is_history (map f xs) ≡ true →
    map f before ≡ events_before t (map f xs) → slice_get before (length before - 1) ≡ Some e → IsLastBefore (map f xs) t (f e).rank
IsLastBefore-slice f xs before t e ordered same last =
    let i = length before - 1 in
    let within : i < length before = ⊎_elim (λ h. h.1) (λ h. absurd (let none = h.1 in let some = last in cc)) (slice_get_cases before i).1 in
    let count : length before ≡ length (events_before t (map f xs)) = sym (length-map before f) ∙ ap length same in
    let found = IsLastBefore-last (map f xs) t i (f e) ordered (omega arith) in
    let at : get_or (events_before t (map f xs)) i (f e) ≡ f e =
    ap (λ es. get_or es i (f e)) (sym same) ∙ get_or-map f before i e ∙ ap f (get_or_from_slice_get before i e e last) in
    subst (λ x. IsLastBefore (map f xs) t x.rank) at found

-- ---- how many events are before it

-- fewer events are before an earlier time
length-events_before_le : (events : List PlainEvent) (s t : ℤ) → int_lt s t ≡ true → length (events_before s events) ≤ length (events_before t events)
length-events_before_le [] s t before = omega arith
length-events_before_le (e ∷ events) s t before =
    let ih = length-events_before_le events s t before in
    let step : int_lt e.rank s ≡ true → int_lt e.rank t ≡ true = λ is. grind (arith, ints) in grind arith

-- strictly fewer where an event is at it
length-events_before_at : (events : List PlainEvent) (s t : ℤ) → int_lt s t ≡ true → list_any (λ e. int_eq e.rank s) events ≡ true →
    length (events_before s events) < length (events_before t events)
length-events_before_at [] s t before there = cc
length-events_before_at (e ∷ events) s t before there =
    let le = length-events_before_le events s t before in
    let ih = length-events_before_at events s t before in
    let step : int_lt e.rank s ≡ true → int_lt e.rank t ≡ true = λ is. grind (arith, ints) in
    let here : int_eq e.rank s ≡ true → (int_lt e.rank s ≡ false) × (int_lt e.rank t ≡ true) = λ is. (grind (arith, ints), grind (arith, ints)) in grind arith

-- fewer events are before the last instant before t than before t
pub length-before_last : (events : List PlainEvent) (t s : ℤ) → IsLastBefore events t s → length (events_before s events) < length (events_before t events)
length-before_last events t s last = length-events_before_at events s t last.before last.instant

-- ---- what is current behind it

-- one event more, by whether it is before the last instant, at it or behind it
split_step : (at_t at_s same te ts rest_t rest_s rest : Bool) → rest_t ≡ (rest_s || (rest && ts)) → (same ≡ true → te ≡ ts) →
    at_t ≡ (at_s || same) → ((at_t && te) || rest_t) ≡ (((at_s && te) || rest_s) || ((same || rest) && ts))
split_step at_t at_s true te true rest_t rest_s rest ih here order = grind arith
split_step at_t at_s true te false rest_t rest_s rest ih here order = grind arith
split_step at_t at_s false te ts rest_t rest_s rest ih here order = grind arith

-- a test of the events before t is that of the events before the last instant, and of that instant where an event is there
any_before-split : (test : ℤ → Bool) (events : List PlainEvent) (t s : ℤ) → int_lt s t ≡ true →
    list_all (λ e. int_le e.rank s || int_le t e.rank) events ≡ true →
    any_before test events t ≡ (any_before test events s || (list_any (λ e. int_eq e.rank s) events && test s))
any_before-split test [] t s before all = refl
any_before-split test (e ∷ events) t s before all =
    let parts = and_parts _ _ all in
    let ih = any_before-split test events t s before parts.1 in
    let here : int_eq e.rank s ≡ true → test e.rank ≡ test s = λ is. ap test (int_eq-is e.rank s is) in
    let order : int_lt e.rank t ≡ (int_lt e.rank s || int_eq e.rank s) = let one = parts.0 in grind (arith, ints) in
    split_step (int_lt e.rank t) (int_lt e.rank s) (int_eq e.rank s) (test e.rank) (test s) _ _ _ ih here order

any_before-last : (test : ℤ → Bool) (events : List PlainEvent) (t s : ℤ) → IsLastBefore events t s →
    any_before test events t ≡ (any_before test events s || test s)
any_before-last test events t s last =
    any_before-split test events t s last.before last.last ∙ ap (λ there. any_before test events s || (there && test s)) last.instant

-- a test that fails at each time before t
any_before-never : (test : ℤ → Bool) (events : List PlainEvent) (t : ℤ) → ((s : ℤ) → int_lt s t ≡ true → test s ≡ false) → any_before test events t ≡ false
any_before-never test [] t none = refl
any_before-never test (e ∷ events) t none = let ih = any_before-never test events t none in let here = none e.rank in grind arith

-- a test joined with a fixed one
any_before-and : (test : ℤ → Bool) (b : Bool) (events : List PlainEvent) (t : ℤ) → any_before (λ s. test s && b) events t ≡ (any_before test events t && b)
any_before-and test b [] t = refl
any_before-and test b (e ∷ events) t = let ih = any_before-and test b events t in grind arith

-- current at t by whether it is initiated, current and broken at the last instant
bool_step : (a bs is initial b : Bool) →
    (((a && not bs) || is) || (initial && not (b || bs))) ≡ (is || ((a || (initial && not b)) && not bs))
bool_step a true is initial b = grind arith
bool_step a false is initial b = grind arith

current_by-last : (i b : ℤ → Bool) (initial : Bool) (events : List PlainEvent) (t s : ℤ) → IsLastBefore events t s →
    current_by i b initial events t ≡ (i s || (current_by i b initial events s && not (b s)))
current_by-last i b initial events t s last =
    ap₂ (λ x y. x || (initial && not y)) carried (any_before-last b events t s last)
    ∙ bool_step (any_before (λ r. i r && not (breaks_between b events s r)) events s) (b s) (i s) initial (any_before b events s)
  where
    itself : int_lt s s ≡ false
    itself = grind (arith, ints)

    behind : breaks_between b events t s ≡ false
    behind =
        any_before-last (λ u. int_lt s u && b u) events t s last
        ∙ ap₂ (λ x y. x || (y && b s)) (any_before-never (λ u. int_lt s u && b u) events s (λ u before. let not_after : int_lt s u ≡ false = grind (arith, ints) in ap (λ x. x && b u) not_after)) itself

    further : (r : ℤ) → int_lt r s ≡ true → breaks_between b events t r ≡ (breaks_between b events s r || b s)
    further r before =
        any_before-last (λ u. int_lt r u && b u) events t s last
        ∙ ap (λ x. breaks_between b events s r || (x && b s)) before

    kept : any_before (λ r. i r && not (breaks_between b events t r)) events s ≡ (any_before (λ r. i r && not (breaks_between b events s r)) events s && not (b s))
    kept =
        any_before-same _ _ events s (λ r before. ap (λ x. i r && not x) (further r before) ∙ and_not_or (i r) (breaks_between b events s r) (b s))
        ∙ any_before-and (λ r. i r && not (breaks_between b events s r)) (not (b s)) events s
      where
        and_not_or : (x y z : Bool) → (x && not (y || z)) ≡ ((x && not y) && not z)
        and_not_or x y z = grind arith

    carried : any_before (λ r. i r && not (breaks_between b events t r)) events t ≡ ((any_before (λ r. i r && not (breaks_between b events s r)) events s && not (b s)) || i s)
    carried =
        any_before-last (λ r. i r && not (breaks_between b events t r)) events t s last
        ∙ ap₂ (λ x y. x || (i s && not y)) kept behind
        ∙ ap (λ x. (any_before (λ r. i r && not (breaks_between b events s r)) events s && not (b s)) || x) (and-true (i s))

-- Current behind the last instant: initiated there, or current there and not broken.
pub is_current-last : (theory : Theory) (events : List PlainEvent) (p : Ground) (t s : ℤ) → IsLastBefore events t s →
    is_current theory events p t
    ≡ (is_initiated theory events (is_current theory events) p s || (is_current theory events p s && not (has_break theory events (is_current theory events) p s)))
is_current-last theory events p t s last =
    let c : Currency = is_current theory events in
    let by : (u : ℤ) → c p u ≡ current_by (is_initiated theory events c p) (has_break theory events c p) (is_initial theory p) events u =
    λ u. is_current-equation theory events p u ∙ is_current_on-by theory events c p u in
    by t ∙ current_by-last _ _ (is_initial theory p) events t s last
    ∙ ap (λ x. is_initiated theory events c p s || (x && not (has_break theory events c p s))) (sym (by s))

-- Where no event is before t, what is initial is current.
pub is_current-first : (theory : Theory) (events : List PlainEvent) (p : Ground) (t : ℤ) → events_before t events ≡ [] →
    is_current theory events p t ≡ is_initial theory p
is_current-first theory events p t none =
    is_current-equation theory events p t ∙ is_current_on-by theory events (is_current theory events) p t
    ∙ current_by-past _ _ (is_initial theory p) events t
    ∙ ap (λ es. current_by (is_initiated theory events (is_current theory events) p) (has_break theory events (is_current theory events) p) (is_initial theory p) es t) none
    ∙ and-true (is_initial theory p)

-- ---- the answer of a program that asks step by step

-- initiated
pub if_initiated : (current initiated old broken asked : Bool) → current ≡ (initiated || (old && not broken)) → asked ≡ initiated → asked ≡ true → asked ≡ current
if_initiated current initiated old broken asked step is yes_it_is = grind arith

-- not initiated, and current before
pub if_current : (current initiated old broken asked asked_old asked_broken : Bool) → current ≡ (initiated || (old && not broken)) →
    asked ≡ initiated → asked ≡ false → asked_old ≡ old → asked_old ≡ true → asked_broken ≡ broken → not asked_broken ≡ current
if_current current initiated old broken asked asked_old asked_broken step a b c d e = grind arith

-- neither
pub if_neither : (current initiated old broken asked asked_old : Bool) → current ≡ (initiated || (old && not broken)) →
    asked ≡ initiated → asked ≡ false → asked_old ≡ old → asked_old ≡ false → asked_old ≡ current
if_neither current initiated old broken asked asked_old step a b c d = grind arith
