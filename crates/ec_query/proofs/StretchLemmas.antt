-- How far a property holds from a time on: intervals that follow one another without a gap.
use Rattle.std.proofs.Common.{◌≡◌, ℕ, ◌<◌, ℤ, true, false, not, ◌&&◌, List, length, filter, Option, Some, None, IsTrue, refl, sym, ap, subst, ◌∙◌, ⊎_elim, arith}
use Rattle.std.specs.Prelude.{◌≤ℤ◌, int_lt, int_le}
use Rattle.std.specs.List.{list_all}
use Rattle.std.proofs.lemmas.Bool.{cases_Bool, false≢true, false_from_ne_true, and_parts, and_from, cond-true}
use Rattle.std.proofs.lemmas.Int.{ints}
use Rattle.ec_terms.specs.declared.ground.Ground.{Ground}
use Rattle.ec_terms.specs.declared.theory.Theory.{Theory}
use Rattle.ec_axioms.specs.Calculus.{PlainEvent, intervals_of, holds_at, holds_through}
use Rattle.ec_axioms.specs.Changes.{is_history}
use Rattle.ec_axioms.specs.Timeline.{Begin, before_all, begin_at, Interval, begins_at, covers, has_begin, is_after, is_followed, is_held_at, is_held_through, is_within_end}
use Rattle.ec_axioms.proofs.HistoryLaws.{ThroughIsEachInstant-law}
use Rattle.ec_axioms.proofs.Members.{IsMember, IsMember-from_contains, list_all-member, member-list_any, length-filter_fewer}
use Rattle.ec_axioms.proofs.HoldingLaws.{is_after-from}
use Rattle.ec_rows.specs.declared.span.End.{End}
use Rattle.ec_rows.specs.declared.span.End.TheVariants.{At, Unended}
use Rattle.ec_intervals.specs.Table.{plain_end}
use Rattle.ec_intervals.specs.Steps.{begins_from}
use Rattle.ec_lists.proofs.Integers.{int_eq-is, int_le-is, int_le-from, int_le-same, int_lt-not_le, int_le-not_before, int_lt_le-trans, int_le_lt-trans, int_le-from_lt}
use Rattle.ec_query.specs.Stretches.{IsEndOver, IsEndFrom}

-- ---- how many intervals are left

-- how many intervals begin at an end or later; none, where there is no end
abbrev pub left_from : List Interval → Option ℤ → ℕ
left_from intervals None = 0
left_from intervals (Some x) = length (filter (λ interval. begins_from x interval.from) intervals)

-- a begin at x is one from x on, and none from behind x on
begins_from-at : (x : ℤ) (begin : Begin) → begins_at x begin ≡ true → begins_from x begin ≡ true
begins_from-at x before_all at = absurd (false≢true at)
begins_from-at x (begin_at s) at = subst (λ u. int_le x u ≡ true) (sym (int_eq-is s x at)) (int_le-same x)

not_begins_from : (x y : ℤ) (begin : Begin) → int_lt x y ≡ true → begins_at x begin ≡ true → begins_from y begin ≡ false
not_begins_from x y before_all before at = refl
not_begins_from x y (begin_at s) before at = subst (λ u. int_le y u ≡ false) (sym (int_eq-is s x at)) (int_le-not_before x y before)

begins_from-earlier : (x y : ℤ) (begin : Begin) → int_lt x y ≡ true → begins_from y begin ≡ true → begins_from x begin ≡ true
begins_from-earlier x y before_all before from = from
begins_from-earlier x y (begin_at s) before from = int_le-from_lt x s (int_lt_le-trans x y s before from)

-- fewer are left behind an interval that begins there
pub left_from-less : (intervals : List Interval) (x : ℤ) (end : Option ℤ) → IsEndFrom intervals x end → left_from intervals end < left_from intervals (Some x)
left_from-less intervals x None next =
    let fewer = length-filter_fewer (λ (i : Interval). begins_from x i.from) (λ (i : Interval). false) intervals next.interval (λ i never. absurd (false≢true never))
    (IsMember-from_contains intervals next.interval next.member) (begins_from-at x next.interval.from next.begins) refl in omega (arith, fewer)
left_from-less intervals x (Some y) next =
    length-filter_fewer (λ (i : Interval). begins_from x i.from) (λ (i : Interval). begins_from y i.from) intervals next.interval
    (λ i from. begins_from-earlier x y i.from (next.after y refl) from)
    (IsMember-from_contains intervals next.interval next.member) (begins_from-at x next.interval.from next.begins)
    (not_begins_from x y next.interval.from (next.after y refl) next.begins)

-- ---- how far it holds

-- From a on all is held up to the end, where it lies in the stretch to b, and an interval from a or later has that end.
pub record Reaches (intervals : List Interval) (a b : ℤ) (end : Option ℤ) : Type 0 where
  pub held : (t : ℤ) → a ≤ℤ t → t ≤ℤ b → is_within_end end t ≡ true → is_held_at intervals t ≡ true
  pub ended : (x : ℤ) → end ≡ Some x → (int_le a x ≡ true) × ((interval : Interval) × IsMember intervals interval × (interval.until ≡ Some x))

is_after-begin : (begin : Begin) (x t : ℤ) → begins_at x begin ≡ true → int_lt x t ≡ true → is_after begin t ≡ true
is_after-begin before_all x t at later = refl
is_after-begin (begin_at s) x t at later = subst (λ u. int_lt u t ≡ true) (sym (int_eq-is s x at)) later

-- an interval covers t, so it is held there
held-by : (intervals : List Interval) (interval : Interval) (t : ℤ) → IsMember intervals interval → is_after interval.from t ≡ true → is_within_end interval.until t ≡ true → is_held_at intervals t ≡ true
held-by intervals interval t member after within = member-list_any (covers t) intervals interval member (and_from (is_after interval.from t) (is_within_end interval.until t) after within)

-- up to the end of an interval that covers a
pub Reaches-start : (intervals : List Interval) (a b : ℤ) (end : Option ℤ) → IsEndOver intervals a end → Reaches intervals a b end
Reaches-start intervals a b end over =
    let parts = and_parts (is_after over.interval.from a) (is_within_end over.interval.until a) over.covering in
    let member = IsMember-from_contains intervals over.interval over.member in
    record {
      held = λ t from to within. held-by intervals over.interval t member (is_after-from over.interval.from a t parts.0 (int_le-from a t from)) (ap (λ e. is_within_end e t) over.until ∙ within);
      ended = λ x is. (sym (ap (λ e. is_within_end e a) (over.until ∙ is)) ∙ parts.1, (over.interval, member, over.until ∙ is));
    }

-- and on to the end of the next that begins there
pub Reaches-next : (intervals : List Interval) (a b x : ℤ) (end : Option ℤ) → Reaches intervals a b (Some x) → IsEndFrom intervals x end → Reaches intervals a b end
Reaches-next intervals a b x end so_far next =
    let member = IsMember-from_contains intervals next.interval next.member in
    record {
      held = λ t from to within.
          ⊎_elim (λ early. so_far.held t from to early)
          (λ late. held-by intervals next.interval t member (is_after-begin next.interval.from x t next.begins (int_lt-not_le x t ∙ ap not late)) (ap (λ e. is_within_end e t) next.until ∙ within))
          (cases_Bool (int_le t x));
      ended = λ y is. (
        int_le-from_lt a y (int_le_lt-trans a x y (so_far.ended x refl).0 (next.after y is)),
        (next.interval, member, next.until ∙ is),
      );
    }

-- ---- the whole stretch

within_end : (end : Option ℤ) (b t : ℤ) → ((x : ℤ) → end ≡ Some x → int_le b x ≡ true) → t ≤ℤ b → is_within_end end t ≡ true
within_end None b t far to = refl
within_end (Some x) b t far to = let before = int_le-is b x (far x refl) in int_le-from t x (omega (arith, ints))

-- where the end lies not before b, all of the stretch is held
pub Reaches-whole : (theory : Theory) (events : List PlainEvent) (p : Ground) (a b : ℤ) (end : Option ℤ) (intervals : List Interval) → IsTrue (is_history events) → a ≤ℤ b
    → intervals ≡ intervals_of theory events p → Reaches intervals a b end → ((x : ℤ) → end ≡ Some x → int_le b x ≡ true) → true ≡ holds_through theory events p a b
unfolding holds_at
Reaches-whole theory events p a b end intervals history order is reached far =
    sym ((ThroughIsEachInstant-law theory events p a b history order).1
    (λ t from to. ap (λ (is : List Interval). is_held_at is t) (sym is) ∙ reached.held t from to (within_end end b t far to)))

-- where it lies before b and nothing begins there, it is not
pub Reaches-broken : (intervals : List Interval) (a b x : ℤ) → Reaches intervals a b (Some x) → int_le b x ≡ false → has_begin intervals x ≡ false → false ≡ is_held_through intervals a b
Reaches-broken intervals a b x reached before none =
    sym (false_from_ne_true (is_held_through intervals a b) (λ through.
    let parts = and_parts (is_held_at intervals a) (list_all (λ interval. is_followed intervals a b interval.until) intervals) through in
    let last = (reached.ended x refl) in
    let followed : is_followed intervals a b last.1.0.until ≡ true = list_all-member (λ interval. is_followed intervals a b interval.until) intervals last.1.0 parts.1 last.1.1 in
    let inside : (int_le a x && int_lt x b) ≡ true = and_from (int_le a x) (int_lt x b) last.0 (int_lt-not_le x b ∙ ap not before) in
    false≢true (sym none ∙ sym (cond-true (int_le a x && int_lt x b) (has_begin intervals x) true inside) ∙ sym (ap (is_followed intervals a b) last.1.2) ∙ followed)))

-- where no interval covers a, neither
pub broken_at_once : (intervals : List Interval) (a b : ℤ) → is_held_at intervals a ≡ false → false ≡ is_held_through intervals a b
broken_at_once intervals a b none = sym (ap (λ held. held && list_all (λ interval. is_followed intervals a b interval.until) intervals) none)

-- ---- ends

pub far-at : (b y : ℤ) (end : Option ℤ) → end ≡ Some y → int_le b y ≡ true → (x : ℤ) → end ≡ Some x → int_le b x ≡ true
far-at b y end at far x is = let same : y ≡ x = cc in subst (λ u. int_le b u ≡ true) same far

pub far-unended : {T : Type 0} (rank : T → ℤ) (b : ℤ) (end : End T) → ((t : T) → end ≡ At t → ⊥) → (x : ℤ) → plain_end rank end ≡ Some x → int_le b x ≡ true
far-unended rank b (At t) unended x is = absurd (unended t refl)
far-unended rank b Unended unended x is = let no = is in absurd (cc)
