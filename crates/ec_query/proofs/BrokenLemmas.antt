-- The broken begins of a property, searched from one to the next.
use Rattle.std.proofs.Common.{◌≡◌, ℕ, ◌+◌, ◌-◌, ◌≤◌, ℤ, Bool, true, false, cond, List, [], ◌∷◌, ◌++◌, length, map, filter, filter_map, Option, Some, None, IsTrue, refl, sym, ap, subst, ◌∙◌, inl, inr, append-nil, arith}
use Rattle.std.specs.Prelude.{◌^◌, int_lt, decimal}
use Rattle.std.specs.List.{list_all, cons_option}
use Rattle.std.specs.Ordering.{int_eq}
use Rattle.std.proofs.lemmas.Bool.{false≢true, and_parts}
use Rattle.std.proofs.lemmas.List.{length-append, length-map}
use Rattle.ec_lists.proofs.Filters.{filter-each, length-filter_le, length-filter_map}
use Rattle.ec_lists.proofs.Integers.{int_lt-same, int_lt-not_after, int_lt-trans}
use Rattle.ec_terms.specs.declared.ground.Ground.{Ground}
use Rattle.ec_terms.specs.declared.theory.Theory.{Theory}
use Rattle.ec_terms.specs.Domain.{is_strong}
use Rattle.ec_axioms.specs.Calculus.{PlainEvent, broken_of, instants_of, timeline_by, timeline_of, with_instant}
use Rattle.ec_axioms.specs.Marks.{PlainMark, broken_spans_of, marks_of, mark_starts, row_begins, row_starts, row_timeline}
use Rattle.ec_commands.specs.QueryTexts.{Canon, broken_reply, broken_text, counted_text}
use Rattle.ec_axioms.specs.Timeline.{Begin, before_all, begin_at, Timeline, begins_of, broken_from, initial_begins, is_start, next_break}
use Rattle.ec_axioms.proofs.HistoryLaws.{SpansAreTheIntervals-law}
use Rattle.ec_axioms.proofs.Members.{IsMember, IsMember-from_filter_map, IsMember-from_map, IsPairwise, IsPairwise-map, list_all-member}
use Rattle.ec_axioms.proofs.MarkLaws.{row_starts-first}
use Rattle.ec_store.specs.Table.{KeptProp, prop_of, term_at}
use Rattle.ec_rows.specs.Marks.{IsMarkRow, mark_before}
use Rattle.ec_rows.specs.Ordered.{is_ascending}
use Rattle.ec_rows.specs.PlainMarks.{plain_mark, plain_marks}
use Rattle.ec_rows.specs.declared.mark.Mark.{Mark}
use Rattle.ec_points.specs.Table.{PointTable, is_initial_at, marks_at}
use Rattle.ec_intervals.specs.Broken.{begins_after, first_after, passes_after}
use Rattle.ec_query.specs.Marked.{AreMarkedOf}
use Rattle.ec_query.proofs.HeldLemmas.{IsUnknown-unkept}
use Rattle.ec_query.proofs.NextOfOrder.{IsSearchedBy, filter-next, filter-found_none}

-- ---- the order of begins

-- a broken begin comes after another
abbrev pub comes_after : Begin × ℤ → Begin × ℤ → Bool
comes_after x y = begins_after x.0 y.0

begins_after-itself : (b : Begin) → begins_after b b ≡ false
begins_after-itself before_all = refl
begins_after-itself (begin_at s) = int_lt-same s

begins_after-one_way : (b c : Begin) → begins_after b c ≡ true → begins_after c b ≡ false
begins_after-one_way before_all before_all after = refl
begins_after-one_way before_all (begin_at t) after = refl
begins_after-one_way (begin_at s) before_all after = absurd (false≢true after)
begins_after-one_way (begin_at s) (begin_at t) after = int_lt-not_after s t after

begins_after-trans : (b c d : Begin) → begins_after b c ≡ true → begins_after c d ≡ true → begins_after b d ≡ true
begins_after-trans b before_all d first second = absurd (false≢true (by_begin b first))
  where
    by_begin : (b : Begin) → begins_after b before_all ≡ true → false ≡ true
    by_begin before_all first = first
    by_begin (begin_at s) first = first
begins_after-trans b (begin_at s) before_all first second = absurd (false≢true second)
begins_after-trans before_all (begin_at s) (begin_at t) first second = refl
begins_after-trans (begin_at r) (begin_at s) (begin_at t) first second = int_lt-trans r s t first second

passes_after-searched : (after : Option Begin) → IsSearchedBy comes_after (λ (b : Begin × ℤ). passes_after after b.0)
passes_after-searched None = record { never = λ x. begins_after-itself x.0; one_way = λ x y. begins_after-one_way x.0 y.0; upward = λ x y _ _. refl }
passes_after-searched (Some c) = record { never = λ x. begins_after-itself x.0; one_way = λ x y. begins_after-one_way x.0 y.0; upward = λ x y. begins_after-trans c x.0 y.0 }

-- ---- the begins of a row of marks stand in order

abbrev start_if : Bool → ℤ → List ℤ → List ℤ
start_if true t starts = t ∷ starts
start_if false t starts = starts

-- what lies behind all of some marks lies behind none of their starts
starts-behind : (strong initial : Bool) (before : Option PlainMark) (t : ℤ) (ms : List PlainMark) → ((m : PlainMark) → IsMember ms m → int_lt t m.instant ≡ true)
    → (s : ℤ) → IsMember (row_starts strong initial before ms) s → int_lt t s ≡ true
starts-behind strong initial before t [] behind s member = absurd member
starts-behind strong initial before t (m ∷ ms) behind s member =
    by_case (mark_starts strong initial before m) (subst (λ (ss : List ℤ). IsMember ss s) (row_starts-first strong initial before m ms) member)
    (starts-behind strong initial (Some m) t ms (λ n later. behind n (inr later)) s)
  where
    by_case : (b : Bool) → IsMember (cond b (m.instant ∷ row_starts strong initial (Some m) ms) (row_starts strong initial (Some m) ms)) s
        → (IsMember (row_starts strong initial (Some m) ms) s → int_lt t s ≡ true) → int_lt t s ≡ true
    by_case true (inl same) rest = subst (λ u. int_lt t u ≡ true) same (behind m (inl refl))
    by_case true (inr later) rest = rest later
    by_case false later rest = rest later

IsPairwise-row_starts : (strong initial : Bool) (before : Option PlainMark) (ms : List PlainMark) → IsPairwise (λ (m n : PlainMark). int_lt m.instant n.instant ≡ true) ms
    → IsPairwise (λ s t. int_lt s t ≡ true) (row_starts strong initial before ms)
IsPairwise-row_starts strong initial before [] pairs = tt
IsPairwise-row_starts strong initial before (m ∷ ms) pairs =
    subst (IsPairwise (λ s t. int_lt s t ≡ true)) (sym (row_starts-first strong initial before m ms))
    (by_case (mark_starts strong initial before m) (IsPairwise-row_starts strong initial (Some m) ms pairs.1))
  where
    by_case : (b : Bool) → IsPairwise (λ s t. int_lt s t ≡ true) (row_starts strong initial (Some m) ms)
        → IsPairwise (λ s t. int_lt s t ≡ true) (cond b (m.instant ∷ row_starts strong initial (Some m) ms) (row_starts strong initial (Some m) ms))
    by_case true rest = (starts-behind strong initial (Some m) m.instant ms pairs.0, rest)
    by_case false rest = rest

IsPairwise-begins : (initial : Bool) (starts : List ℤ) → IsPairwise (λ s t. int_lt s t ≡ true) starts
    → IsPairwise (λ b c. begins_after b c ≡ true) (initial_begins initial ++ map begin_at starts)
IsPairwise-begins false starts pairs = IsPairwise-map (λ b c. begins_after b c ≡ true) begin_at starts pairs
IsPairwise-begins true starts pairs = (
  λ b member. let found = IsMember-from_map begin_at starts b member in subst (λ c. begins_after before_all c ≡ true) found.2 refl,
  IsPairwise-map (λ b c. begins_after b c ≡ true) begin_at starts pairs,
)

-- what is made of members in order stands in that order
IsPairwise-filter_map : (h : Begin → Option (Begin × ℤ)) → ((b : Begin) (x : Begin × ℤ) → h b ≡ Some x → x.0 ≡ b) → (bs : List Begin)
    → IsPairwise (λ b c. begins_after b c ≡ true) bs → IsPairwise (λ x y. comes_after x y ≡ true) (filter_map h bs)
IsPairwise-filter_map h same [] pairs = tt
IsPairwise-filter_map h same (b ∷ bs) pairs = by_value (h b) refl (IsPairwise-filter_map h same bs pairs.1)
  where
    by_value : (o : Option (Begin × ℤ)) → h b ≡ o → IsPairwise (λ x y. comes_after x y ≡ true) (filter_map h bs) → IsPairwise (λ x y. comes_after x y ≡ true) (cons_option o (filter_map h bs))
    by_value None is rest = rest
    by_value (Some x) is rest = (
      λ y member.
          let found = IsMember-from_filter_map h bs y member in
          subst (λ c. begins_after c y.0 ≡ true) (sym (same b x is)) (subst (λ c. begins_after b c ≡ true) (sym (same found.0 y found.2)) (pairs.0 found.0 found.1)),
      rest,
    )

broken_from-begin : (line : Timeline) (b : Begin) (x : Begin × ℤ) → broken_from line b (next_break line b) ≡ Some x → x.0 ≡ b
broken_from-begin line b x = by_break (next_break line b)
  where
    by_break : (o : Option ℤ) → broken_from line b o ≡ Some x → x.0 ≡ b
    by_break None is = let no = is in absurd (cc)
    by_break (Some y) is = by_test (line.terminated y) is
      where
        by_test : (c : Bool) → cond c None (Some (b, y)) ≡ Some x → x.0 ≡ b
        by_test true is = let no = is in absurd (cc)
        by_test false is = ap first_of (sym is)
          where
            first_of : Option (Begin × ℤ) → Begin
            first_of None = b
            first_of (Some z) = z.0

-- ---- from one to the next

IsPairwise-from_row : {T : Type 0} (rank : T → ℤ) (marks : List (Mark T)) → IsTrue (is_ascending (mark_before rank) marks)
    → IsPairwise (λ (m n : PlainMark). int_lt m.instant n.instant ≡ true) (plain_marks rank marks)
unfolding is_ascending
IsPairwise-from_row rank [] ascending = tt
IsPairwise-from_row rank (m ∷ marks) ascending =
    let parts = and_parts (list_all (mark_before rank m) marks) (is_ascending (mark_before rank) marks) ascending in (
      λ n member. let found = IsMember-from_map (plain_mark rank) marks n member in subst (λ (k : PlainMark). int_lt (rank m.at) k.instant ≡ true) found.2 (list_all-member (mark_before rank m) marks found.0 parts.0 found.1),
      IsPairwise-from_row rank marks parts.1,
    )

-- the broken begins that are left behind one
abbrev pub left_behind : Option Begin → List (Begin × ℤ) → List (Begin × ℤ)
left_behind after broken = filter (λ b. passes_after after b.0) broken

module _ {T : Type 0} (rank : T → ℤ) (marks : List (Mark T)) (row : IsMarkRow rank marks) (strong initial : Bool) where
  abbrev pub spelt : List (Begin × ℤ)
  spelt = broken_spans_of (plain_marks rank marks) strong initial

  spelt-order : IsPairwise (λ x y. comes_after x y ≡ true) spelt
  spelt-order =
      let line : Timeline = row_timeline (plain_marks rank marks) strong initial in
      IsPairwise-filter_map (λ b. broken_from line b (next_break line b)) (broken_from-begin line) (row_begins (plain_marks rank marks) strong initial)
      (IsPairwise-begins initial (row_starts strong initial None (plain_marks rank marks)) (IsPairwise-row_starts strong initial None (plain_marks rank marks) (IsPairwise-from_row rank marks row.ascending)))

  pub left_behind-next : (after : Option Begin) (x : Begin × ℤ) → Some x ≡ first_after after spelt → left_behind after spelt ≡ x ∷ left_behind (Some x.0) spelt
  left_behind-next after x found = filter-next comes_after (λ b. passes_after after b.0) (passes_after-searched after) spelt spelt-order x (sym found)

pub left_behind-none : (after : Option Begin) (broken : List (Begin × ℤ)) → None ≡ first_after after broken → left_behind after broken ≡ []
left_behind-none after broken none = filter-found_none (λ b. passes_after after b.0) broken (sym none)

pub left_behind-all : (broken : List (Begin × ℤ)) → left_behind None broken ≡ broken
left_behind-all broken = filter-each broken

-- ---- what a row of marks spells, and what the theory says of the property

-- a list of events has no more instants than events
pub instants_of-few : (events : List PlainEvent) → length (instants_of events) ≤ length events
unfolding instants_of
instants_of-few [] = omega arith
instants_of-few (e ∷ events) = with_one e.rank (instants_of events) (instants_of-few events)
  where
    with_one : (t : ℤ) (ts : List ℤ) → length ts ≤ length events → length (with_instant t ts) ≤ length (e ∷ events)
    with_one t [] few = omega arith
    with_one t (u ∷ ts) few = by_test (int_eq t u)
      where
        by_test : (b : Bool) → length (cond b (u ∷ ts) (t ∷ u ∷ ts)) ≤ length (e ∷ events)
        by_test true = omega (arith, few)
        by_test false = omega (arith, few)

initial_begins-few : (initial : Bool) → length (initial_begins initial) ≤ 1
initial_begins-few true = omega arith
initial_begins-few false = omega arith

-- no more begins are broken than there are instants, and one
broken_of-few : (theory : Theory) (events : List PlainEvent) (p : Ground) → length (broken_of theory events p) ≤ length events + 1
unfolding broken_of timeline_of timeline_by
broken_of-few theory events p =
    let line : Timeline = timeline_of theory events p in
    let first = length-filter_map (λ b. broken_from line b (next_break line b)) (begins_of line) in
    let second = length-append (initial_begins line.initial) (map begin_at (filter (is_start line) line.instants)) in
    let third = length-map (filter (is_start line) line.instants) begin_at in
    let fourth = length-filter_le (is_start line) line.instants in
    let fifth = instants_of-few events in
    let sixth = initial_begins-few line.initial in
    omega (arith, first, second, third, fourth, fifth, sixth)

module _ {T : Type 0} (rank : T → ℤ) (theory : Theory) (events : List PlainEvent) (table : List KeptProp) (points : PointTable T) (marked : AreMarkedOf rank theory events table points) where
  module _ (id : ℕ) (p : Ground) (kept : term_at id table ≡ Some p) where
    pub broken_of-kept : broken_spans_of (plain_marks rank (marks_at id points)) (is_strong theory p) (is_initial_at id points) ≡ broken_of theory events p
    broken_of-kept =
        ap (λ ms. broken_spans_of ms (is_strong theory p) (is_initial_at id points)) (marked.marks_of.marks id p kept)
        ∙ ap (broken_spans_of (marks_of theory events p) (is_strong theory p)) (marked.marks_of.initials.initial id p kept)
        ∙ (SpansAreTheIntervals-law theory events p marked.history).1

    pub broken_reply-kept : (canon : Canon) → counted_text (map (broken_text canon) (broken_spans_of (plain_marks rank (marks_at id points)) (is_strong theory p) (is_initial_at id points))) ≡ broken_reply theory events canon p
    unfolding broken_reply
    broken_reply-kept canon = ap (λ bs. counted_text (map (broken_text canon) bs)) broken_of-kept

    pub broken-few : length (broken_spans_of (plain_marks rank (marks_at id points)) (is_strong theory p) (is_initial_at id points)) ≤ 2 ^ 64 - 1
    broken-few =
        let same = ap length broken_of-kept in
        let few = broken_of-few theory events p in
        omega (arith, same, few, marked.few)

    -- a property without marks has no broken begin
    pub broken_reply-unmarked : (canon : Canon) → marks_at id points ≡ [] → decimal 0 ≡ broken_reply theory events canon p
    unfolding broken_reply row_timeline
    broken_reply-unmarked canon none =
        sym (ap (λ bs. counted_text (map (broken_text canon) bs))
        (sym broken_of-kept ∙ ap (λ ms. broken_spans_of (plain_marks rank ms) (is_strong theory p) (is_initial_at id points)) none ∙ unmarked (is_initial_at id points))
        ∙ append-nil (decimal 0))
      where
        unmarked : (initial : Bool) → broken_spans_of [] (is_strong theory p) initial ≡ []
        unmarked true = refl
        unmarked false = refl

  -- and neither has one that is not kept
  pub broken_reply-unkept : (canon : Canon) (p : Ground) → prop_of p table ≡ None → decimal 0 ≡ broken_reply theory events canon p
  unfolding broken_reply
  broken_reply-unkept canon p absent =
      sym (ap (λ bs. counted_text (map (broken_text canon) bs)) (IsUnknown-unkept theory events table p marked.live absent).none_broken ∙ append-nil (decimal 0))

-- what a row spells is known by its marks and the two tests of its property
pub same_spelt : {T : Type 0} (rank : T → ℤ) (marks others : List (Mark T)) (strong strong' initial initial' : Bool) → marks ≡ others → strong ≡ strong' → initial ≡ initial'
    → broken_spans_of (plain_marks rank marks) strong initial ≡ broken_spans_of (plain_marks rank others) strong' initial'
same_spelt rank marks others strong strong' initial initial' first second third =
    ap (λ ms. broken_spans_of (plain_marks rank ms) strong initial) first ∙ ap (λ b. broken_spans_of (plain_marks rank others) b initial) second
    ∙ ap (broken_spans_of (plain_marks rank others) strong') third
