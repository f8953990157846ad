-- Intervals in the order of their begins: those of a property ascend, and one more is put into its place.
use Rattle.std.proofs.Common.{◌≡◌, ◌⊎◌, ℤ, Bool, true, false, cond, List, [], ◌∷◌, map, filter, filter_map, Option, Some, None, IsTrue, refl, sym, ap, subst, ◌∙◌, inl, inr, ⊎_elim}
use Rattle.std.specs.Prelude.{int_lt}
use Rattle.std.specs.List.{cons_option}
use Rattle.std.proofs.lemmas.Bool.{cond_both, false≢true}
use Rattle.ec_lists.proofs.Integers.{int_lt-same, int_lt-trans}
use Rattle.ec_terms.specs.declared.ground.Ground.{Ground}
use Rattle.ec_terms.specs.declared.theory.Theory.{Theory}
use Rattle.ec_axioms.specs.Timeline.{Begin, before_all, begin_at, Interval, Timeline, begins_of, initial_begins, interval_from, intervals_on, is_start, next_break}
use Rattle.ec_axioms.specs.Calculus.{PlainEvent, intervals_of, timeline_of, timeline_by}
use Rattle.ec_axioms.specs.Changes.{is_history}
use Rattle.ec_axioms.proofs.Instants.{is_ascending, is_ascending-instants_of, IsPairwise-from_ascending}
use Rattle.ec_axioms.proofs.Members.{IsMember, IsMember-from_map, IsMember-from_filter_map, IsPairwise, IsPairwise-filter, IsPairwise-map}
use Rattle.ec_changes.proofs.Hits.{IsPairwise-append}
use Rattle.ec_replies.specs.Notes.{begins_before, with_interval}

-- ---- begins

-- none comes before itself
begins_before-itself : (b : Begin) → IsTrue (begins_before b b) → ⊥
begins_before-itself before_all before = false≢true before
begins_before-itself (begin_at s) before = false≢true (sym (int_lt-same s) ∙ before)

-- what comes before another comes before all behind it
begins_before-trans : (a b c : Begin) → IsTrue (begins_before a b) → IsTrue (begins_before b c) → IsTrue (begins_before a c)
begins_before-trans before_all before_all c first second = absurd (false≢true first)
begins_before-trans before_all (begin_at s) before_all first second = absurd (false≢true second)
begins_before-trans before_all (begin_at s) (begin_at t) first second = refl
begins_before-trans (begin_at r) before_all c first second = absurd (false≢true first)
begins_before-trans (begin_at r) (begin_at s) before_all first second = absurd (false≢true second)
begins_before-trans (begin_at r) (begin_at s) (begin_at t) first second = int_lt-trans r s t first second

-- ---- intervals

-- an interval begins before another
abbrev pub Precedes : Interval → Interval → Type 0
Precedes i j = IsTrue (begins_before i.from j.from)

pub Precedes-itself : (i : Interval) → Precedes i i → ⊥
Precedes-itself i before = begins_before-itself i.from before

Precedes-trans : (i j k : Interval) → Precedes i j → Precedes j k → Precedes i k
Precedes-trans i j k first second = begins_before-trans i.from j.from k.from first second

pub Precedes-one_way : (i j : Interval) → Precedes i j → Precedes j i → ⊥
Precedes-one_way i j before after = Precedes-itself i (Precedes-trans i j i before after)

-- of two of ascending intervals one comes before the other, unless they are one
pub Precedes-cases : (intervals : List Interval) (i j : Interval) → IsPairwise Precedes intervals → IsMember intervals i → IsMember intervals j
    → (i ≡ j) ⊎ (Precedes i j ⊎ Precedes j i)
Precedes-cases [] i j ascend in_i in_j = absurd in_i
Precedes-cases (k ∷ intervals) i j ascend (inl same) (inl also) = inl (sym same ∙ also)
Precedes-cases (k ∷ intervals) i j ascend (inl same) (inr later) = inr (inl (subst (λ w. Precedes w j) same (ascend.0 j later)))
Precedes-cases (k ∷ intervals) i j ascend (inr later) (inl same) = inr (inr (subst (λ w. Precedes w i) same (ascend.0 i later)))
Precedes-cases (k ∷ intervals) i j ascend (inr earlier) (inr later) = Precedes-cases intervals i j ascend.1 earlier later

-- ---- the intervals of a property

-- what a function gives for members in an order
IsPairwise-filter_map : {X Y : Type 0} (R : X → X → Type 0) (S : Y → Y → Type 0) (h : X → Option Y) (xs : List X) → IsPairwise R xs
    → ((x z : X) (a b : Y) → R x z → h x ≡ Some a → h z ≡ Some b → S a b) → IsPairwise S (filter_map h xs)
IsPairwise-filter_map R S h [] pairs each = tt
IsPairwise-filter_map {X} {Y} R S h (x ∷ xs) pairs each = by_value (h x) refl (IsPairwise-filter_map R S h xs pairs.1 each)
  where
    by_value : (o : Option Y) → h x ≡ o → IsPairwise S (filter_map h xs) → IsPairwise S (cons_option o (filter_map h xs))
    by_value None is rest = rest
    by_value (Some a) is rest = (λ b member. let found = IsMember-from_filter_map h xs b member in each x found.0 a b (pairs.0 found.0 found.1) is found.2, rest)

-- an interval begins where it is said to
interval_from-begin : (line : Timeline) (begin : Begin) (next : Option ℤ) (i : Interval) → interval_from line begin next ≡ Some i → i.from ≡ begin
interval_from-begin line begin None i is = let same : record { from = begin; until = None } ≡ i = cc in sym (ap (λ (j : Interval). j.from) same)
interval_from-begin line begin (Some x) i is = by_test (line.terminated x) is
  where
    by_test : (ends : Bool) → cond {A = Option Interval} ends (Some (record { from = begin; until = Some x })) None ≡ Some i → i.from ≡ begin
    by_test true is = let same : record { from = begin; until = Some x } ≡ i = cc in sym (ap (λ (j : Interval). j.from) same)
    by_test false is = cc

-- the begins of a timeline ascend
IsPairwise-begins : (line : Timeline) → IsTrue (is_ascending line.instants) → IsPairwise (λ b c. IsTrue (begins_before b c)) (begins_of line)
IsPairwise-begins line ascending =
    IsPairwise-append (λ b c. IsTrue (begins_before b c)) (initial_begins line.initial) (map begin_at (filter (is_start line) line.instants))
    (initial line.initial)
    (IsPairwise-map (λ b c. IsTrue (begins_before b c)) begin_at (filter (is_start line) line.instants)
    (IsPairwise-filter (λ s t. IsTrue (int_lt s t)) (is_start line) line.instants (IsPairwise-from_ascending line.instants ascending)))
    (λ b c in_first in_rest. across line.initial b c in_first in_rest)
  where
    initial : (b : Bool) → IsPairwise (λ b c. IsTrue (begins_before b c)) (initial_begins b)
    initial true = (λ c member. absurd member, tt)
    initial false = tt

    across : (is_initial : Bool) (b c : Begin) → IsMember (initial_begins is_initial) b → IsMember (map begin_at (filter (is_start line) line.instants)) c → IsTrue (begins_before b c)
    across false b c in_first in_rest = absurd in_first
    across true b c (inr none) in_rest = absurd none
    across true b c (inl same) in_rest =
        let found = IsMember-from_map begin_at (filter (is_start line) line.instants) c in_rest in
        subst (λ w. IsTrue (begins_before w c)) same (subst (λ w. IsTrue (begins_before before_all w)) found.2 refl)

-- so its intervals ascend, and those of a property in a history do
IsPairwise-intervals_on : (line : Timeline) → IsTrue (is_ascending line.instants) → IsPairwise Precedes (intervals_on line)
IsPairwise-intervals_on line ascending =
    IsPairwise-filter_map (λ b c. IsTrue (begins_before b c)) Precedes (λ begin. interval_from line begin (next_break line begin)) (begins_of line)
    (IsPairwise-begins line ascending)
    (λ b c i j before first second. subst (λ w. IsTrue (begins_before w j.from)) (sym (interval_from-begin line b (next_break line b) i first))
    (subst (λ w. IsTrue (begins_before b w)) (sym (interval_from-begin line c (next_break line c) j second)) before))

pub IsPairwise-intervals_of : (theory : Theory) (events : List PlainEvent) (p : Ground) → IsTrue (is_history events) → IsPairwise Precedes (intervals_of theory events p)
unfolding intervals_of timeline_of timeline_by
IsPairwise-intervals_of theory events p history = IsPairwise-intervals_on (timeline_of theory events p) (is_ascending-instants_of events history)

-- ---- one interval more

-- the members are the new one and the old ones
pub IsMember-from_with_interval : (intervals : List Interval) (i k : Interval) → IsMember (with_interval intervals i) k → (i ≡ k) ⊎ IsMember intervals k
unfolding with_interval
IsMember-from_with_interval [] i k = λ member. member
IsMember-from_with_interval (j ∷ intervals) i k =
    cond_both (begins_before i.from j.from) (i ∷ j ∷ intervals) (j ∷ with_interval intervals i)
    (λ list. IsMember list k → (i ≡ k) ⊎ IsMember (j ∷ intervals) k)
    (λ _ member. member)
    (λ _. ⊎_elim (λ first. inr (inl first)) (λ later. ⊎_elim (λ new. inl new) (λ old. inr (inr old)) (IsMember-from_with_interval intervals i k later)))

pub IsMember-with_interval : (intervals : List Interval) (i k : Interval) → (i ≡ k) ⊎ IsMember intervals k → IsMember (with_interval intervals i) k
unfolding with_interval
IsMember-with_interval [] i k member = member
IsMember-with_interval (j ∷ intervals) i k member =
    cond_both (begins_before i.from j.from) (i ∷ j ∷ intervals) (j ∷ with_interval intervals i)
    (λ list. IsMember list k)
    (λ _. member)
    (λ _. ⊎_elim (λ new. inr (IsMember-with_interval intervals i k (inl new)))
    (⊎_elim (λ first. inl first) (λ later. inr (IsMember-with_interval intervals i k (inr later)))) member)

-- they ascend, where the new one comes before or behind each
pub IsPairwise-with_interval : (intervals : List Interval) (i : Interval) → IsPairwise Precedes intervals
    → ((j : Interval) → IsMember intervals j → Precedes i j ⊎ Precedes j i) → IsPairwise Precedes (with_interval intervals i)
unfolding with_interval
IsPairwise-with_interval [] i ascend apart = (λ k member. absurd member, tt)
IsPairwise-with_interval (j ∷ intervals) i ascend apart =
    cond_both (begins_before i.from j.from) (i ∷ j ∷ intervals) (j ∷ with_interval intervals i)
    (IsPairwise Precedes)
    (λ before. (λ k. ⊎_elim (λ same. subst (Precedes i) same before) (λ later. Precedes-trans i j k before (ascend.0 k later)), ascend))
    (λ not_before. (
      λ k member. ⊎_elim (λ new. subst (Precedes j) new (behind not_before)) (λ old. ascend.0 k old) (IsMember-from_with_interval intervals i k member),
      IsPairwise-with_interval intervals i ascend.1 (λ k later. apart k (inr later)),
    ))
  where
    behind : begins_before i.from j.from ≡ false → Precedes j i
    behind not_before = ⊎_elim (λ before. absurd (false≢true (sym not_before ∙ before))) (λ after. after) (apart j (inl refl))
