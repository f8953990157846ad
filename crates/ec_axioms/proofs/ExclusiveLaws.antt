-- A property is broken wherever one that is exclusive to it begins, in both directions; and what nothing is exclusive to is ended by terminations alone,
-- unless it is strong.
use Rattle.std.proofs.Common.{◌≡◌, ℤ, Bool, List, filter, flat_map, IsTrue, IsFalse, sym, subst, arith}
use Rattle.std.specs.Ordering.{int_eq}
use Rattle.std.proofs.lemmas.Bool.{and_parts, and_from, both_ways, false_from_ne_true}
use Rattle.ec_terms.specs.declared.ground.Ground.{Ground}
use Rattle.ec_terms.specs.declared.theory.Theory.{Theory}
use Rattle.ec_terms.specs.Term.{term_eq}
use Rattle.ec_terms.specs.Domain.{GroundEntry, are_exclusive, is_strong}
use Rattle.ec_axioms.specs.Calculus.{PlainEvent, Effect, Currency, effects_of, effects_at, has_effect, has_break, is_active, is_initiated, timeline_by, timeline_of, is_current, is_initiating, is_clashing}
use Rattle.ec_axioms.proofs.Members.{IsMember-filter, IsMember-from_filter, length_member, member_length}
use Rattle.ec_axioms.proofs.TimelineLaws.{IsBrokenBy, initiated_at}
use Rattle.ec_terms.proofs.OrderLemmas.{term_eq-Decides}

-- ---- clashes

-- an entry that initiates q has it for its head
head_of_initiating : (q : Ground) (entry : GroundEntry) → IsTrue (is_initiating q entry) → entry.head ≡ q
unfolding is_initiating
head_of_initiating q entry initiating = (term_eq-Decides entry.head q).0 (and_parts _ (term_eq entry.head q) initiating).1

-- and clashes with each property that is exclusive to q
clashing_from_initiating : (theory : Theory) (p q : Ground) → IsTrue (are_exclusive theory p q) → (entry : GroundEntry)
    → IsTrue (is_initiating q entry) → IsTrue (is_clashing theory p entry)
unfolding is_clashing
clashing_from_initiating theory p q exclusive entry initiating =
    let head = sym (head_of_initiating q entry initiating) in
    and_from (is_initiating entry.head entry) (are_exclusive theory p entry.head)
    (subst (λ r. IsTrue (is_initiating r entry)) head initiating) (subst (λ r. IsTrue (are_exclusive theory p r)) head exclusive)

-- an effect of one kind is an effect of each wider kind
has_effect-wider : (theory : Theory) (events : List PlainEvent) (current : Currency) (narrow wide : GroundEntry → Bool) (t : ℤ)
    → ((entry : GroundEntry) → IsTrue (narrow entry) → IsTrue (wide entry)) → IsTrue (has_effect theory events current narrow t)
    → IsTrue (has_effect theory events current wide t)
unfolding has_effect effects_at
has_effect-wider theory events current narrow wide t wider some =
    let all = flat_map (effects_of theory) (filter (λ e. int_eq e.rank t) events) in
    let found = member_length (effects_at theory events current narrow t) some in
    let active = IsMember-from_filter (is_active current) (filter (λ effect. narrow effect.entry) all) found.0 found.1 in
    let kept = IsMember-from_filter (λ (effect : Effect). narrow effect.entry) all found.0 active.0 in
    length_member (effects_at theory events current wide t) found.0
    (IsMember-filter (is_active current) (filter (λ effect. wide effect.entry) all) found.0
    (IsMember-filter (λ (effect : Effect). wide effect.entry) all found.0 kept.0 (wider found.0.entry kept.1)) active.1)

-- a property breaks where one that is exclusive to it is initiated
has_break-exclusive : (theory : Theory) (events : List PlainEvent) (current : Currency) (p q : Ground) (t : ℤ) → IsTrue (are_exclusive theory p q)
    → IsTrue (is_initiated theory events current q t) → IsTrue (has_break theory events current p t)
unfolding has_break
has_break-exclusive theory events current p q t exclusive initiated =
    let clash = has_effect-wider theory events current (is_initiating q) (is_clashing theory p) t (clashing_from_initiating theory p q exclusive) initiated in grind arith

-- So the timeline of a property is broken by that of each one that is exclusive to it.
pub IsBrokenBy-timeline_of : (theory : Theory) (events : List PlainEvent) (p q : Ground) → IsTrue (are_exclusive theory p q)
    → IsBrokenBy (timeline_of theory events p) (timeline_of theory events q)
unfolding timeline_of timeline_by
IsBrokenBy-timeline_of theory events p q exclusive s begin =
    (begin.0, has_break-exclusive theory events (is_current theory events) p q s exclusive (initiated_at (timeline_of theory events q) s begin))

-- ---- what nothing is exclusive to

-- what nothing is exclusive to has no clash
has_no_clash : (theory : Theory) (events : List PlainEvent) (current : Currency) (p : Ground) (t : ℤ) → ((q : Ground) → IsFalse (are_exclusive theory p q))
    → IsFalse (has_effect theory events current (is_clashing theory p) t)
unfolding has_effect effects_at is_clashing
has_no_clash theory events current p t none =
    false_from_ne_true (has_effect theory events current (is_clashing theory p) t) clash
  where
    clash : IsTrue (has_effect theory events current (is_clashing theory p) t) → ⊥
    clash some =
        let all = flat_map (effects_of theory) (filter (λ e. int_eq e.rank t) events) in
        let found = member_length (effects_at theory events current (is_clashing theory p) t) some in
        let active = IsMember-from_filter (is_active current) (filter (λ effect. is_clashing theory p effect.entry) all) found.0 found.1 in
        let kept = IsMember-from_filter (λ (effect : Effect). is_clashing theory p effect.entry) all found.0 active.0 in
        both_ways (are_exclusive theory p found.0.entry.head) (none found.0.entry.head) (and_parts _ (are_exclusive theory p found.0.entry.head) kept.1).1

-- so where it is not strong, each of its breaks is a termination
pub break-terminated : (theory : Theory) (events : List PlainEvent) (p : Ground) → ((q : Ground) → IsFalse (are_exclusive theory p q)) → IsFalse (is_strong theory p)
    → (t : ℤ) → IsTrue ((timeline_of theory events p).breaks t) → IsTrue ((timeline_of theory events p).terminated t)
unfolding timeline_of timeline_by has_break
break-terminated theory events p none weak t breaks = let clash = has_no_clash theory events (is_current theory events) p t none in grind arith
