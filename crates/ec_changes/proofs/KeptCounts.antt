-- Counts of the entries of kept events: whole number by whole number, over quiet stretches, and as sums over instants.
use Rattle.std.proofs.Common.{◌≡◌, ℕ, zero, suc, ◌+◌, ℤ, pos, ◌+ℤ◌, Bool, false, not, ◌&&◌, ◌||◌, List, [], ◌∷◌, ◌++◌, length, filter, flat_map, IsTrue, IsFalse, refl, sym, ap, subst, ◌∙◌, ⊎_elim, arith}
use Rattle.std.specs.Prelude.{int_lt, int_le}
use Rattle.std.specs.Bool.{beq}
use Rattle.std.specs.List.{list_any, list_all, sum_by, IsDistinct}
use Rattle.std.specs.Ordering.{int_eq}
use Rattle.std.proofs.lemmas.Bool.{cases_Bool, cond-true, cond-false, false≢true, false_from_ne_true}
use Rattle.std.proofs.lemmas.Bool.Decides.{Decides-int_eq}
use Rattle.std.proofs.lemmas.Int.{ints}
use Rattle.std.proofs.lemmas.List.Elements.{filter-append}
use Rattle.ec_lists.proofs.Booleans.{not-and_same, and-not_same}
use Rattle.ec_lists.proofs.Filters.{filter-filter, filter_comm}
use Rattle.ec_lists.proofs.Integers.{int_lt-from_le_turned}
use Rattle.ec_terms.specs.declared.theory.Theory.{Theory}
use Rattle.ec_terms.specs.Domain.{GroundLiteral}
use Rattle.ec_axioms.specs.Plain.{events_at}
use Rattle.ec_axioms.specs.Calculus.{PlainEvent, Effect, effects_of, is_current}
use Rattle.ec_axioms.specs.Changes.{has_event, kept_events, kept_effects, sees_change, change_counts}
use Rattle.ec_axioms.proofs.Members.{IsMember, IsMember-filter, IsMember-from_filter, filter_all, filter_none, filter_agree, list_all-member, list_any-member, list_any-false}
use Rattle.ec_changes.specs.Differences.{differs, entries_at, reads, IsQuiet, IsQuietStretch}
use Rattle.ec_changes.specs.Turns.{turns_on, turns_off, sees, kept_count}
use Rattle.ec_changes.specs.CountLaws.{KeptCountsGoOn, KeptCountsAreWhole, QuietCountsNothing, CountsAreSums}
use Rattle.ec_changes.proofs.JoinedMembers.{IsMember-from_flat_map, IsMember-flat_map}
use Rattle.ec_changes.proofs.Activity.{event-effects_of, rank-entries_at, reads-literal}
use Rattle.ec_changes.proofs.Tallies.{sum_by-agree, length-by_keys, length-filter_once}
use Rattle.ec_changes.proofs.Quiet.{IsQuiet-same, stretch-differs, quiet-active, add_step, add_none}

-- ---- filters

-- a test that is one of two others, which never both pass, counts as they do together
length-filter_either : {X : Type 0} (p q either test : X → Bool) (xs : List X) → ((x : X) → either x ≡ (p x || q x)) → ((x : X) → (p x && q x) ≡ false)
    → length (filter (λ x. either x && test x) xs) ≡ length (filter (λ x. p x && test x) xs) + length (filter (λ x. q x && test x) xs)
length-filter_either p q either test [] one apart = refl
length-filter_either p q either test (x ∷ xs) one apart =
    let rest = length-filter_either p q either test xs one apart in let here = one x in let never = apart x in grind arith

-- entries whose event passes a test are those of the events that pass it
filter-effects_of : (theory : Theory) (p : PlainEvent → Bool) (events : List PlainEvent)
    → filter (λ effect. p effect.event) (flat_map (effects_of theory) events) ≡ flat_map (effects_of theory) (filter p events)
filter-effects_of theory p [] = refl
filter-effects_of theory p (e ∷ events) =
    let of : (effect : Effect) → IsMember (effects_of theory e) effect → p effect.event ≡ p e = λ effect member. ap p (event-effects_of theory e effect member) in
    filter-append (λ (effect : Effect). p effect.event) (effects_of theory e) (flat_map (effects_of theory) events)
    ∙ ap (λ rest. filter (λ (effect : Effect). p effect.event) (effects_of theory e) ++ rest) (filter-effects_of theory p events)
    ∙ ⊎_elim
    (λ passes.
    ap (λ own. own ++ flat_map (effects_of theory) (filter p events))
    (filter_all (λ (effect : Effect). p effect.event) (effects_of theory e) (λ effect member. of effect member ∙ passes))
    ∙ ap (flat_map (effects_of theory)) (sym (cond-true (p e) (e ∷ filter p events) (filter p events) passes)))
    (λ fails.
    ap (λ own. own ++ flat_map (effects_of theory) (filter p events))
    (filter_none (λ (effect : Effect). p effect.event) (effects_of theory e) (λ effect member. of effect member ∙ fails))
    ∙ ap (flat_map (effects_of theory)) (sym (cond-false (p e) (e ∷ filter p events) (filter p events) fails)))
    (cases_Bool (p e))

-- the kept entries at an instant
kept_effects_at : (theory : Theory) (old new : List PlainEvent) (test : Effect → Bool) (t : ℤ)
    → filter (λ effect. int_eq effect.event.rank t && test effect) (kept_effects theory old new) ≡ filter test (entries_at theory (kept_events old new) t)
unfolding kept_effects
kept_effects_at theory old new test t =
    sym (filter-filter test (λ (effect : Effect). int_eq effect.event.rank t) _ (flat_map (effects_of theory) (kept_events old new)) (λ effect. refl))
    ∙ ap (filter test) (filter-effects_of theory (λ e. int_eq e.rank t) (kept_events old new))

-- ---- counts

-- the law
pub KeptCountsGoOn-law : KeptCountsGoOn
unfolding kept_count
KeptCountsGoOn-law theory old new test t =
    length-filter_either (λ (effect : Effect). int_lt effect.event.rank t) (λ effect. int_eq effect.event.rank t) (λ effect. int_lt effect.event.rank (t +ℤ pos 1)) test
    (kept_effects theory old new) (λ effect. next effect.event.rank) (λ effect. apart effect.event.rank)
    ∙ ap (λ kept. length (filter (λ (effect : Effect). int_lt effect.event.rank t && test effect) (kept_effects theory old new)) + length kept) (kept_effects_at theory old new test t)
  where
    next : (s : ℤ) → int_lt s (t +ℤ pos 1) ≡ (int_lt s t || int_eq s t)
    next s = grind (arith, ints)

    apart : (s : ℤ) → (int_lt s t && int_eq s t) ≡ false
    apart s = grind (arith, ints)

-- a kept entry is of a kept event
event-kept_effects : (theory : Theory) (old new : List PlainEvent) (effect : Effect) → IsMember (kept_effects theory old new) effect → IsMember (kept_events old new) effect.event
unfolding kept_effects
event-kept_effects theory old new effect member =
    let found = IsMember-from_flat_map (effects_of theory) (kept_events old new) effect member in
    subst (IsMember (kept_events old new)) (sym (event-effects_of theory found.0 effect found.2)) found.1

-- the law
pub KeptCountsAreWhole-law : KeptCountsAreWhole
unfolding kept_count
KeptCountsAreWhole-law theory old new test t = (
  λ late. ap length (filter_none (λ (effect : Effect). int_lt effect.event.rank t && test effect) (kept_effects theory old new)
      (λ effect member.
      let not_before = list_all-member (λ (e : PlainEvent). int_le t e.rank) (kept_events old new) effect.event late (event-kept_effects theory old new effect member) in
      ap (λ b. b && test effect) (int_lt-from_le_turned t effect.event.rank not_before))),
  λ early. ap length (filter_agree (λ (effect : Effect). int_lt effect.event.rank t && test effect) test (kept_effects theory old new)
      (λ effect member.
      let before = list_all-member (λ (e : PlainEvent). int_lt e.rank t) (kept_events old new) effect.event early (event-kept_effects theory old new effect member) in
      ap (λ b. b && test effect) before)),
)

-- ---- quiet

-- a kept entry at an instant is an entry of the old list there
IsMember-kept_entries : (theory : Theory) (old new : List PlainEvent) (t : ℤ) (effect : Effect) → IsMember (entries_at theory (kept_events old new) t) effect
    → IsMember (entries_at theory old t) effect
unfolding kept_events
IsMember-kept_entries theory old new t effect member =
    let found = IsMember-from_flat_map (effects_of theory) (events_at t (filter (has_event new) old)) effect member in
    let here = IsMember-from_filter (λ (e : PlainEvent). int_eq e.rank t) (filter (has_event new) old) found.0 found.1 in
    let kept = IsMember-from_filter (has_event new) old found.0 here.0 in
    IsMember-flat_map (effects_of theory) (events_at t old) found.0 effect (IsMember-filter (λ (e : PlainEvent). int_eq e.rank t) old found.0 kept.0 here.1) found.2

-- at a quiet instant no entry sees a change
quiet-unseen : (theory : Theory) (old new : List PlainEvent) (t : ℤ) → IsQuiet theory old new (λ p. differs theory old new p t) t
    → (effect : Effect) → IsMember (entries_at theory old t) effect → IsFalse (sees theory old new effect)
unfolding sees_change differs reads
quiet-unseen theory old new t quiet effect member =
    let changed : GroundLiteral → Bool = λ literal. not (beq (is_current theory old literal.prop effect.event.rank) (is_current theory new literal.prop effect.event.rank)) in
    false_from_ne_true (list_any changed effect.entry.literals)
    (λ seen.
    let found = list_any-member changed effect.entry.literals seen in
    let rank = rank-entries_at theory old t effect member in
    let differ : IsTrue (differs theory old new found.0.prop t) = subst (λ s. IsTrue (not (beq (is_current theory old found.0.prop s) (is_current theory new found.0.prop s)))) rank found.2 in
    false≢true (sym (list_any-false (reads found.0.prop) (entries_at theory old t) effect (quiet.unread found.0.prop differ) member) ∙ reads-literal effect found.0 found.1))

-- so none turns, and the counts go on as they are
kept_count-none : (theory : Theory) (old new : List PlainEvent) (test : Effect → Bool) (t : ℤ)
    → ((effect : Effect) → IsMember (entries_at theory old t) effect → IsFalse (test effect))
    → kept_count theory old new test (t +ℤ pos 1) ≡ kept_count theory old new test t
kept_count-none theory old new test t none =
    let empty : filter test (entries_at theory (kept_events old new) t) ≡ [] =
    filter_none test (entries_at theory (kept_events old new) t) (λ effect member. none effect (IsMember-kept_entries theory old new t effect member)) in
    KeptCountsGoOn-law theory old new test t ∙ add_empty _ _ empty
  where
    add_empty : (n : ℕ) (xs : List Effect) → xs ≡ [] → n + length xs ≡ n
    add_empty n xs none = grind arith

-- a test that passes at no entry of a quiet instant counts nothing over a quiet stretch
kept_count-stretch : (theory : Theory) (old new : List PlainEvent) (test : Effect → Bool)
    → ((t : ℤ) → IsQuiet theory old new (λ p. differs theory old new p t) t → (effect : Effect) → IsMember (entries_at theory old t) effect → IsFalse (test effect))
    → (r : ℤ) (n : ℕ) → IsQuietStretch theory old new r n
    → kept_count theory old new test (r +ℤ pos n) ≡ kept_count theory old new test r
kept_count-stretch theory old new test none r zero quiet = ap (kept_count theory old new test) (add_none r)
kept_count-stretch theory old new test none r (suc n) quiet =
    let here = IsQuiet-same theory old new r (r +ℤ pos n) (stretch-differs theory old new r n (λ k below. quiet k (omega arith))) (quiet n (omega arith)) in
    ap (kept_count theory old new test) (sym (add_step r n))
    ∙ kept_count-none theory old new test (r +ℤ pos n) (none (r +ℤ pos n) here)
    ∙ kept_count-stretch theory old new test none r n (λ k below. quiet k (omega arith))

-- the law
pub QuietCountsNothing-law : QuietCountsNothing
QuietCountsNothing-law theory old new r n quiet = record {
  seen = kept_count-stretch theory old new (sees theory old new) (quiet-unseen theory old new) r n quiet;
  on = kept_count-stretch theory old new (turns_on theory old new)
      (λ t here effect member. not-and_same _ _ (quiet-active theory old new t here effect member)) r n quiet;
  off = kept_count-stretch theory old new (turns_off theory old new)
      (λ t here effect member. and-not_same _ _ (quiet-active theory old new t here effect member)) r n quiet;
}

-- ---- sums

-- the kept entries that pass a test are those at each instant, together
kept_effects-sum : (theory : Theory) (old new : List PlainEvent) (test : Effect → Bool) (instants : List ℤ) → IsDistinct int_eq instants
    → IsTrue (list_all (λ e. list_any (int_eq e.rank) instants) (kept_events old new))
    → length (filter test (kept_effects theory old new)) ≡ sum_by (λ t. length (filter test (entries_at theory (kept_events old new) t))) instants
kept_effects-sum theory old new test instants once there =
    length-by_keys (λ t effect. int_eq effect.event.rank t) instants (filter test (kept_effects theory old new))
    (λ effect member.
    let kept = IsMember-from_filter test (kept_effects theory old new) effect member in
    let event = event-kept_effects theory old new effect kept.0 in
    length-filter_once int_eq Decides-int_eq instants effect.event.rank once (list_all-member (λ (e : PlainEvent). list_any (int_eq e.rank) instants) (kept_events old new) effect.event there event))
    ∙ sum_by-agree _ _ instants
    (λ t member. ap length
    (filter_comm (λ (effect : Effect). int_eq effect.event.rank t) test (kept_effects theory old new)
    ∙ filter-filter test (λ (effect : Effect). int_eq effect.event.rank t) _ (kept_effects theory old new) (λ effect. refl)
    ∙ kept_effects_at theory old new test t))

-- the law
pub CountsAreSums-law : CountsAreSums
unfolding change_counts
CountsAreSums-law theory old new instants once there = record {
  seen = kept_effects-sum theory old new (sees theory old new) instants once there;
  on = kept_effects-sum theory old new (turns_on theory old new) instants once there;
  off = kept_effects-sum theory old new (turns_off theory old new) instants once there;
}
