-- The entries at an instant that see a change, listed in any order, count all that turns there.
use Rattle.std.proofs.Common.{◌≡◌, ℕ, ◌+◌, ◌≤◌, ℤ, Bool, true, false, not, ◌&&◌, List, [], ◌∷◌, ◌++◌, length, map, filter, flat_map, Some, None, IsTrue, IsFalse, refl, sym, ap, ap₂, subst, ◌∙◌, inl, inr, ⊎_elim, arith}
use Rattle.std.specs.Prelude.{◌==◌}
use Rattle.std.specs.Cmp.{IsEquivalence}
use Rattle.std.specs.List.{IsDistinct, cons_option}
use Rattle.std.specs.Ordering.{int_eq}
use Rattle.std.proofs.lemmas.Bool.{cases_Bool, cond_both, and_parts, and_from, and_left, and_right, false≢true, false_from_ne_true, eqb-true, eq-eqb}
use Rattle.std.proofs.lemmas.Bool.Decides.{nat_tests}
use Rattle.ec_lists.proofs.Filters.{filter-filter}
use Rattle.ec_terms.specs.declared.ground.Ground.{Ground}
use Rattle.ec_terms.specs.declared.theory.Rule.{Rule}
use Rattle.ec_terms.specs.declared.theory.Theory.{Theory}
use Rattle.ec_terms.specs.Matching.{filled, binding_of}
use Rattle.ec_terms.specs.Domain.{GroundEntry, entries_of, entries_from, entry_of, meets, ground_literal_of}
use Rattle.ec_axioms.specs.Plain.{events_at}
use Rattle.ec_axioms.specs.Calculus.{PlainEvent, Effect, effects_of, effects_at, is_current}
use Rattle.ec_axioms.specs.Changes.{is_history, comes_before, event_eq, has_event, kept_events, events_only_in}
use Rattle.ec_axioms.proofs.Members.{IsMember, IsMember-append_cases, IsMember-from_contains, Contains-from_member, IsPairwise, IsPairwise-filter, IsPairwise-map, IsPairwise-weaker, filter_all}
use Rattle.ec_changes.specs.Differences.{entries_at}
use Rattle.ec_changes.specs.Turns.{kept_entries_at, turns_on, turns_off, sees, gained, lost, same_entry, ListsSeen}
use Rattle.ec_changes.specs.TurnLaws.{IsCountedBy, SeenInAnyOrder}
use Rattle.ec_changes.proofs.JoinedMembers.{IsMember-from_flat_map}
use Rattle.ec_changes.proofs.Activity.{event-effects_of}
use Rattle.ec_changes.proofs.KeptEvents.{event_eq-is, event_eq-same, comes_before-itself, IsPairwise-from_history}
use Rattle.ec_changes.proofs.DistinctLists.{IsDistinct-from_pairwise, length-filter_listing}
use Rattle.ec_changes.proofs.TurnAccounts.{UnseenStays-law}

-- ---- the entries of an event

-- each has the number of the first rule or a later one
entries_from-number : (number : ℕ) (rules : List Rule) (event : Ground) (entry : GroundEntry) → IsMember (entries_from number rules event) entry → number ≤ entry.rule
unfolding entries_from entry_of
entries_from-number number [] event entry = λ member. absurd member
entries_from-number number (rule ∷ rules) event entry =
    let rest = entries_from (number + 1) rules event in
    let later : IsMember rest entry → number ≤ entry.rule = λ member. let above = entries_from-number (number + 1) rules event entry member in omega arith in
    cond_both (meets rule event) (Some (made number rule event)) None
    (λ o. IsMember (cons_option o rest) entry → number ≤ entry.rule)
    (λ _. ⊎_elim (λ same. let own : number ≡ entry.rule = ap (λ (e : GroundEntry). e.rule) same in omega arith) later)
    (λ _. later)
  where
    made : ℕ → Rule → Ground → GroundEntry
    made number rule event =
        let values = binding_of rule.event event in
        record { rule = number; kind = rule.kind; head = filled values rule.head; literals = map (ground_literal_of values) rule.literals }

-- no two have the same
entries_from-apart : (number : ℕ) (rules : List Rule) (event : Ground) → IsPairwise (λ (a b : GroundEntry). IsFalse (a.rule == b.rule)) (entries_from number rules event)
unfolding entries_from entry_of
entries_from-apart number [] event = tt
entries_from-apart number (rule ∷ rules) event =
    let rest = entries_from (number + 1) rules event in
    let values = binding_of rule.event event in
    cond_both (meets rule event)
    (Some (record { rule = number; kind = rule.kind; head = filled values rule.head; literals = map (ground_literal_of values) rule.literals })) None
    (λ o. IsPairwise (λ (a b : GroundEntry). IsFalse (a.rule == b.rule)) (cons_option o rest))
    (λ _. (λ b later. let above = entries_from-number (number + 1) rules event b later in below number b.rule above, entries_from-apart (number + 1) rules event))
    (λ _. entries_from-apart (number + 1) rules event)
  where
    below : (m n : ℕ) → m + 1 ≤ n → (m == n) ≡ false
    below m n above = grind (arith, nat_tests)

-- ---- lists joined

-- members in an order, of two lists joined
pub IsPairwise-append : {X : Type 0} (R : X → X → Type 0) (xs ys : List X) → IsPairwise R xs → IsPairwise R ys
    → ((x y : X) → IsMember xs x → IsMember ys y → R x y) → IsPairwise R (xs ++ ys)
IsPairwise-append R [] ys left right across = right
IsPairwise-append R (x ∷ xs) ys left right across = (
  λ y. λ member. ⊎_elim (λ in_left. left.0 y in_left) (λ in_right. across x y (inl refl) in_right) (IsMember-append_cases xs ys y member),
  IsPairwise-append R xs ys left.1 right (λ a b in_left in_right. across a b (inr in_left) in_right),
)

-- and of what a function gives for members in an order
IsPairwise-flat_map : {X Y : Type 0} (R : X → X → Type 0) (S : Y → Y → Type 0) (f : X → List Y) (xs : List X) → IsPairwise R xs
    → ((x : X) → IsPairwise S (f x)) → ((x z : X) (a b : Y) → R x z → IsMember (f x) a → IsMember (f z) b → S a b) → IsPairwise S (flat_map f xs)
IsPairwise-flat_map R S f [] pairs each across = tt
IsPairwise-flat_map R S f (x ∷ xs) pairs each across =
    IsPairwise-append S (f x) (flat_map f xs) (each x) (IsPairwise-flat_map R S f xs pairs.1 each across)
    (λ a b own other. let found = IsMember-from_flat_map f xs b other in across x found.0 a b (pairs.0 found.0 found.1) own found.2)

-- ---- the entries at an instant

-- sameness of entries is an equivalence
same_entry-IsEquivalence : IsEquivalence same_entry
unfolding same_entry
same_entry-IsEquivalence = record {
  refl = λ x. and_from _ _ (event_eq-same x.event) (eq-eqb x.entry.rule x.entry.rule refl);
  symm = λ x y. both_ways x y;
  congr = λ x y z same. congr x y z same;
}
  where
    turned : (x y : Effect) → IsTrue (event_eq x.event y.event && x.entry.rule == y.entry.rule) → IsTrue (event_eq y.event x.event && y.entry.rule == x.entry.rule)
    turned x y same =
        let parts = and_parts (event_eq x.event y.event) (x.entry.rule == y.entry.rule) same in
        and_from _ _ (subst (λ e. IsTrue (event_eq y.event e)) (sym (event_eq-is x.event y.event parts.0)) (event_eq-same y.event))
        (eq-eqb y.entry.rule x.entry.rule (sym (eqb-true x.entry.rule y.entry.rule parts.1)))

    both_ways : (x y : Effect) → (event_eq x.event y.event && x.entry.rule == y.entry.rule) ≡ (event_eq y.event x.event && y.entry.rule == x.entry.rule)
    both_ways x y =
        ⊎_elim (λ same. same ∙ sym (turned x y same))
        (λ apart. apart ∙ sym (false_from_ne_true _ (λ same. false≢true (sym apart ∙ turned y x same))))
        (cases_Bool (event_eq x.event y.event && x.entry.rule == y.entry.rule))

    congr : (x y z : Effect) → IsTrue (event_eq x.event y.event && x.entry.rule == y.entry.rule)
        → (event_eq x.event z.event && x.entry.rule == z.entry.rule) ≡ (event_eq y.event z.event && y.entry.rule == z.entry.rule)
    congr x y z same =
        let parts = and_parts (event_eq x.event y.event) (x.entry.rule == y.entry.rule) same in
        ap₂ (λ e n. event_eq e z.event && n == z.entry.rule) (event_eq-is x.event y.event parts.0) (eqb-true x.entry.rule y.entry.rule parts.1)

-- the entries of one event are apart
effects_of-apart : (theory : Theory) (e : PlainEvent) → IsPairwise (λ a b. IsFalse (same_entry a b)) (effects_of theory e)
unfolding effects_of same_entry
effects_of-apart theory e =
    IsPairwise-map (λ a b. IsFalse (same_entry a b)) (λ (entry : GroundEntry). record { event = e; entry = entry }) (entries_of theory e.term)
    (IsPairwise-weaker (λ (a b : GroundEntry). IsFalse (a.rule == b.rule)) _ (entries_of theory e.term) (entries_from-apart 1 theory.rules e.term)
    (λ a b left right apart. and_right (event_eq e e) (a.rule == b.rule) apart))

-- and so are those of a history at an instant
entries_at-apart : (theory : Theory) (events : List PlainEvent) (t : ℤ) → IsPairwise (λ e f. IsTrue (comes_before e f)) events
    → IsPairwise (λ a b. IsFalse (same_entry a b)) (entries_at theory events t)
unfolding same_entry
entries_at-apart theory events t ordered =
    IsPairwise-flat_map (λ e f. IsTrue (comes_before e f)) (λ a b. IsFalse (same_entry a b)) (effects_of theory) (events_at t events)
    (IsPairwise-filter (λ e f. IsTrue (comes_before e f)) (λ e. int_eq e.rank t) events ordered)
    (effects_of-apart theory)
    (λ e f a b before own other.
    and_left (event_eq a.event b.event) (a.entry.rule == b.entry.rule)
    (false_from_ne_true (event_eq a.event b.event)
    (λ same.
    let one : e ≡ f = sym (event-effects_of theory e a own) ∙ event_eq-is a.event b.event same ∙ event-effects_of theory f b other in
    comes_before-itself f (subst (λ g. IsTrue (comes_before g f)) one before))))

-- ---- the listing

module _ (theory : Theory) (old new : List PlainEvent) (t : ℤ) (seen : List Effect) (history : IsTrue (is_history old)) (lists : ListsSeen theory old new t seen) where
  abbrev there : List Effect
  there = entries_at theory (kept_events old new) t

  -- no entry there stands twice
  there-once : IsDistinct same_entry there
  unfolding kept_events
  there-once =
      IsDistinct-from_pairwise same_entry there
      (entries_at-apart theory (kept_events old new) t
      (IsPairwise-filter (λ e f. IsTrue (comes_before e f)) (has_event new) old (IsPairwise-from_history old history)))

  -- a test that only entries that see a change pass counts in the listing what it counts there
  counted : (narrow : Effect → Bool) → ((effect : Effect) → IsTrue (narrow effect) → IsTrue (sees theory old new effect))
      → length (filter narrow there) ≡ length (filter narrow seen)
  counted narrow wider =
      length-filter_listing same_entry-IsEquivalence (sees theory old new) narrow there seen there-once lists.once wider
      (λ effect member. IsMember-from_contains there effect (lists.kept effect (Contains-from_member seen effect member)).0)
      (λ effect member sees_it. lists.all effect (Contains-from_member there effect member) sees_it)

  -- an entry that turns sees a change
  on-sees : (effect : Effect) → IsTrue (turns_on theory old new effect) → IsTrue (sees theory old new effect)
  on-sees effect turned =
      ⊎_elim (λ sees_it. sees_it)
      (λ unseen. absurd (differ_on _ _ (UnseenStays-law theory old new effect unseen) turned))
      (cases_Bool (sees theory old new effect))
    where
      differ_on : (before after : Bool) → before ≡ after → (not before && after) ≡ true → ⊥
      differ_on true after same turned = false≢true turned
      differ_on false after same turned = false≢true (same ∙ turned)

  off-sees : (effect : Effect) → IsTrue (turns_off theory old new effect) → IsTrue (sees theory old new effect)
  off-sees effect turned =
      ⊎_elim (λ sees_it. sees_it)
      (λ unseen. absurd (differ_off _ _ (UnseenStays-law theory old new effect unseen) turned))
      (cases_Bool (sees theory old new effect))
    where
      differ_off : (before after : Bool) → before ≡ after → (before && not after) ≡ true → ⊥
      differ_off true true same turned = false≢true turned
      differ_off true false same turned = false≢true (sym same)
      differ_off false after same turned = false≢true turned

  -- what turns of the entries that pass a test
  turned_by : (turns : Effect → Bool) (wanted : GroundEntry → Bool) → ((effect : Effect) → IsTrue (turns effect) → IsTrue (sees theory old new effect))
      → length (filter turns (kept_entries_at theory old new wanted t)) ≡ length (filter (λ effect. wanted effect.entry && turns effect) seen)
  turned_by turns wanted wider =
      ap length (filter-filter turns (λ (effect : Effect). wanted effect.entry) (λ effect. wanted effect.entry && turns effect) there (λ effect. refl))
      ∙ counted (λ effect. wanted effect.entry && turns effect) (λ effect both. wider effect (and_parts (wanted effect.entry) (turns effect) both).1)

  pub counted_by : IsCountedBy theory old new t seen
  unfolding gained lost
  counted_by = record {
    seen_there = counted (sees theory old new) (λ effect sees_it. sees_it)
        ∙ ap length (filter_all (sees theory old new) seen (λ effect member. (lists.kept effect (Contains-from_member seen effect member)).1));
    on = counted (turns_on theory old new) on-sees;
    off = counted (turns_off theory old new) off-sees;
    gained_by = λ wanted. ap (λ n. n + length (effects_at theory (events_only_in new old) (is_current theory new) wanted t)) (turned_by (turns_on theory old new) wanted on-sees);
    lost_by = λ wanted. ap (λ n. n + length (effects_at theory (events_only_in old new) (is_current theory old) wanted t)) (turned_by (turns_off theory old new) wanted off-sees);
  }

-- the law
pub SeenInAnyOrder-law : SeenInAnyOrder
SeenInAnyOrder-law = counted_by
