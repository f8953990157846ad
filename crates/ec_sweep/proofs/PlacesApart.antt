-- Entries of a store's events stand each at one place of one slot.
use Rattle.std.proofs.Common.{◌≡◌, ◌<◌, ℕ, ℤ, List, [], ◌∷◌, map, get_or, Option, Some, None, IsTrue, refl, sym, ap, subst, ◌∙◌, ◌⊎◌, inl, inr, ⊎_elim, arith}
use Rattle.std.specs.Prelude.{option_map, slice_get, unwrap_or}
use Rattle.std.specs.List.Sorted.{IsStrictlyIncreasing}
use Rattle.std.proofs.lemmas.List.Kept.{AllPairs-from_increasing}
use Rattle.std.proofs.lemmas.Option.{none-some, slice_get-map, slice_get_within, get_or_from_slice_get}
use Rattle.ec_terms.specs.declared.ids.Slot.{Slot}
use Rattle.ec_terms.specs.declared.theory.Theory.{Theory}
use Rattle.ec_terms.specs.Domain.{GroundEntry, entries_of}
use Rattle.ec_terms.proofs.DomainLemmas.{entries_of-ascend}
use Rattle.ec_axioms.specs.declared.event.Event.{Event}
use Rattle.ec_axioms.specs.Calculus.{PlainEvent, Effect, effects_of}
use Rattle.ec_axioms.specs.Changes.{comes_before, is_history}
use Rattle.ec_axioms.specs.Events.{event_of}
use Rattle.ec_axioms.proofs.Members.{IsMember, IsMember-map, IsPairwise}
use Rattle.ec_changes.proofs.KeptEvents.{IsPairwise-from_history, comes_before-itself}
use Rattle.ec_store.specs.Store.{Kept, event_at, history_of, plain_of}
use Rattle.ec_store.proofs.EventLemmas.{kept_under}

-- ---- places in a list

-- numbers that rise stand there once
rise_once : (xs : List ℕ) → IsStrictlyIncreasing xs → (i j x : ℕ) → slice_get xs i ≡ Some x → slice_get xs j ≡ Some x → i ≡ j
rise_once xs rise i j x first second =
    ⊎_elim (λ same. same)
    (⊎_elim
    (λ below. absurd (never i j below first second))
    (λ above. absurd (never j i above second first)))
    (apart i j)
  where
    apart : (i j : ℕ) → (i ≡ j) ⊎ ((i < j) ⊎ (j < i))
    apart i j = grind arith

    never : (i j : ℕ) → i < j → slice_get xs i ≡ Some x → slice_get xs j ≡ Some x → ⊥
    never i j below at_i at_j =
        let within = slice_get_within xs j x at_j in
        let less : get_or xs i 0 < get_or xs j 0 = AllPairs-from_increasing xs rise i j 0 below within in
        let low = get_or_from_slice_get xs i x 0 at_i in
        let high = get_or_from_slice_get xs j x 0 at_j in omega arith

-- ---- entries of one event

-- two entries of an event with the same number stand at the same place
pub places_apart : (theory : Theory) (e : PlainEvent) (i j : ℕ) (a b : Effect) → slice_get (effects_of theory e) i ≡ Some a → slice_get (effects_of theory e) j ≡ Some b
    → a.entry.rule ≡ b.entry.rule → i ≡ j
unfolding effects_of
places_apart theory e i j a b first second same =
    rise_once (map (λ (g : GroundEntry). g.rule) (entries_of theory e.term)) (entries_of-ascend theory e.term) i j b.entry.rule
    (rule_at i a first ∙ ap Some same) (rule_at j b second)
  where
    made : GroundEntry → Effect
    made entry = record { event = e; entry = entry }

    rule_at : (k : ℕ) (c : Effect) → slice_get (map (λ (g : GroundEntry). record { event = e; entry = g }) (entries_of theory e.term)) k ≡ Some c
        → slice_get (map (λ (g : GroundEntry). g.rule) (entries_of theory e.term)) k ≡ Some c.entry.rule
    rule_at k c there = of (slice_get (entries_of theory e.term) k) refl
      where
        of : (o : Option GroundEntry) → slice_get (entries_of theory e.term) k ≡ o → slice_get (map (λ (g : GroundEntry). g.rule) (entries_of theory e.term)) k ≡ Some c.entry.rule
        of None none =
            absurd (none-some c
            (sym (slice_get-map (λ (g : GroundEntry). record { event = e; entry = g }) (entries_of theory e.term) k ∙ ap (option_map (λ (g : GroundEntry). record { event = e; entry = g })) none) ∙ there))
        of (Some g) some =
            let same : record { event = e; entry = g } ≡ c =
            ap (λ o. unwrap_or o (record { event = e; entry = g }))
            (sym (slice_get-map (λ (h : GroundEntry). record { event = e; entry = h }) (entries_of theory e.term) k ∙ ap (option_map (λ (h : GroundEntry). record { event = e; entry = h })) some) ∙ there) in
            slice_get-map (λ (h : GroundEntry). h.rule) (entries_of theory e.term) k ∙ ap (option_map (λ (h : GroundEntry). h.rule)) some
            ∙ ap (λ (f : Effect). Some f.entry.rule) same

-- ---- events of a store

-- two events of a store that look the same are the same member
same_member : {T : Type 0} (rank : T → ℤ) (events : List (Kept T)) → IsPairwise (λ e f. IsTrue (comes_before e f)) (history_of rank events) → (k l : Kept T)
    → IsMember events k → IsMember events l → plain_of rank k ≡ plain_of rank l → k ≡ l
same_member rank [] pairs k l first second same = absurd first
same_member rank (m ∷ events) pairs k l (inl a) (inl b) same = sym a ∙ b
same_member rank (m ∷ events) pairs k l (inl a) (inr b) same =
    absurd (comes_before-itself (plain_of rank l)
    (subst (λ e. IsTrue (comes_before e (plain_of rank l))) (ap (plain_of rank) a ∙ same) (pairs.0 (plain_of rank l) (IsMember-map (plain_of rank) events l b))))
same_member rank (m ∷ events) pairs k l (inr a) (inl b) same =
    absurd (comes_before-itself (plain_of rank k)
    (subst (λ e. IsTrue (comes_before e (plain_of rank k))) (ap (plain_of rank) b ∙ sym same) (pairs.0 (plain_of rank k) (IsMember-map (plain_of rank) events k a))))
same_member rank (m ∷ events) pairs k l (inr a) (inr b) same = same_member rank events pairs.1 k l a b same

-- two slots whose events look the same are the same slot
pub slots_apart : {T : Type 0} (rank : T → ℤ) (events : List (Kept T)) → IsTrue (is_history (history_of rank events)) → (s t : Slot) (e f : Event T)
    → event_at s events ≡ Some e → event_at t events ≡ Some f → event_of rank e ≡ event_of rank f → s.0 ≡ t.0
slots_apart rank events history s t e f first second same =
    let k = kept_under events s e first in
    let l = kept_under events t f second in
    let one = same_member rank events (IsPairwise-from_history (history_of rank events) history) k.0 l.0 k.1 l.1 (ap (event_of rank) k.3 ∙ same ∙ ap (event_of rank) (sym l.3)) in
    sym k.2 ∙ ap (λ (m : Kept _). m.0.0) one ∙ l.2
