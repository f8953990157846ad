-- Slots under keys: what a search finds at the place where it ends.
use Rattle.std.proofs.Common.{◌≡◌, ℕ, ◌<◌, zero, suc, Bool, true, false, cond, ◌&&◌, ◌||◌, get_or, slice_get, List, [], ◌∷◌, Some, None, refl, sym, ap, ◌∙◌, ⊎_elim, length, true≢false, arith}
use Rattle.std.specs.Prelude.{option_map, ◌==◌, nat_lt}
use Rattle.std.specs.List.Sorted.{IsPartitionPoint}
use Rattle.std.specs.declared.cmp.Ordering.{Ordering}
use Rattle.std.specs.declared.cmp.Ordering.TheVariants.{Less, Equal, Greater}
use Rattle.std.specs.Ordering.{is_lt, is_eq}
use Rattle.std.proofs.lemmas.Bool.{cases_Bool, cases_lt, eqb-true, false≢true, or_parts}
use Rattle.std.proofs.lemmas.List.Folds.{list_any_none}
use Rattle.std.proofs.lemmas.Option.{get_or_from_slice_get, slice_get_within}
use Rattle.ec_lists.proofs.Finds.{find-none}
use Rattle.ec_rows.proofs.OrderedLemmas.{find-at_cut}
use Rattle.ec_store.specs.Slots.{is_in_front, is_there, slot_of, IsInOrder}
use Rattle.ec_store.specs.declared.slots.KeyedSlot.{KeyedSlot}

-- a member within a list does not depend on what is read where there is none
get_or-any : {X : Type 0} (xs : List X) (n : ℕ) (d e : X) → n < length xs → get_or xs n d ≡ get_or xs n e
get_or-any [] n d e less = absurd (omega arith)
get_or-any (x ∷ xs) zero d e less = refl
get_or-any (x ∷ xs) (suc n) d e less = get_or-any xs n d e (omega arith)

module _ (key : ℕ) (place : ℕ → Ordering) where
  -- the slots are cut where they stop to stand in front
  abbrev pub IsCut : List KeyedSlot → ℕ → Type 0
  IsCut slots i = IsPartitionPoint (λ member. is_in_front key place member ≡ true) (λ member. is_in_front key place member ≡ false) slots i

  by_tests : (a b : Bool) (o : Ordering) → (a ≡ true → b ≡ false) → (a || (b && is_lt o)) ≡ true → (b && is_eq o) ≡ false
  by_tests true true o only front = absurd (true≢false (only refl))
  by_tests true false o only front = refl
  by_tests false true Less only front = refl
  by_tests false true Equal only front = absurd (false≢true front)
  by_tests false true Greater only front = refl
  by_tests false false o only front = refl

  less-other : (m n : ℕ) → nat_lt m n ≡ true → (m == n) ≡ false
  less-other m n less = grind arith

  -- what stands in front is not there
  apart : (member : KeyedSlot) → is_in_front key place member ≡ true → is_there key place member ≡ false
  apart member front = by_tests (nat_lt member.key key) (member.key == key) (place member.slot) (less-other member.key key) front

  -- where no slot is there, none is found
  none-there : (slots : List KeyedSlot) → ((j : ℕ) (d : KeyedSlot) → j < length slots → is_there key place (get_or slots j d) ≡ false) → slot_of key place slots ≡ None
  none-there slots none = ap (option_map (λ (member : KeyedSlot). member.slot)) (find-none (is_there key place) slots (list_any_none (is_there key place) slots none))

  -- at the end
  pub slot_of-end : (slots : List KeyedSlot) (i : ℕ) → IsCut slots i → i ≡ length slots → slot_of key place slots ≡ None
  slot_of-end slots i cut end = none-there slots (λ j d within. apart (get_or slots j d) (cut.0 j d (omega arith) (omega arith)))

  neither : (a b : Bool) → a ≡ false → b ≡ false → (a || b) ≡ false
  neither a b first second = grind arith

  -- behind a slot that is not there none is
  none-behind : (slots : List KeyedSlot) (i : ℕ) (member : KeyedSlot) → IsInOrder key place slots → IsCut slots i → i < length slots → get_or slots i member ≡ member →
      is_there key place member ≡ false → (j : ℕ) (d : KeyedSlot) → j < length slots → is_there key place (get_or slots j d) ≡ false
  none-behind slots i member order cut inside is other j d within =
      ⊎_elim
      (λ less. apart (get_or slots j d) (cut.0 j d (omega arith) (omega arith)))
      (λ more. ⊎_elim
      (λ e. absurd (true≢false (sym (order.up_to i j d (omega arith) within e) ∙ here)))
      (λ e. (or_parts (is_in_front key place (get_or slots j d)) (is_there key place (get_or slots j d)) e).1)
      (cases_Bool (is_in_front key place (get_or slots j d) || is_there key place (get_or slots j d))))
      (cases_lt j i)
    where
      here : (is_in_front key place (get_or slots i d) || is_there key place (get_or slots i d)) ≡ false
      here =
          neither (is_in_front key place (get_or slots i d)) (is_there key place (get_or slots i d)) (cut.1 i d (omega arith) inside)
          (ap (is_there key place) (get_or-any slots i d member inside ∙ is) ∙ other)

  -- the slot at the place alone can be there
  pub slot_of-at : (slots : List KeyedSlot) (i : ℕ) (member : KeyedSlot) → IsInOrder key place slots → IsCut slots i → slice_get slots i ≡ Some member →
      slot_of key place slots ≡ cond (is_there key place member) (Some member.slot) None
  slot_of-at slots i member order cut at =
      ⊎_elim
      (λ e. ap (option_map (λ (m : KeyedSlot). m.slot))
      (find-at_cut (is_in_front key place) (is_there key place) apart slots i member cut (slice_get_within slots i member at) (sym (get_or_from_slice_get slots i member member at)) e)
      ∙ sym (ap (λ b. cond b (Some member.slot) None) e))
      (λ e. none-there slots (none-behind slots i member order cut (slice_get_within slots i member at) (get_or_from_slice_get slots i member member at) e)
      ∙ sym (ap (λ b. cond b (Some member.slot) None) e))
      (cases_Bool (is_there key place member))

  -- ---- by keys alone

  -- the slots are cut where their keys stop to be less
  abbrev pub IsKeyCut : List KeyedSlot → ℕ → Type 0
  IsKeyCut slots i = IsPartitionPoint (λ member. nat_lt member.key key ≡ true) (λ member. nat_lt member.key key ≡ false) slots i

  first_true : (a b : Bool) → a ≡ true → (a || b) ≡ true
  first_true a b is = grind arith

  at-first : (less same : Bool) (o : Ordering) → less ≡ false → (same && is_eq o) ≡ true → (less || (same && is_lt o)) ≡ false
  at-first true same o is there = absurd (true≢false is)
  at-first false true Less is there = absurd (false≢true there)
  at-first false true Equal is there = refl
  at-first false true Greater is there = absurd (false≢true there)
  at-first false false o is there = absurd (false≢true there)

  -- the first slot of a key, where it is there, is where the search by all ends
  IsCut-first : (slots : List KeyedSlot) (i : ℕ) (member : KeyedSlot) → IsInOrder key place slots → IsKeyCut slots i → slice_get slots i ≡ Some member → is_there key place member ≡ true →
      IsCut slots i
  IsCut-first slots i member order cut at there = (
    λ n d low high. first_true (nat_lt (get_or slots n d).key key) ((get_or slots n d).key == key && is_lt (place (get_or slots n d).slot)) (cut.0 n d low high),
    λ n d low high.
        let here : is_in_front key place (get_or slots i d) ≡ false =
        ap (is_in_front key place) (get_or_from_slice_get slots i member d at)
        ∙ at-first (nat_lt member.key key) (member.key == key) (place member.slot)
        (ap (λ (m : KeyedSlot). nat_lt m.key key) (sym (get_or_from_slice_get slots i member d at)) ∙ cut.1 i d (omega arith) (slice_get_within slots i member at)) there in
        ⊎_elim (λ e. absurd (true≢false (sym (order.front i n d low high e) ∙ here))) (λ e. e) (cases_Bool (is_in_front key place (get_or slots n d))),
  )

  pub slot_of-first : (slots : List KeyedSlot) (i : ℕ) (member : KeyedSlot) → IsInOrder key place slots → IsKeyCut slots i → slice_get slots i ≡ Some member →
      is_there key place member ≡ true → slot_of key place slots ≡ Some member.slot
  slot_of-first slots i member order cut at there =
      slot_of-at slots i member order (IsCut-first slots i member order cut at there) at ∙ ap (λ b. cond b (Some member.slot) None) there

  -- where all keys are less, nothing else is asked
  pub IsCut-end : (slots : List KeyedSlot) (i : ℕ) → IsKeyCut slots i → i ≡ length slots → IsCut slots i
  IsCut-end slots i cut end = (
    λ n d low high. first_true (nat_lt (get_or slots n d).key key) ((get_or slots n d).key == key && is_lt (place (get_or slots n d).slot)) (cut.0 n d low high),
    λ n d low high. absurd (omega arith),
  )

  other-first : (less same : Bool) (b : Bool) → less ≡ false → same ≡ false → (less || (same && b)) ≡ false
  other-first less same b first second = grind arith

  other-key : (m : ℕ) → (m ≡ key → ⊥) → (m == key) ≡ false
  other-key m other = ⊎_elim (λ e. absurd (other (eqb-true m key e))) (λ e. e) (cases_Bool (m == key))

  -- nor where the first of the greater ones has another key
  pub IsCut-other : (slots : List KeyedSlot) (i : ℕ) (member : KeyedSlot) → IsInOrder key place slots → IsKeyCut slots i → slice_get slots i ≡ Some member → (member.key ≡ key → ⊥) →
      IsCut slots i
  IsCut-other slots i member order cut at other = (
    λ n d low high. first_true (nat_lt (get_or slots n d).key key) ((get_or slots n d).key == key && is_lt (place (get_or slots n d).slot)) (cut.0 n d low high),
    λ n d low high.
        let here : is_in_front key place (get_or slots i d) ≡ false =
        ap (is_in_front key place) (get_or_from_slice_get slots i member d at)
        ∙ other-first (nat_lt member.key key) (member.key == key) (is_lt (place member.slot))
        (ap (λ (m : KeyedSlot). nat_lt m.key key) (sym (get_or_from_slice_get slots i member d at)) ∙ cut.1 i d (omega arith) (slice_get_within slots i member at)) (other-key member.key other) in
        ⊎_elim (λ e. absurd (true≢false (sym (order.front i n d low high e) ∙ here))) (λ e. e) (cases_Bool (is_in_front key place (get_or slots n d))),
  )

  pub slot_of-other : (slots : List KeyedSlot) (i : ℕ) (member : KeyedSlot) → IsInOrder key place slots → IsKeyCut slots i → slice_get slots i ≡ Some member → (member.key ≡ key → ⊥) →
      slot_of key place slots ≡ None
  slot_of-other slots i member order cut at other =
      slot_of-at slots i member order (IsCut-other slots i member order cut at other) at
      ∙ ap (λ b. cond (b && is_eq (place member.slot)) (Some member.slot) None) (other-key member.key other)
