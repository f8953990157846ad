-- Identities under their slots: names with keys, in an order of their own.
use Rattle.std.proofs.Common.{◌≡◌, ℕ, true, false, cond, Bool, List, Option, Some, None, refl, sym, ap, subst, ◌∙◌}
use Rattle.std.specs.Prelude.{option_map, bytes_eq}
use Rattle.std.specs.Cmp.Lexicographic.{texts_ties}
use Rattle.std.specs.declared.cmp.Ordering.{Ordering}
use Rattle.std.specs.Ordering.{is_eq}
use Rattle.std.proofs.lemmas.Cmp.{nat_list_cmp_total}
use Rattle.std.proofs.lemmas.Map.Lookups.{exact_bytes}
use Rattle.ec_terms.specs.declared.ids.Slot.{Slot}
use Rattle.ec_terms.specs.Term.{name_cmp}
use Rattle.ec_axioms.specs.declared.event.Event.{Event}
use Rattle.ec_store.specs.Slots.{IsInOrder, slot_of as slot_there}
use Rattle.ec_store.specs.Held.{AreKeyed, place_to, slot_under}
use Rattle.ec_store.specs.declared.slots.KeyedSlot.{KeyedSlot}
use Rattle.ec_store.proofs.SlotLemmas.{IsCut}
use Rattle.ec_store.proofs.HeldLemmas.{IsInOrder-keyed, slot_of-keyed}
use Rattle.ec_store.specs.Identities.{key_of}
use Rattle.ec_store.specs.EventRecords.{identity_at}

-- the number of a slot that there may be
abbrev pub number_of : Option Slot → Option ℕ
number_of slot = option_map (λ (s : Slot). s.0) slot

-- where two identities stand at one place
pub is_eq-identity : (a b : List ℕ) → is_eq (name_cmp a b) ≡ bytes_eq a b
is_eq-identity a b = sym (texts_ties a b)

pub number_of-cond : (b : Bool) (slot o : Option Slot) → cond b (number_of slot) (number_of o) ≡ number_of (cond b slot o)
number_of-cond true slot o = refl
number_of-cond false slot o = refl

-- a slot that has a number, and one that has none
pub slot-from_some : (slot : Option Slot) (n : ℕ) → number_of slot ≡ Some n → slot ≡ Some (record { 0 = n })
slot-from_some None n is = cc
slot-from_some (Some slot) n is = let same : slot.0 ≡ n = cc in ap (λ m. Some (slot_at m)) same
  where
    slot_at : ℕ → Slot
    slot_at m = record { 0 = m }

pub slot-from_none : (slot : Option Slot) → number_of slot ≡ None → slot ≡ None
slot-from_none None is = refl
slot-from_none (Some slot) is = cc

-- how the identity under a slot stands to one that is looked for
abbrev pub identity_place : {T : Type 0} → (ℕ → Option (Event T)) → List ℕ → ℕ → Ordering
identity_place record_at id slot = place_to name_cmp id (identity_at record_at slot)

module _ {T : Type 0} (record_at : ℕ → Option (Event T)) (slots : List KeyedSlot) where
  -- the slots are cut where their identities stop to stand before one
  abbrev pub IsCutAt : List ℕ → ℕ → Type 0
  IsCutAt id i = IsCut (key_of id) (identity_place record_at id) slots i

  -- a search by a key, which is that of an identity
  pub IsInOrder-identities : AreKeyed key_of name_cmp (identity_at record_at) slots → (key : ℕ) (id : List ℕ) → key ≡ key_of id → IsInOrder key (identity_place record_at id) slots
  IsInOrder-identities are key id is =
      subst (λ n. IsInOrder n (identity_place record_at id) slots) (sym is)
      (IsInOrder-keyed key_of name_cmp nat_list_cmp_total exact_bytes (identity_at record_at) slots are id)

  pub slot_of-identities : AreKeyed key_of name_cmp (identity_at record_at) slots → (key : ℕ) (id : List ℕ) → key ≡ key_of id →
      slot_there key (identity_place record_at id) slots ≡ slot_under name_cmp (identity_at record_at) slots id
  slot_of-identities are key id is =
      ap (λ n. slot_there n (identity_place record_at id) slots) is ∙ slot_of-keyed key_of name_cmp nat_list_cmp_total exact_bytes (identity_at record_at) slots are id

  -- the cut of a search by a key
  pub IsCutAt-key : (key : ℕ) (id same : List ℕ) (i : ℕ) → key ≡ key_of id → id ≡ same → IsCut key (identity_place record_at id) slots i → IsCutAt same i
  IsCutAt-key key id same i is names cut =
      subst (λ name. IsCutAt name i) names (subst (λ n. IsCut n (identity_place record_at id) slots i) is cut)
