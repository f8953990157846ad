-- The dependents where nothing is kept, and where the entries of a slot were noted or taken out.
use Rattle.std.proofs.Common.{◌≡◌, ◌≢◌, ◌<◌, ℕ, ℤ, zero, suc, List, [], ◌∷◌, length, get_or, Option, None, Some, IsSome, set, refl, sym, ap, subst, ◌∙◌, ⊎_elim, get_or-set_other, get_or-set_same, arith}
use Rattle.std.specs.Prelude.{option_and_then}
use Rattle.std.specs.Option.{option_to_list}
use Rattle.std.proofs.lemmas.Bool.{cases_eq, cases_lt}
use Rattle.std.proofs.lemmas.Option.{slice_get_past}
use Rattle.ec_context.specs.declared.entry.Entry.{Entry}
use Rattle.ec_entries.specs.declared.event_entries.Dependent.{Dependent}
use Rattle.ec_entries.specs.declared.event_entries.EventEntries.{EventEntries}
use Rattle.ec_entries.specs.Dependents.{AreDependents, AreInOrder, Rows, any_on, dependent_at, dependent_if, dependent_in, dependents_of, from_place}
use Rattle.ec_entries.specs.Noting.{AreNoted, AreTakenOut}
use Rattle.ec_numbered.specs.ByNumber.{kept_at}
use Rattle.ec_rows.specs.Ordered.{is_ascending}

-- nothing is kept, and no row has dependents
pub AreDependents-none : {T : Type 0} (rank : T → ℤ) (slots : List (Option (EventEntries T))) (rows : Rows T) → slots ≡ [] → rows ≡ [] →
    (q : ℕ) → AreDependents rank q slots (dependents_of q rows)
unfolding is_ascending
AreDependents-none rank slots rows no_slots no_rows q =
    subst (λ xs. AreDependents rank q xs (dependents_of q rows)) (sym no_slots)
    (subst (λ xs. AreDependents rank q [] (dependents_of q xs)) (sym no_rows) (record { order = refl; exact = λ slot place. refl }))

-- what is kept in a slot where something is written
pub kept_at-set_other : {X : Type 0} (slots : List (Option X)) (slot other : ℕ) (x : Option X) → other ≢ slot → kept_at other (set slots slot x) ≡ kept_at other slots
kept_at-set_other slots slot other x apart = rw get_or-set_other refl

-- nothing is kept in a slot that was emptied
pub kept_at-emptied : {X : Type 0} (slots : List (Option X)) (slot : ℕ) → kept_at slot (set slots slot None) ≡ None
kept_at-emptied [] slot = refl
kept_at-emptied (y ∷ ys) zero = refl
kept_at-emptied (y ∷ ys) (suc n) = kept_at-emptied ys n

-- a slot in which something is kept is among the slots
within : {X : Type 0} (slots : List (Option X)) (slot : ℕ) (x : X) → kept_at slot slots ≡ Some x → slot < length slots
within [] slot x kept = cc
within (y ∷ ys) zero x kept = omega arith
within (y ∷ ys) (suc n) x kept = let rest = within ys n x kept in omega (arith, rest)

-- what is read from it is what is kept
pub kept_at-read : {X : Type 0} (slots : List (Option X)) (slot : ℕ) (o : Option X) → o ≡ get_or slots slot o → IsSome (kept_at slot slots) → kept_at slot slots ≡ o
kept_at-read [] slot o read some = cc
kept_at-read (y ∷ ys) zero o read some = sym read
kept_at-read (y ∷ ys) (suc n) o read some = kept_at-read ys n o read some

-- dependents stay right where each entry makes what it made, and they are the same
AreDependents-made : {T : Type 0} (rank : T → ℤ) (q : ℕ) (old new : List (Option (EventEntries T))) (before after : List (Dependent T)) →
    ((slot place : ℕ) → dependent_at q new slot place ≡ dependent_at q old slot place) → after ≡ before → AreDependents rank q old before → AreDependents rank q new after
AreDependents-made rank q old new before after made same are = record {
  order = subst (AreInOrder rank) (sym same) are.order;
  exact = λ slot place. ap (from_place slot place) same ∙ are.exact slot place ∙ sym (ap option_to_list (made slot place));
}

-- so it is where each slot keeps what it kept
pub AreDependents-same : {T : Type 0} (rank : T → ℤ) (q : ℕ) (old new : List (Option (EventEntries T))) (before after : List (Dependent T)) →
    ((slot : ℕ) → kept_at slot new ≡ kept_at slot old) → after ≡ before → AreDependents rank q old before → AreDependents rank q new after
AreDependents-same {T} rank q old new before after kept =
    AreDependents-made rank q old new before after (λ slot place. ap (λ (k : Option (EventEntries T)). option_and_then (λ k. dependent_in q k.at slot k.list place) k) (kept slot))

-- and where other entries of an event are active
pub AreDependents-active : {T : Type 0} (rank : T → ℤ) (slots : List (Option (EventEntries T))) (slot : ℕ) (kept : EventEntries T) (active : ℕ) → kept_at slot slots ≡ Some kept →
    (q : ℕ) (dependents : List (Dependent T)) → AreDependents rank q slots dependents → AreDependents rank q (set slots slot (Some (record kept { active = active }))) dependents
AreDependents-active {T} rank slots slot kept active there q dependents =
    AreDependents-made rank q slots (set slots slot new) dependents dependents (λ s place. ⊎_elim (here s place) (other s place) (cases_eq s slot)) refl
  where
    new : Option (EventEntries T)
    new = Some (record kept { active = active })

    here : (s place : ℕ) → s ≡ slot → dependent_at q (set slots slot new) s place ≡ dependent_at q slots s place
    here s place same =
        subst (λ n. dependent_at q (set slots slot new) n place ≡ dependent_at q slots n place) (sym same)
        (ap (λ (k : Option (EventEntries T)). option_and_then (λ k. dependent_in q k.at slot k.list place) k) (get_or-set_same slots slot new None (within slots slot kept there))
        ∙ sym (ap (λ (k : Option (EventEntries T)). option_and_then (λ k. dependent_in q k.at slot k.list place) k) there))

    other : (s place : ℕ) → s ≢ slot → dependent_at q (set slots slot new) s place ≡ dependent_at q slots s place
    other s place apart = ap (λ (k : Option (EventEntries T)). option_and_then (λ k. dependent_in q k.at s k.list place) k) (kept_at-set_other slots slot s new apart)

-- what is there is one of the values that could be there
pub IsSome-apart : {X : Type 0} (o : Option X) → IsSome o → ((x : X) → o ≢ Some x) → ⊥
IsSome-apart None some apart = cc
IsSome-apart (Some x) some apart = apart x refl

-- a slot in which nothing is kept has no dependents
pub from_place-none : {T : Type 0} (rank : T → ℤ) (slots : List (Option (EventEntries T))) (slot : ℕ) → kept_at slot slots ≡ None → (q : ℕ) (dependents : List (Dependent T)) →
    AreDependents rank q slots dependents → (place : ℕ) → from_place slot place dependents ≡ []
from_place-none {T} rank slots slot none q dependents are place =
    are.exact slot place ∙ ap (λ (k : Option (EventEntries T)). option_to_list (option_and_then (λ k. dependent_in q k.at slot k.list place) k)) none

module _ {T : Type 0} (rank : T → ℤ) (slots : List (Option (EventEntries T))) (slot : ℕ) (at : T) (entries : List Entry) (active : ℕ) (below : slot < length slots)
    (old new : Rows T) (all : (q : ℕ) → AreDependents rank q slots (dependents_of q old)) (noted : AreNoted rank at slot entries old new) where
  abbrev event : EventEntries T
  event = record { at = at; list = entries; active = active }

  -- where the entries of a slot were noted
  pub AreDependents-in : (q : ℕ) → AreDependents rank q (set slots slot (Some event)) (dependents_of q new)
  AreDependents-in q = record { order = noted.order q; exact = λ s p. ⊎_elim (here s p) (other s p) (cases_eq s slot) }
    where
      here : (s p : ℕ) → s ≡ slot → from_place s p (dependents_of q new) ≡ option_to_list (dependent_at q (set slots slot (Some event)) s p)
      here s p same =
          subst (λ n. from_place n p (dependents_of q new) ≡ option_to_list (dependent_at q (set slots slot (Some event)) n p)) (sym same)
          (noted.here q p
          ∙ sym (ap (λ (k : Option (EventEntries T)). option_to_list (option_and_then (λ k. dependent_in q k.at slot k.list p) k))
          (get_or-set_same slots slot (Some event) None below)))

      other : (s p : ℕ) → s ≢ slot → from_place s p (dependents_of q new) ≡ option_to_list (dependent_at q (set slots slot (Some event)) s p)
      other s p apart =
          noted.others q s p apart ∙ (all q).exact s p
          ∙ sym (ap (λ (k : Option (EventEntries T)). option_to_list (option_and_then (λ k. dependent_in q k.at s k.list p) k)) (kept_at-set_other slots slot s (Some event) apart))

module _ {T : Type 0} (rank : T → ℤ) (slots : List (Option (EventEntries T))) (slot : ℕ) (kept : EventEntries T) (there : kept_at slot slots ≡ Some kept)
    (old new : Rows T) (all : (q : ℕ) → AreDependents rank q slots (dependents_of q old)) (out : AreTakenOut rank slot (length kept.list) old new) where
  -- where the entries of a slot were taken out
  pub AreDependents-out : (q : ℕ) → AreDependents rank q (set slots slot None) (dependents_of q new)
  AreDependents-out q = record { order = out.order q; exact = λ s p. ⊎_elim (here s p) (other s p) (cases_eq s slot) }
    where
      gone : (p : ℕ) → from_place slot p (dependents_of q new) ≡ []
      gone p = ⊎_elim (λ below. out.gone q p below)
          (λ past. out.left q p past ∙ (all q).exact slot p ∙ ap (λ (k : Option (EventEntries T)). option_to_list (option_and_then (λ k. dependent_in q k.at slot k.list p) k)) there
          ∙ ap (λ (e : Option Entry). option_to_list (option_and_then (λ (e : Entry). dependent_if (any_on q e.literals) kept.at slot p) e)) (slice_get_past kept.list p past))
          (cases_lt p (length kept.list))

      here : (s p : ℕ) → s ≡ slot → from_place s p (dependents_of q new) ≡ option_to_list (dependent_at q (set slots slot None) s p)
      here s p same =
          subst (λ n. from_place n p (dependents_of q new) ≡ option_to_list (dependent_at q (set slots slot None) n p)) (sym same)
          (gone p ∙ sym (ap (λ (k : Option (EventEntries T)). option_to_list (option_and_then (λ k. dependent_in q k.at slot k.list p) k)) (get_or-set_same slots slot None None (within slots slot kept there))))

      other : (s p : ℕ) → s ≢ slot → from_place s p (dependents_of q new) ≡ option_to_list (dependent_at q (set slots slot None) s p)
      other s p apart =
          out.others q s p apart ∙ (all q).exact s p
          ∙ sym (ap (λ (k : Option (EventEntries T)). option_to_list (option_and_then (λ k. dependent_in q k.at s k.list p) k)) (kept_at-set_other slots slot s None apart))
