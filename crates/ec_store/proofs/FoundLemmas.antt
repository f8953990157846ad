-- Keys that find kept properties: with a property more, with one less, and with other mentions.
use Rattle.std.proofs.Common.{◌≡◌, ℕ, ◌<◌, ◌≤◌, true, cond, All, IsTrue, IfSome, List, [], ◌∷◌, Option, Some, None, is_some, refl, sym, ap, ap₂, subst, ◌∙◌, ⊎_elim, length}
use Rattle.std.specs.Prelude.{option_map}
use Rattle.std.specs.List.{insert, remove}
use Rattle.std.proofs.lemmas.Bool.{cases_Bool}
use Rattle.std.proofs.lemmas.List.Elements.{All-nil, All-cons, All-head, All-tail, All-append, All-filter, All-map, All-weaker}
use Rattle.ec_terms.specs.declared.ground.Ground.{Ground}
use Rattle.ec_terms.specs.Term.{names_are_names, term_cmp, term_eq}
use Rattle.ec_terms.proofs.OrderLemmas.{term_cmp-total, term_cmp-exact, term_eq-Decides}
use Rattle.ec_store.specs.Slots.{IsInOrder, slot_of}
use Rattle.ec_store.specs.Held.{slot_under}
use Rattle.ec_store.specs.declared.slots.KeyedSlot.{KeyedSlot}
use Rattle.ec_store.proofs.SlotLemmas.{IsCut}
use Rattle.ec_store.proofs.HeldLemmas.{IsInOrder-keyed, slot_of-keyed, place-within, AreKeyed-nil, AreKeyed-same, AreKeyed-insert, slot_under-insert, AreKeyed-remove, slot_under-remove}
use Rattle.ec_store.specs.PropKeys.{key_of}
use Rattle.ec_store.specs.Table.{KeptProp, prop_at, term_at, prop_of, unmentioned, with_prop, without_prop, mentioned, with_mentions, term_place, IsFoundByKey}
use Rattle.ec_store.proofs.PropLemmas.{mentioned-term, term_eq-is_eq}

-- a kept term has names that are names
abbrev IsNamed : KeptProp → Type 0
IsNamed k = IsTrue (names_are_names k.term)

-- ---- what is found

-- the number that a term finds has that term
pub found_own : (term : Ground) (id : ℕ) (all ks : List KeptProp) → All (λ (k : KeptProp). prop_at k.id all ≡ Some k) ks → prop_of term ks ≡ Some id → term_at id all ≡ Some term
found_own term id all [] own is = cc
found_own term id all (k ∷ ks) own is =
    ⊎_elim
    (λ e. let found : Some k.id ≡ Some id = rw e at is in
    let number : k.id ≡ id = cc in
    ap (λ n. term_at n all) (sym number) ∙ ap (option_map (λ (j : KeptProp). j.term)) (All-head (λ (j : KeptProp). prop_at j.id all ≡ Some j) k ks own)
    ∙ ap Some ((term_eq-Decides k.term term).0 e))
    (λ e. let rest : prop_of term ks ≡ Some id = rw e at is in found_own term id all ks (All-tail (λ (j : KeptProp). prop_at j.id all ≡ Some j) k ks own) rest)
    (cases_Bool (term_eq k.term term))

-- a number that has a term is kept
pub is_some-kept : (id : ℕ) (ks : List KeptProp) (term : Ground) → term_at id ks ≡ Some term → is_some (prop_at id ks) ≡ true
is_some-kept id ks term has = from (prop_at id ks) has
  where
    from : (o : Option KeptProp) → option_map (λ (k : KeptProp). k.term) o ≡ Some term → is_some o ≡ true
    from None has = cc
    from (Some k) has = refl

pub term_at-found : (slots : List KeyedSlot) (term : Ground) (id : ℕ) (ks : List KeptProp) → IsFoundByKey slots ks → prop_of term ks ≡ Some id → term_at id ks ≡ Some term
term_at-found slots term id ks found is = found_own term id ks ks found.numbers is

-- and is kept
pub kept-found : (slots : List KeyedSlot) (term : Ground) (id : ℕ) (ks : List KeptProp) → IsFoundByKey slots ks → prop_of term ks ≡ Some id → is_some (prop_at id ks) ≡ true
kept-found slots term id ks found is = is_some-kept id ks term (term_at-found slots term id ks found is)

-- ---- searches

-- the numbers are cut where their terms stop to stand before one
abbrev pub IsCutAt : List KeyedSlot → List KeptProp → Ground → ℕ → Type 0
IsCutAt slots ks term i = IsCut (key_of term) (term_place ks term) slots i

pub IsInOrder-terms : (slots : List KeyedSlot) (ks : List KeptProp) → IsFoundByKey slots ks → (key : ℕ) (term : Ground) → key ≡ key_of term → IsInOrder key (term_place ks term) slots
IsInOrder-terms slots ks found key term is =
    subst (λ n. IsInOrder n (term_place ks term) slots) (sym is) (IsInOrder-keyed key_of term_cmp term_cmp-total term_cmp-exact (λ id. term_at id ks) slots found.keyed term)

-- what a search answers
pub slot_of-terms : (slots : List KeyedSlot) (ks : List KeptProp) → IsFoundByKey slots ks → (key : ℕ) (term : Ground) → key ≡ key_of term →
    slot_of key (term_place ks term) slots ≡ prop_of term ks
slot_of-terms slots ks found key term is =
    ap (λ n. slot_of n (term_place ks term) slots) is ∙ slot_of-keyed key_of term_cmp term_cmp-total term_cmp-exact (λ id. term_at id ks) slots found.keyed term ∙ found.found term

-- the cut of a search by a key
pub IsCutAt-key : (slots : List KeyedSlot) (ks : List KeptProp) (key : ℕ) (term : Ground) (i : ℕ) → key ≡ key_of term → IsCut key (term_place ks term) slots i → IsCutAt slots ks term i
IsCutAt-key slots ks key term i is cut = subst (λ n. IsCut n (term_place ks term) slots i) is cut

-- a kept number is there
pub number-within : (slots : List KeyedSlot) (ks : List KeptProp) → IsFoundByKey slots ks → (id : ℕ) (term : Ground) (i : ℕ) → i ≤ length slots → IsCutAt slots ks term i → prop_of term ks ≡ Some id →
    i < length slots
number-within slots ks found id term i within cut kept =
    place-within key_of term_cmp term_cmp-total term_cmp-exact (λ n. term_at n ks) (λ n. term_at n ks) slots slots found.keyed i within id term cut (λ n other. refl)
    (ap is_some (found.found term ∙ kept))

-- ---- changes

pub IsFoundByKey-nil : (slots : List KeyedSlot) (ks : List KeptProp) → ks ≡ [] → slots ≡ [] → IsFoundByKey slots ks
IsFoundByKey-nil slots ks empty none =
    subst (λ ms. IsFoundByKey ms ks) (sym none)
    (subst (IsFoundByKey []) (sym empty) (record {
      numbers = All-nil (λ (k : KeptProp). prop_at k.id [] ≡ Some k);
      names = All-nil IsNamed;
      keyed = AreKeyed-nil key_of term_cmp term_cmp-total term_cmp-exact (λ id. term_at id []) [] refl;
      found = λ term. refl;
    }))

-- the same numbers
pub IsFoundByKey-same : (slots new : List KeyedSlot) (ks others : List KeptProp) → others ≡ ks → new ≡ slots → IsFoundByKey slots ks → IsFoundByKey new others
IsFoundByKey-same slots new ks others is same found = subst (λ ms. IsFoundByKey ms others) (sym same) (subst (IsFoundByKey slots) (sym is) found)

module _ (slots new : List KeyedSlot) (ks js : List KeptProp) (was : IsFoundByKey slots ks) (own : All (λ (k : KeptProp). prop_at k.id js ≡ Some k) js) where
  -- a property more
  pub IsFoundByKey-more : (id : ℕ) (term : Ground) (i : ℕ) → i ≤ length slots → IsCutAt slots ks term i → IsTrue (names_are_names term) → prop_of term ks ≡ None → prop_at id ks ≡ None →
      js ≡ with_prop id term ks → ((q : ℕ) → (q ≡ id → ⊥) → prop_at q js ≡ prop_at q ks) → term_at id js ≡ Some term →
      ((other : Ground) → prop_of other js ≡ cond (term_eq term other) (Some id) (prop_of other ks)) → new ≡ insert slots i (record { key = key_of term; slot = id }) → IsFoundByKey new js
  IsFoundByKey-more id term i within cut named absent free are others there lookups placed =
      let term_of : Option KeptProp → Option Ground = option_map (λ k. k.term) in
      record {
        numbers = own;
        names = subst (All IsNamed) (sym are)
            (All-append IsNamed _ _ (All-filter _ IsNamed ks was.names) (All-cons IsNamed (unmentioned id term) _ named (All-filter _ IsNamed ks was.names)));
        keyed = AreKeyed-insert key_of term_cmp term_cmp-total term_cmp-exact (λ n. term_at n ks) (λ n. term_at n js) slots new was.keyed i within id term cut
            (λ n other. ap term_of (others n other)) (was.found term ∙ absent) (ap term_of free) there placed;
        found = λ other. slot_under-insert key_of term_cmp term_cmp-total term_cmp-exact (λ n. term_at n ks) (λ n. term_at n js) slots new was.keyed i within id term cut
            (λ n other. ap term_of (others n other)) (was.found term ∙ absent) (ap term_of free) there placed other
            ∙ ap₂ (λ b o. cond b (Some id) o) (sym (term_eq-is_eq term other)) (was.found other) ∙ sym (lookups other);
      }

  -- a property less
  pub IsFoundByKey-less : (id : ℕ) (gone : Ground) (i : ℕ) → i ≤ length slots → IsCutAt slots ks gone i → term_at id ks ≡ Some gone → prop_of gone ks ≡ Some id →
      js ≡ without_prop id ks → ((q : ℕ) → (q ≡ id → ⊥) → prop_at q js ≡ prop_at q ks) →
      ((other : Ground) → prop_of other js ≡ cond (term_eq gone other) None (prop_of other ks)) → new ≡ remove slots i → IsFoundByKey new js
  IsFoundByKey-less id gone i within cut live kept are others lookups taken =
      let term_of : Option KeptProp → Option Ground = option_map (λ k. k.term) in
      record {
        numbers = own;
        names = subst (All IsNamed) (sym are) (All-filter _ IsNamed ks was.names);
        keyed = AreKeyed-remove key_of term_cmp term_cmp-total term_cmp-exact (λ n. term_at n ks) (λ n. term_at n js) slots new was.keyed i within id gone cut
            (λ n other. ap term_of (others n other)) (ap is_some (was.found gone ∙ kept)) live taken;
        found = λ other. slot_under-remove key_of term_cmp term_cmp-total term_cmp-exact (λ n. term_at n ks) (λ n. term_at n js) slots new was.keyed i within id gone cut
            (λ n other. ap term_of (others n other)) (ap is_some (was.found gone ∙ kept)) live taken other
            ∙ ap₂ (λ b o. cond b None o) (sym (term_eq-is_eq gone other)) (was.found other) ∙ sym (lookups other);
      }

  -- other mentions
  pub IsFoundByKey-mentions : (id count : ℕ) → js ≡ with_mentions id count ks → ((q : ℕ) → term_at q js ≡ term_at q ks) → ((other : Ground) → prop_of other js ≡ prop_of other ks) →
      new ≡ slots → IsFoundByKey new js
  IsFoundByKey-mentions id count are terms lookups same = record {
    numbers = own;
    names = subst (All IsNamed) (sym are)
        (All-map IsNamed (mentioned id count) ks (All-weaker IsNamed (λ (k : KeptProp). IsNamed (mentioned id count k)) (λ k named. ap names_are_names (mentioned-term id count k) ∙ named) ks was.names));
    keyed = AreKeyed-same key_of term_cmp term_cmp-total term_cmp-exact (λ n. term_at n ks) (λ n. term_at n js) slots new terms same was.keyed;
    found = λ other. ap₂ (λ at ms. slot_under term_cmp at ms other) (λ i n. terms n i) same ∙ was.found other ∙ sym (lookups other);
  }

-- what holds of the term that is there
pub if_term : (o : Option Ground) (P : Ground → Type 0) (term : Ground) → o ≡ Some term → IfSome o P → P term
if_term o P term is holds = subst (λ a. IfSome a P) is holds

-- what holds of each answer that there may be
pub IfSome-from : {A : Type 0} (o : Option A) (P : A → Type 0) → ((x : A) → o ≡ Some x → P x) → IfSome o P
IfSome-from None P each = tt
IfSome-from (Some x) P each = each x refl
