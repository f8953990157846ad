-- Groups under slots: what a search by a key finds, and what stands in them when one is written to, opened or closed.
use Rattle.std.proofs.Common.{◌≡◌, ◌≢◌, ℕ, ◌+◌, ◌<◌, ◌≤◌, Bool, true, false, not, cond, ◌&&◌, ◌||◌, List, [], ◌∷◌, take, drop, length, get_or, Option, Some, None, Vec, is_some, refl, sym, ap, ap₂, subst, ◌∙◌, ⊎_elim, find, arith}
use Rattle.std.specs.Prelude.{◌==◌, bytes_eq, option_map}
use Rattle.std.specs.List.{insert, remove, cons_option}
use Rattle.std.specs.Ordering.{is_eq}
use Rattle.std.specs.Cmp.Lexicographic.{texts_ties}
use Rattle.std.specs.declared.cmp.Ordering.{Ordering}
use Rattle.std.proofs.lemmas.Bool.{cases_Bool, false≢true, or_parts}
use Rattle.ec_lists.proofs.Options.{is_some-option_map}
use Rattle.std.proofs.lemmas.Cmp.{nat_list_cmp_total}
use Rattle.std.proofs.lemmas.Map.Lookups.{exact_bytes}
use Rattle.std.proofs.lemmas.List.{take-append-drop}
use Rattle.std.proofs.lemmas.List.Folds.{list_any-append, list_any_more}
use Rattle.std.proofs.lemmas.Slice.Eq.{bytes_eq-Decides}
use Rattle.ec_terms.specs.declared.ids.PropId.{PropId}
use Rattle.ec_terms.specs.Term.{name_cmp}
use Rattle.ec_store.specs.Slots.{IsInOrder, slot_of as slot_there}
use Rattle.ec_store.specs.Held.{held_of, place_to, slot_under}
use Rattle.ec_store.specs.declared.slots.KeyedSlot.{KeyedSlot}
use Rattle.ec_store.proofs.SlotLemmas.{IsCut}
use Rattle.ec_store.proofs.HeldLemmas.{IsInOrder-keyed, slot_of-keyed, AreKeyed-nil, AreKeyed-same, AreKeyed-insert, slot_under-insert, AreKeyed-remove, slot_under-remove, place-within}
use Rattle.ec_numbered.specs.PropSet.{has_number}
use Rattle.ec_numbered.proofs.Numbers.{has_number-filter, has_number-with_number}
use Rattle.ec_exclusive.proofs.KeptLists.{numbered}
use Rattle.ec_exclusive.specs.Groups.{Grouped, is_member, in_group, is_among, with_member, without_member, key_at, groups_of, hash_of, slot_by_key, AreFoundByKey}

-- the group under a slot that there may be
abbrev group_under : (ℕ → Option Grouped) → Option ℕ → Option Grouped
group_under at None = None
group_under at (Some slot) = at slot

-- how the key under a slot stands to one that is looked for
abbrev pub key_place : (ℕ → Option Grouped) → List ℕ → ℕ → Ordering
key_place at key slot = place_to name_cmp key (key_at at slot)

module _ (at : ℕ → Option Grouped) where
  -- ---- what a search finds

  -- the group under the slot of a key is the one that has the key
  abbrev found : List ℕ → List KeyedSlot → Option Grouped
  found key slots = find (λ (group : Grouped). bytes_eq group.key key) (groups_of at slots)

  under-found : (key : List ℕ) (slots : List KeyedSlot) → group_under at (slot_by_key at slots key) ≡ found key slots
  under-found key [] = refl
  under-found key (m ∷ ms) = of_group (at m.slot) refl (under-found key ms)
    where
      rest : List (ℕ × List ℕ)
      rest = held_of (key_at at) ms

      of_same : (g : Grouped) (b : Bool) → at m.slot ≡ Some g →
          group_under at (option_map (λ (h : ℕ × List ℕ). h.0) (cond b (Some (m.slot, g.key)) (find (λ (h : ℕ × List ℕ). is_eq (name_cmp h.1 key)) rest)))
          ≡ cond b (Some g) (group_under at (slot_by_key at ms key))
      of_same g true is = is
      of_same g false is = refl

      of_group : (o : Option Grouped) → at m.slot ≡ o → group_under at (slot_by_key at ms key) ≡ found key ms →
          group_under at (option_map (λ (h : ℕ × List ℕ). h.0) (find (λ (h : ℕ × List ℕ). is_eq (name_cmp h.1 key)) (cons_option (option_map (λ (name : List ℕ). (m.slot, name)) (option_map (λ (g : Grouped). g.key) o)) rest)))
          ≡ find (λ (group : Grouped). bytes_eq group.key key) (cons_option o (groups_of at ms))
      of_group None is behind = behind
      of_group (Some g) is behind =
          of_same g (is_eq (name_cmp g.key key)) is
          ∙ ap₂ (λ b o. cond b (Some g) o) (sym (texts_ties g.key key)) behind

  in_group-under : (key : List ℕ) (n : ℕ) (slots : List KeyedSlot) → in_group (groups_of at slots) key n ≡ is_member n (group_under at (slot_by_key at slots key))
  in_group-under key n slots = ap (is_member n) (sym (under-found key slots))

  pub in_group-at : (key : List ℕ) (n : ℕ) (slots : List KeyedSlot) (slot : ℕ) → slot_by_key at slots key ≡ Some slot → in_group (groups_of at slots) key n ≡ is_member n (at slot)
  in_group-at key n slots slot is = in_group-under key n slots ∙ ap (λ o. is_member n (group_under at o)) is

  pub in_group-absent_key : (key : List ℕ) (n : ℕ) (slots : List KeyedSlot) → slot_by_key at slots key ≡ None → in_group (groups_of at slots) key n ≡ false
  in_group-absent_key key n slots is = in_group-under key n slots ∙ ap (λ o. is_member n (group_under at o)) is

  -- the key stands under its slot
  key-live : (key : List ℕ) (slots : List KeyedSlot) (slot : ℕ) → slot_by_key at slots key ≡ Some slot → key_at at slot ≡ Some key
  key-live key [] slot is = cc
  key-live key (m ∷ ms) slot is = of_key (key_at at m.slot) refl is (key-live key ms slot)
    where
      rest : List (ℕ × List ℕ)
      rest = held_of (key_at at) ms

      of_same : (name : List ℕ) (b : Bool) → key_at at m.slot ≡ Some name → is_eq (name_cmp name key) ≡ b →
          option_map (λ (h : ℕ × List ℕ). h.0) (cond b (Some (m.slot, name)) (find (λ (h : ℕ × List ℕ). is_eq (name_cmp h.1 key)) rest)) ≡ Some slot →
          (slot_by_key at ms key ≡ Some slot → key_at at slot ≡ Some key) → key_at at slot ≡ Some key
      of_same name true there same is behind =
          let slots_same : m.slot ≡ slot = cc in
          ap (key_at at) (sym slots_same) ∙ there ∙ ap Some ((bytes_eq-Decides name key).0 (texts_ties name key ∙ same))
      of_same name false there same is behind = behind is

      of_key : (o : Option (List ℕ)) → key_at at m.slot ≡ o →
          option_map (λ (h : ℕ × List ℕ). h.0) (find (λ (h : ℕ × List ℕ). is_eq (name_cmp h.1 key)) (cons_option (option_map (λ (name : List ℕ). (m.slot, name)) o) rest)) ≡ Some slot →
          (slot_by_key at ms key ≡ Some slot → key_at at slot ≡ Some key) → key_at at slot ≡ Some key
      of_key None there is behind = behind is
      of_key (Some name) there is behind = of_same name (is_eq (name_cmp name key)) there refl is behind

  -- a key that has no group, from which a property is taken out
  pub in_group-missing : (key : List ℕ) (p : PropId) (slots : List KeyedSlot) → slot_by_key at slots key ≡ None → (k : List ℕ) (n : ℕ) →
      in_group (groups_of at slots) k n ≡ cond (bytes_eq key k) (not (p.0 == n) && in_group (groups_of at slots) k n) (in_group (groups_of at slots) k n)
  in_group-missing key p slots absent k n =
      missing (bytes_eq key k) (in_group (groups_of at slots) k n) (p.0 == n)
      (λ e. ap (λ t. in_group (groups_of at slots) t n) (sym ((bytes_eq-Decides key k).0 e)) ∙ in_group-absent_key key n slots absent)
    where
      missing : (b x t : Bool) → (b ≡ true → x ≡ false) → x ≡ cond b (not t && x) x
      missing true true t none = absurd (false≢true (sym (none refl)))
      missing true false true none = refl
      missing true false false none = refl
      missing false x t none = refl

-- no groups
pub AreFoundByKey-nil : (at : ℕ → Option Grouped) (slots : List KeyedSlot) → slots ≡ [] → AreFoundByKey at slots
AreFoundByKey-nil at slots none = AreKeyed-nil hash_of name_cmp nat_list_cmp_total exact_bytes (key_at at) slots none

module _ (at : ℕ → Option Grouped) (slots : List KeyedSlot) (are : AreFoundByKey at slots) where
  -- a search by the hash of a key
  pub IsInOrder-key : (hash : ℕ) (key : List ℕ) → hash ≡ hash_of key → IsInOrder hash (key_place at key) slots
  IsInOrder-key hash key is =
      subst (λ n. IsInOrder n (key_place at key) slots) (sym is) (IsInOrder-keyed hash_of name_cmp nat_list_cmp_total exact_bytes (key_at at) slots are key)

  pub slot_of-key : (hash : ℕ) (key : List ℕ) → hash ≡ hash_of key → slot_there hash (key_place at key) slots ≡ slot_by_key at slots key
  slot_of-key hash key is =
      ap (λ n. slot_there n (key_place at key) slots) is ∙ slot_of-keyed hash_of name_cmp nat_list_cmp_total exact_bytes (key_at at) slots are key

  -- the groups are what they were
  pub AreFoundByKey-same : (new : ℕ → Option Grouped) (same : List KeyedSlot) → ((n : ℕ) → key_at new n ≡ key_at at n) → same ≡ slots → AreFoundByKey new same
  AreFoundByKey-same new same keys is = AreKeyed-same hash_of name_cmp nat_list_cmp_total exact_bytes (key_at at) (key_at new) slots same keys is are

  -- ---- one group changes

  module _ (new : ℕ → Option Grouped) (slot : ℕ) (others : (n : ℕ) → n ≢ slot → new n ≡ at n) where
    other_keys : (n : ℕ) → n ≢ slot → key_at new n ≡ key_at at n
    other_keys n other = ap (option_map (λ (g : Grouped). g.key)) (others n other)

    -- a key that does not stand under the slot finds the group that it found
    elsewhere : (key : List ℕ) (o : Option ℕ) → slot_by_key at slots key ≡ o → (key_at at slot ≡ Some key → ⊥) → group_under new o ≡ group_under at o
    elsewhere key None is apart = refl
    elsewhere key (Some other) is apart = others other (λ e. apart (ap (key_at at) (sym e) ∙ key-live at key slots other is))

    -- what is found by a key where one key alone finds another slot
    by_test : (k : List ℕ) (n : ℕ) (b : Bool) (target : Option ℕ) (value : Bool) → is_member n (group_under new target) ≡ value → (b ≡ false → key_at at slot ≡ Some k → ⊥) →
        is_member n (group_under new (cond b target (slot_by_key at slots k))) ≡ cond b value (in_group (groups_of at slots) k n)
    by_test k n true target value is apart = is
    by_test k n false target value is apart = ap (is_member n) (elsewhere k (slot_by_key at slots k) refl (apart refl)) ∙ sym (in_group-under at k n slots)

    -- another key than that under the slot
    apart-live : (key k : List ℕ) → key_at at slot ≡ Some key → bytes_eq key k ≡ false → key_at at slot ≡ Some k → ⊥
    apart-live key k there e also =
        let both : Some key ≡ Some k = sym there ∙ also in
        let names : key ≡ k = cc in
        false≢true (sym e ∙ (bytes_eq-Decides key k).1 names)

    module _ (key : List ℕ) where
      -- the group stays under its key
      module _ (there : slot_by_key at slots key ≡ Some slot) (keys : (n : ℕ) → key_at new n ≡ key_at at n) where
        same_slot : (k : List ℕ) → slot_by_key new slots k ≡ cond (bytes_eq key k) (Some slot) (slot_by_key at slots k)
        same_slot k =
            ap (λ (f : ℕ → Option (List ℕ)). slot_under name_cmp f slots k) (λ i n. keys n i)
            ∙ ⊎_elim
            (λ e. ap (slot_by_key at slots) (sym ((bytes_eq-Decides key k).0 e)) ∙ there ∙ sym (ap (λ b. cond b (Some slot) (slot_by_key at slots k)) e))
            (λ e. sym (ap (λ b. cond b (Some slot) (slot_by_key at slots k)) e))
            (cases_Bool (bytes_eq key k))

        in_group-written : (k : List ℕ) (n : ℕ) → in_group (groups_of new slots) k n ≡ cond (bytes_eq key k) (is_member n (new slot)) (in_group (groups_of at slots) k n)
        in_group-written k n =
            in_group-under new k n slots ∙ ap (λ o. is_member n (group_under new o)) (same_slot k)
            ∙ by_test k n (bytes_eq key k) (Some slot) (is_member n (new slot)) refl (apart-live key k (key-live at key slots slot there))

        -- what stood in the group of the key
        was : (k : List ℕ) (n : ℕ) → bytes_eq key k ≡ true → is_member n (at slot) ≡ in_group (groups_of at slots) k n
        was k n e = sym (in_group-at at key n slots slot there) ∙ ap (λ t. in_group (groups_of at slots) t n) ((bytes_eq-Decides key k).0 e)

        -- of two choices the first may rest on the test
        chosen : (b x y z : Bool) → (b ≡ true → x ≡ y) → cond b x z ≡ cond b y z
        chosen true x y z same = same refl
        chosen false x y z same = refl

        put-member : (p : PropId) (n : ℕ) (o : Option Grouped) → is_some o ≡ true → is_member n (option_map (with_member p) o) ≡ ((p.0 == n) || is_member n o)
        put-member p n None some = absurd (false≢true some)
        put-member p n (Some g) some = has_number-with_number (numbered n) p g.members

        taken-member : (p : PropId) (n : ℕ) (o : Option Grouped) → is_member n (option_map (without_member p) o) ≡ (not (p.0 == n) && is_member n o)
        taken-member p n None = never (p.0 == n)
          where
            never : (b : Bool) → false ≡ (not b && false)
            never true = refl
            never false = refl
        taken-member p n (Some g) = has_number-filter (numbered n) (λ (q : PropId). not (q.0 == p.0)) g.members ∙ ap (λ a. not a && has_number n g.members) turned
          where
            turned : (n == p.0) ≡ (p.0 == n)
            turned = grind arith

        live : is_some (at slot) ≡ true
        live = sym (is_some-option_map (λ (g : Grouped). g.key) (at slot)) ∙ ap is_some (key-live at key slots slot there)

        pub in_group-put : (p : PropId) → new slot ≡ option_map (with_member p) (at slot) →
            (k : List ℕ) (n : ℕ) → in_group (groups_of new slots) k n ≡ cond (bytes_eq key k) ((p.0 == n) || in_group (groups_of at slots) k n) (in_group (groups_of at slots) k n)
        in_group-put p more k n =
            in_group-written k n
            ∙ chosen (bytes_eq key k) (is_member n (new slot)) ((p.0 == n) || in_group (groups_of at slots) k n) (in_group (groups_of at slots) k n)
            (λ e. ap (is_member n) more ∙ put-member p n (at slot) live ∙ ap (λ b. (p.0 == n) || b) (was k n e))

        pub in_group-kept : new slot ≡ at slot → (k : List ℕ) (n : ℕ) → in_group (groups_of new slots) k n ≡ in_group (groups_of at slots) k n
        in_group-kept same k n =
            in_group-written k n
            ∙ chosen (bytes_eq key k) (is_member n (new slot)) (in_group (groups_of at slots) k n) (in_group (groups_of at slots) k n) (λ e. ap (is_member n) same ∙ was k n e)
            ∙ either (bytes_eq key k) (in_group (groups_of at slots) k n)
          where
            either : (b x : Bool) → cond b x x ≡ x
            either true x = refl
            either false x = refl

        pub in_group-taken : (p : PropId) → new slot ≡ option_map (without_member p) (at slot) →
            (k : List ℕ) (n : ℕ) → in_group (groups_of new slots) k n ≡ cond (bytes_eq key k) (not (p.0 == n) && in_group (groups_of at slots) k n) (in_group (groups_of at slots) k n)
        in_group-taken p less k n =
            in_group-written k n
            ∙ chosen (bytes_eq key k) (is_member n (new slot)) (not (p.0 == n) && in_group (groups_of at slots) k n) (in_group (groups_of at slots) k n)
            (λ e. ap (is_member n) less ∙ taken-member p n (at slot) ∙ ap (λ b. not (p.0 == n) && b) (was k n e))

      module _ (new_slots : List KeyedSlot) (i : ℕ) (within : i ≤ length slots) (cut : IsCut (hash_of key) (key_place at key) slots i) where
        -- a group is opened
        module _ (absent : slot_by_key at slots key ≡ None) (free : at slot ≡ None) (p : PropId) (there : new slot ≡ Some (with_member p (record { key = key; members = [] })))
            (is : new_slots ≡ insert slots i (record { key = hash_of key; slot = slot })) where
          key_free : key_at at slot ≡ None
          key_free = ap (option_map (λ (g : Grouped). g.key)) free

          key_there : key_at new slot ≡ Some key
          key_there = ap (option_map (λ (g : Grouped). g.key)) there

          pub AreFoundByKey-opened : AreFoundByKey new new_slots
          AreFoundByKey-opened = AreKeyed-insert hash_of name_cmp nat_list_cmp_total exact_bytes (key_at at) (key_at new) slots new_slots are i within slot key cut other_keys absent key_free key_there is

          apart-free : (k : List ℕ) → key_at at slot ≡ Some k → ⊥
          apart-free k also = let both : None ≡ Some k = sym key_free ∙ also in cc

          pub in_group-opened : (k : List ℕ) (n : ℕ) → in_group (groups_of new new_slots) k n ≡ cond (bytes_eq key k) ((p.0 == n) || in_group (groups_of at slots) k n) (in_group (groups_of at slots) k n)
          in_group-opened k n =
              in_group-under new k n new_slots
              ∙ ap (λ o. is_member n (group_under new o)) (slot_under-insert hash_of name_cmp nat_list_cmp_total exact_bytes (key_at at) (key_at new) slots new_slots are i within slot key cut other_keys absent key_free key_there is k
              ∙ ap (λ b. cond b (Some slot) (slot_by_key at slots k)) (sym (texts_ties key k)))
              ∙ by_test k n (bytes_eq key k) (Some slot) ((p.0 == n) || false) (ap (is_member n) there ∙ has_number-with_number (numbered n) p []) (λ e. apart-free k)
              ∙ of_none (bytes_eq key k) (λ e. ap (λ t. in_group (groups_of at slots) t n) (sym ((bytes_eq-Decides key k).0 e)) ∙ in_group-absent_key at key n slots absent)
            where
              of_none : (b : Bool) → (b ≡ true → in_group (groups_of at slots) k n ≡ false) →
                  cond b ((p.0 == n) || false) (in_group (groups_of at slots) k n) ≡ cond b ((p.0 == n) || in_group (groups_of at slots) k n) (in_group (groups_of at slots) k n)
              of_none true none = ap (λ x. (p.0 == n) || x) (sym (none refl))
              of_none false none = refl

        -- a group is closed
        module _ (there : slot_by_key at slots key ≡ Some slot) where
          pub closed-within : i < length slots
          closed-within = place-within hash_of name_cmp nat_list_cmp_total exact_bytes (key_at at) (key_at new) slots new_slots are i within slot key cut other_keys (ap is_some there)

          module _ (is : new_slots ≡ remove slots i) where
            pub AreFoundByKey-closed : AreFoundByKey new new_slots
            AreFoundByKey-closed =
                AreKeyed-remove hash_of name_cmp nat_list_cmp_total exact_bytes (key_at at) (key_at new) slots new_slots are i within slot key cut other_keys (ap is_some there) (key-live at key slots slot there) is

            pub in_group-closed : ((n : ℕ) → is_member n (at slot) ≡ false) → (k : List ℕ) (n : ℕ) → in_group (groups_of new new_slots) k n ≡ in_group (groups_of at slots) k n
            in_group-closed empty k n =
                in_group-under new k n new_slots
                ∙ ap (λ o. is_member n (group_under new o)) (slot_under-remove hash_of name_cmp nat_list_cmp_total exact_bytes (key_at at) (key_at new) slots new_slots are i within slot key cut other_keys (ap is_some there) (key-live at key slots slot there) is k
                ∙ ap (λ b. cond b None (slot_by_key at slots k)) (sym (texts_ties key k)))
                ∙ by_test k n (bytes_eq key k) None false refl (apart-live key k (key-live at key slots slot there))
                ∙ of_none (bytes_eq key k) (λ e. ap (λ t. in_group (groups_of at slots) t n) (sym ((bytes_eq-Decides key k).0 e)) ∙ in_group-at at key n slots slot there ∙ empty n)
              where
                of_none : (b : Bool) → (b ≡ true → in_group (groups_of at slots) k n ≡ false) → cond b false (in_group (groups_of at slots) k n) ≡ in_group (groups_of at slots) k n
                of_none true none = sym (none refl)
                of_none false none = refl

-- nothing stands in a list of no members
pub has_number-none : (n : ℕ) (ps : List PropId) → true ≡ (length ps == 0) → has_number n ps ≡ false
has_number-none n [] none = refl
has_number-none n (p ∷ ps) none = let no : (length (p ∷ ps) == 0) ≡ false = grind arith in absurd (false≢true (sym no ∙ sym none))

-- ---- the groups of several keys

module _ {Z : Type 0} (keys : List (Vec ℕ Z)) where
  -- one key more
  pub is_among-more : (i : ℕ) (key : Vec ℕ Z) (k : List ℕ) → i < length keys → key ≡ get_or keys i key → is_among (take (i + 1) keys) k ≡ (is_among (take i keys) k || bytes_eq key.items k)
  is_among-more i key k within here =
      list_any_more (λ (x : Vec ℕ Z). bytes_eq x.items k) keys i key within
      ∙ ap (λ (x : Vec ℕ Z). is_among (take i keys) k || bytes_eq x.items k) (sym here)

  -- what is among the first of them is among them
  pub is_among-first : (i : ℕ) (k : List ℕ) → is_among keys k ≡ false → is_among (take i keys) k ≡ false
  is_among-first i k none =
      let both : (is_among (take i keys) k || is_among (drop i keys) k) ≡ false =
      sym (list_any-append (λ (x : Vec ℕ Z). bytes_eq x.items k) (take i keys) (drop i keys)) ∙ ap (λ ks. is_among ks k) (take-append-drop i keys) ∙ none in
      (or_parts (is_among (take i keys) k) (is_among (drop i keys) k) both).0
