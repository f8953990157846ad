-- Names under keyed slots: a search by a name finds its slot, and one more or one less leaves the slots in order.
use Rattle.std.proofs.Common.{◌≡◌, ℕ, ◌<◌, ◌≤◌, zero, suc, Bool, true, false, cond, not, ◌&&◌, ◌||◌, get_or, List, [], ◌∷◌, Option, Some, None, refl, sym, ap, ap₂, subst, ◌∙◌, ⊎_elim, map, filter, find, is_some, length, true≢false, arith}
use Rattle.std.specs.Prelude.{option_map, ◌==◌, nat_lt}
use Rattle.std.specs.Cmp.{IsTotalOrder}
use Rattle.std.specs.List.{cons_option, list_any, insert, remove}
use Rattle.std.specs.List.Sorted.{IsPartitionedBy, IsPartitionPoint}
use Rattle.std.specs.declared.cmp.Ordering.{Ordering}
use Rattle.std.specs.declared.cmp.Ordering.TheVariants.{Less, Equal, Greater}
use Rattle.std.specs.Ordering.{nat_cmp, is_lt, is_eq, ordering_then}
use Rattle.std.proofs.lemmas.Bool.{cases_Bool, and_right, eq-eqb, false≢true}
use Rattle.std.proofs.lemmas.Cmp.{nat_cmp_total, on_total, then_total, tied_itself}
use Rattle.std.proofs.lemmas.List.{get_or-map, length-map}
use Rattle.std.proofs.lemmas.List.Elements.{filter_agree}
use Rattle.std.proofs.lemmas.Map.Lookups.{CmpEqualImpliesEq}
use Rattle.std.proofs.Math.Bool.{not-and_self}
use Rattle.ec_lists.proofs.Booleans.{cond_comm, option_map-cond, or_second}
use Rattle.ec_lists.proofs.Finds.{find_agree, find-filter, is_some-find, find-None_cons}
use Rattle.ec_lists.proofs.Options.{is_some-option_map, None-from_option_map}
use Rattle.ec_lists.proofs.Orderings.{Equal-from_is_eq, is_eq-then}
use Rattle.ec_lists.proofs.Tests.{list_any-same}
use Rattle.ec_rows.specs.Ordered.{is_ascending, with_member}
use Rattle.ec_rows.proofs.OrderedLemmas.{IsPlace, IsOrder, IsPlace-by_key, IsOrder-by_key, is_at, is_eq-is_at, IsPartitionedBy-ascending, take-partition, filter-behind_free, free-from_none, filter-not_at, at-from_any, is_ascending-with_member, is_ascending-remove, with_member-free}
use Rattle.ec_store.specs.Slots.{is_in_front, is_there, slot_of, IsInOrder}
use Rattle.ec_store.specs.Held.{held_of, keyed, keyed_cmp, held_before, AreKeyed, slot_under, place_to}
use Rattle.ec_store.specs.declared.slots.KeyedSlot.{KeyedSlot}
use Rattle.ec_store.proofs.SlotLemmas.{IsCut}

-- ---- lists

pub map-insert : {X Y : Type 0} (f : X → Y) (xs : List X) (i : ℕ) (x : X) → insert (map f xs) i (f x) ≡ map f (insert xs i x)
map-insert f [] zero x = refl
map-insert f [] (suc i) x = refl
map-insert f (y ∷ ys) zero x = refl
map-insert f (y ∷ ys) (suc i) x = ap (λ zs. f y ∷ zs) (map-insert f ys i x)

pub map-remove : {X Y : Type 0} (f : X → Y) (xs : List X) (i : ℕ) → remove (map f xs) i ≡ map f (remove xs i)
map-remove f [] zero = refl
map-remove f [] (suc i) = refl
map-remove f (y ∷ ys) zero = refl
map-remove f (y ∷ ys) (suc i) = ap (λ zs. f y ∷ zs) (map-remove f ys i)

-- the order as the search asks for it
lt-then : (a b : Bool) (o : Ordering) → (a || (b && is_lt o)) ≡ is_lt (ordering_then (cond a Less (cond b Equal Greater)) o)
lt-then true b o = refl
lt-then false true o = refl
lt-then false false o = refl

-- ---- names under their slots

module _ {M : Type 0} where
  -- each name is the one under its slot
  abbrev pub AllHeld : (ℕ → Option M) → List (ℕ × M) → Type 0
  AllHeld name_at [] = Unit {0}
  AllHeld name_at (h ∷ hs) = (name_at h.0 ≡ Some h.1) × AllHeld name_at hs

  held-one : (name_at : ℕ → Option M) (slot : ℕ) (found : Option M) (rest : List (ℕ × M)) → name_at slot ≡ found → AllHeld name_at rest →
      AllHeld name_at (cons_option (option_map (λ name. (slot, name)) found) rest)
  held-one name_at slot None rest is held = held
  held-one name_at slot (Some name) rest is held = (is, held)

  AllHeld-held_of : (name_at : ℕ → Option M) (slots : List KeyedSlot) → AllHeld name_at (held_of name_at slots)
  AllHeld-held_of name_at [] = tt
  AllHeld-held_of name_at (m ∷ ms) = held-one name_at m.slot (name_at m.slot) (held_of name_at ms) refl (AllHeld-held_of name_at ms)

  held_of-keyed : (key : M → ℕ) (name_at : ℕ → Option M) (hs : List (ℕ × M)) → AllHeld name_at hs → held_of name_at (map (keyed key) hs) ≡ hs
  held_of-keyed key name_at [] held = refl
  held_of-keyed key name_at (h ∷ hs) held =
      ap₂ (λ found rest. cons_option (option_map (λ name. (h.0, name)) found) rest) held.0 (held_of-keyed key name_at hs held.1)

  AllHeld-at : (name_at : ℕ → Option M) (hs : List (ℕ × M)) (i : ℕ) (d : ℕ × M) → AllHeld name_at hs → i < length hs →
      name_at (get_or hs i d).0 ≡ Some (get_or hs i d).1
  AllHeld-at name_at [] i d held within = absurd (omega arith)
  AllHeld-at name_at (h ∷ hs) zero d held within = held.0
  AllHeld-at name_at (h ∷ hs) (suc i) d held within = AllHeld-at name_at hs i d held.1 (omega arith)

  AllHeld-insert : (name_at : ℕ → Option M) (h : ℕ × M) (hs : List (ℕ × M)) (i : ℕ) → name_at h.0 ≡ Some h.1 → AllHeld name_at hs → AllHeld name_at (insert hs i h)
  AllHeld-insert name_at h [] zero here held = (here, tt)
  AllHeld-insert name_at h [] (suc i) here held = (here, tt)
  AllHeld-insert name_at h (j ∷ js) zero here held = (here, held)
  AllHeld-insert name_at h (j ∷ js) (suc i) here held = (held.0, AllHeld-insert name_at h js i here held.1)

  -- another name elsewhere
  AllHeld-others : (name_at new : ℕ → Option M) (slot : ℕ) (hs : List (ℕ × M)) → AllHeld name_at hs → name_at slot ≡ None →
      ((n : ℕ) → (n ≡ slot → ⊥) → new n ≡ name_at n) → AllHeld new hs
  AllHeld-others name_at new slot [] held none others = tt
  AllHeld-others name_at new slot (h ∷ hs) held none others =
      (others h.0 (λ is. let both : Some h.1 ≡ None = sym held.0 ∙ ap name_at is ∙ none in cc) ∙ held.0, AllHeld-others name_at new slot hs held.1 none others)

module _ {M : Type 0} (key : M → ℕ) (cmp : M → M → Ordering) (total : IsTotalOrder cmp) (exact : CmpEqualImpliesEq cmp) where
  -- ---- the order

  keyed-total : IsTotalOrder (keyed_cmp key cmp)
  keyed-total = then_total (on_total key nat_cmp_total) total

  -- names that are the same have one key
  same-key : (a b : M) → is_eq (cmp a b) ≡ true → key a ≡ key b
  same-key a b same = ap key (exact a b (Equal-from_is_eq (cmp a b) same))

  is_eq-keyed : (a b : M) → is_eq (keyed_cmp key cmp a b) ≡ is_eq (cmp a b)
  is_eq-keyed a b =
      is_eq-then (nat_cmp (key a) (key b)) (cmp a b)
      ∙ ⊎_elim
      (λ e. ap (λ n. is_eq (nat_cmp (key a) n) && is_eq (cmp a b)) (sym (same-key a b e)) ∙ ap (λ o. is_eq o && is_eq (cmp a b)) (tied_itself nat_cmp_total (key a)))
      (λ e. and_right (is_eq (nat_cmp (key a) (key b))) (is_eq (cmp a b)) e ∙ sym e)
      (cases_Bool (is_eq (cmp a b)))

  eqb-keyed : (a b : M) → ((key a == key b) && is_eq (cmp a b)) ≡ is_eq (cmp a b)
  eqb-keyed a b =
      ⊎_elim
      (λ e. ap (λ k. k && is_eq (cmp a b)) (eq-eqb (key a) (key b) (same-key a b e)))
      (λ e. and_right (key a == key b) (is_eq (cmp a b)) e ∙ sym e)
      (cases_Bool (is_eq (cmp a b)))

  -- a name stands before another one, and behind it
  abbrev before : M → ℕ × M → Bool
  before sought h = is_lt (keyed_cmp key cmp h.1 sought)

  abbrev behind : M → ℕ × M → Bool
  behind sought h = is_lt (keyed_cmp key cmp sought h.1)

  -- a name is another one
  abbrev named : M → ℕ × M → Bool
  named sought h = is_eq (cmp h.1 sought)

  place : (sought : M) → IsPlace (held_before key cmp) (before sought) (behind sought)
  place sought = IsPlace-by_key (keyed_cmp key cmp) keyed-total (λ (h : ℕ × M). h.1) sought

  order : IsOrder (held_before key cmp)
  order = IsOrder-by_key (keyed_cmp key cmp) keyed-total (λ (h : ℕ × M). h.1)

  named-is_at : (sought : M) (h : ℕ × M) → named sought h ≡ is_at (before sought) (behind sought) h
  named-is_at sought h = sym (is_eq-keyed h.1 sought) ∙ is_eq-is_at (keyed_cmp key cmp) keyed-total (λ (h : ℕ × M). h.1) sought h

  any-is_at : (sought : M) (hs : List (ℕ × M)) → list_any (named sought) hs ≡ list_any (is_at (before sought) (behind sought)) hs
  any-is_at sought hs = list_any-same (named sought) (is_at (before sought) (behind sought)) (named-is_at sought) hs

  -- the slot of a name in a list of them
  abbrev found : M → List (ℕ × M) → Option ℕ
  found sought hs = option_map (λ (h : ℕ × M). h.0) (find (named sought) hs)

  any-found : (sought : M) (hs : List (ℕ × M)) → is_some (found sought hs) ≡ list_any (named sought) hs
  any-found sought hs = is_some-option_map (λ (h : ℕ × M). h.0) (find (named sought) hs) ∙ is_some-find (named sought) hs

  found-cons : (sought : M) (h : ℕ × M) (hs : List (ℕ × M)) → found sought (h ∷ hs) ≡ cond (named sought h) (Some h.0) (found sought hs)
  found-cons sought h hs = option_map-cond (λ (j : ℕ × M). j.0) (named sought h) h (find (named sought) hs)

  absent-cons : (sought : M) (h : ℕ × M) (hs : List (ℕ × M)) → found sought (h ∷ hs) ≡ None → (named sought h ≡ false) × (found sought hs ≡ None)
  absent-cons sought h hs none =
      let both = find-None_cons (named sought) h hs (None-from_option_map (λ (j : ℕ × M). j.0) (find (named sought) (h ∷ hs)) none) in
      (both.0, ap (option_map (λ (j : ℕ × M). j.0)) both.1)

  -- names are cut where they stop to stand before a name
  abbrev pub IsCutAt : M → List (ℕ × M) → ℕ → Type 0
  IsCutAt sought hs i = IsPartitionPoint (λ h. before sought h ≡ true) (λ h. before sought h ≡ false) hs i

  -- ---- one more

  found-insert : (h : ℕ × M) (hs : List (ℕ × M)) (i : ℕ) (sought : M) → found h.1 hs ≡ None → found sought (insert hs i h) ≡ cond (named sought h) (Some h.0) (found sought hs)
  found-insert h [] zero sought none = found-cons sought h []
  found-insert h [] (suc i) sought none = found-cons sought h []
  found-insert h (j ∷ js) zero sought none = found-cons sought h (j ∷ js)
  found-insert h (j ∷ js) (suc i) sought none =
      let both = absent-cons h.1 j js none in
      let ih : found sought (insert js i h) ≡ cond (named sought h) (Some h.0) (found sought js) = found-insert h js i sought both.1 in
      let apart : named sought h ≡ true → named sought j ≡ false =
      λ e. ap (λ m. is_eq (cmp j.1 m)) (sym (exact h.1 sought (Equal-from_is_eq (cmp h.1 sought) e))) ∙ both.0 in
      found-cons sought j (insert js i h)
      ∙ ap (λ o. cond (named sought j) (Some j.0) o) ih
      ∙ cond_comm (named sought j) (named sought h) (Some j.0) (Some h.0) (found sought js) apart
      ∙ ap (λ o. cond (named sought h) (Some h.0) o) (sym (found-cons sought j js))

  ordered-insert : (h : ℕ × M) (hs : List (ℕ × M)) (i : ℕ) → is_ascending (held_before key cmp) hs ≡ true → IsCutAt h.1 hs i → found h.1 hs ≡ None →
      is_ascending (held_before key cmp) (insert hs i h) ≡ true
  ordered-insert h hs i ascending cut none =
      let free : (d : ℕ × M) → i < length hs → behind h.1 (get_or hs i d) ≡ true =
      free-from_none (before h.1) (behind h.1) hs i cut (sym (any-is_at h.1 hs) ∙ sym (any-found h.1 hs) ∙ ap is_some none) in
      let is : insert hs i h ≡ with_member (held_before key cmp) h hs =
      with_member-free (held_before key cmp) h hs i (take-partition (before h.1) hs i cut)
      (sym (filter-behind_free (held_before key cmp) (before h.1) (behind h.1) (place h.1) hs i ascending cut free)) in
      ap (is_ascending (held_before key cmp)) is ∙ is_ascending-with_member (held_before key cmp) order h hs ascending

  -- ---- one less

  -- the names without one
  abbrev without : M → List (ℕ × M) → List (ℕ × M)
  without name hs = filter (λ h. not (named name h)) hs

  present-at : (sought : M) (hs : List (ℕ × M)) (i : ℕ) → is_ascending (held_before key cmp) hs ≡ true → IsCutAt sought hs i → is_some (found sought hs) ≡ true →
      (i < length hs) × ((d : ℕ × M) → behind sought (get_or hs i d) ≡ false)
  present-at sought hs i ascending cut present =
      at-from_any (held_before key cmp) (before sought) (behind sought) (place sought) hs i ascending cut (sym (any-is_at sought hs) ∙ sym (any-found sought hs) ∙ present)

  remove-without : (sought : M) (hs : List (ℕ × M)) (i : ℕ) → is_ascending (held_before key cmp) hs ≡ true → IsCutAt sought hs i → is_some (found sought hs) ≡ true →
      remove hs i ≡ without sought hs
  remove-without sought [] i ascending cut present = absurd (false≢true present)
  remove-without sought (h ∷ hs) i ascending cut present =
      let there = present-at sought (h ∷ hs) i ascending cut present in
      sym (filter-not_at (held_before key cmp) (before sought) (behind sought) (place sought) (h ∷ hs) i h ascending cut there.0 (there.1 h))
      ∙ sym (filter_agree (λ (h : ℕ × M). not (named sought h)) (λ h. not (is_at (before sought) (behind sought) h)) (λ h. ap not (named-is_at sought h)) (h ∷ hs))

  -- a name that is another one is found as that one
  both-named : (name sought : M) (h : ℕ × M) → is_eq (cmp name sought) ≡ true → (not (named name h) && named sought h) ≡ false
  both-named name sought h same =
      ap (λ m. not (is_eq (cmp h.1 m)) && named sought h) (exact name sought (Equal-from_is_eq (cmp name sought) same)) ∙ not-and_self (named sought h)

  other-named : (name sought : M) (h : ℕ × M) → is_eq (cmp name sought) ≡ false → (not (named name h) && named sought h) ≡ named sought h
  other-named name sought h other =
      ⊎_elim
      (λ e. ⊎_elim
      (λ both. absurd (true≢false (sym (ap is_eq (tied_itself total h.1)) ∙ ap₂ (λ a b. is_eq (cmp a b)) (exact h.1 name (Equal-from_is_eq (cmp h.1 name) both)) (exact h.1 sought (Equal-from_is_eq (cmp h.1 sought) e)) ∙ other)))
      (λ apart. ap (λ b. not b && named sought h) apart) (cases_Bool (named name h)))
      (λ e. and_right (not (named name h)) (named sought h) e ∙ sym e)
      (cases_Bool (named sought h))

  find-never : (p : ℕ × M → Bool) (hs : List (ℕ × M)) → ((h : ℕ × M) → p h ≡ false) → find p hs ≡ None
  find-never p [] never = refl
  find-never p (h ∷ hs) never = ap (λ b. cond b (Some h) (find p hs)) (never h) ∙ find-never p hs never

  found-without : (name : M) (hs : List (ℕ × M)) (sought : M) → found sought (without name hs) ≡ cond (is_eq (cmp name sought)) None (found sought hs)
  found-without name hs sought =
      ap (option_map (λ (h : ℕ × M). h.0)) (find-filter (named sought) (λ h. not (named name h)) hs)
      ∙ ⊎_elim
      (λ e. ap (option_map (λ (h : ℕ × M). h.0)) (find-never (λ h. not (named name h) && named sought h) hs (λ h. both-named name sought h e))
      ∙ sym (ap (λ b. cond b None (found sought hs)) e))
      (λ e. ap (option_map (λ (h : ℕ × M). h.0)) (find_agree (λ h. not (named name h) && named sought h) (named sought) (λ h. other-named name sought h e) hs)
      ∙ sym (ap (λ b. cond b None (found sought hs)) e))
      (cases_Bool (is_eq (cmp name sought)))

  AllHeld-without : (name_at new : ℕ → Option M) (slot : ℕ) (name : M) (hs : List (ℕ × M)) → AllHeld name_at hs → name_at slot ≡ Some name →
      ((n : ℕ) → (n ≡ slot → ⊥) → new n ≡ name_at n) → AllHeld new (without name hs)
  AllHeld-without name_at new slot name [] held live others = tt
  AllHeld-without name_at new slot name (h ∷ hs) held live others =
      let rest : List (ℕ × M) = without name hs in
      let ih : AllHeld new rest = AllHeld-without name_at new slot name hs held.1 live others in
      ⊎_elim
      (λ e. subst (λ b. AllHeld new (cond (not b) (h ∷ rest) rest)) (sym e) ih)
      (λ e. subst (λ b. AllHeld new (cond (not b) (h ∷ rest) rest)) (sym e) (
        others h.0 (λ is. let both : Some h.1 ≡ Some name = sym held.0 ∙ ap name_at is ∙ live in
            let same : h.1 ≡ name = cc in
            false≢true (sym e ∙ ap (λ m. is_eq (cmp m name)) same ∙ ap is_eq (tied_itself total name))) ∙ held.0,
        ih,
      ))
      (cases_Bool (named name h))

  module _ (name_at : ℕ → Option M) where
    -- ---- what a search asks and what it finds

    -- how what stands under a slot stands to a name
    abbrev place_of : M → ℕ → Ordering
    place_of sought slot = place_to cmp sought (name_at slot)

    in_front-before : (sought : M) (h : ℕ × M) → name_at h.0 ≡ Some h.1 → is_in_front (key sought) (place_of sought) (keyed key h) ≡ before sought h
    in_front-before sought h there =
        ap (λ o. nat_lt (key h.1) (key sought) || (key h.1 == key sought && is_lt (place_to cmp sought o))) there
        ∙ lt-then (nat_lt (key h.1) (key sought)) (key h.1 == key sought) (cmp h.1 sought)

    there-named : (sought : M) (h : ℕ × M) → name_at h.0 ≡ Some h.1 → is_there (key sought) (place_of sought) (keyed key h) ≡ named sought h
    there-named sought h there = ap (λ o. key h.1 == key sought && is_eq (place_to cmp sought o)) there ∙ eqb-keyed h.1 sought

    -- a test of slots that is a test of the names
    module _ (p : KeyedSlot → Bool) (q : ℕ × M → Bool) (same : (h : ℕ × M) → name_at h.0 ≡ Some h.1 → p (keyed key h) ≡ q h) where
      test-at : (hs : List (ℕ × M)) (n : ℕ) (d : ℕ × M) (e : KeyedSlot) → AllHeld name_at hs → n < length hs → p (get_or (map (keyed key) hs) n e) ≡ q (get_or hs n d)
      test-at hs n d e all within = ap p (get_or-map (keyed key) hs n d e within) ∙ same (get_or hs n d) (AllHeld-at name_at hs n d all within)

      parted-map : (hs : List (ℕ × M)) → AllHeld name_at hs → IsPartitionedBy q hs → IsPartitionedBy p (map (keyed key) hs)
      parted-map [] all parted i j d le within passes = absurd (omega arith)
      parted-map (h ∷ hs) all parted i j d le within passes =
          let inside : j < length (h ∷ hs) = subst (λ n. j < n) (length-map (h ∷ hs) (keyed key)) within in
          test-at (h ∷ hs) i h d all (omega arith) ∙ parted i j h le inside (sym (test-at (h ∷ hs) j h d all inside) ∙ passes)

      cut-map : (hs : List (ℕ × M)) (i : ℕ) → AllHeld name_at hs → i ≤ length hs →
          IsPartitionPoint (λ m. p m ≡ true) (λ m. p m ≡ false) (map (keyed key) hs) i → IsPartitionPoint (λ h. q h ≡ true) (λ h. q h ≡ false) hs i
      cut-map hs i all within cut = (
        λ n d low high. sym (test-at hs n d (keyed key d) all (omega arith)) ∙ cut.0 n (keyed key d) low high,
        λ n d low high. sym (test-at hs n d (keyed key d) all high) ∙ cut.1 n (keyed key d) low (subst (λ m. n < m) (sym (length-map hs (keyed key))) high),
      )

    -- what stands before a name or is it
    keeps-up_to : (sought : M) (x y : ℕ × M) → held_before key cmp x y ≡ true → (before sought y || named sought y) ≡ true → (before sought x || named sought x) ≡ true
    keeps-up_to sought x y first second =
        let front : before sought x ≡ true =
        ⊎_elim
        (λ e. (place sought).keeps x y first e)
        (λ e. ap (λ m. is_lt (keyed_cmp key cmp x.1 m)) (sym (exact y.1 sought (Equal-from_is_eq (cmp y.1 sought) (or_second (before sought y) (named sought y) e second)))) ∙ first)
        (cases_Bool (before sought y)) in
        ap (λ b. b || named sought x) front

    -- a name before another one has no greater key
    least-key : (a b : ℕ) (o : Ordering) → is_lt (ordering_then (nat_cmp a b) o) ≡ true → nat_lt b a ≡ false
    least-key a b o less = of_tests (nat_lt a b) (a == b) refl refl less
      where
        other_way : (m n : ℕ) → (nat_lt m n || (m == n)) ≡ true → nat_lt n m ≡ false
        other_way m n upto = grind arith

        of_tests : (x y : Bool) → nat_lt a b ≡ x → (a == b) ≡ y → is_lt (ordering_then (cond (nat_lt a b) Less (cond (a == b) Equal Greater)) o) ≡ true → nat_lt b a ≡ false
        of_tests true y first second less = other_way a b (ap₂ (λ u v. u || v) first second)
        of_tests false true first second less = other_way a b (ap₂ (λ u v. u || v) first second)
        of_tests false false first second less =
            absurd (false≢true (sym (ap₂ (λ u v. is_lt (ordering_then (cond u Less (cond v Equal Greater)) o)) first second) ∙ less))

    keeps-keys : (k : ℕ) (x y : ℕ × M) → held_before key cmp x y ≡ true → nat_lt (key y.1) k ≡ true → nat_lt (key x.1) k ≡ true
    keeps-keys k x y first second = through (key x.1) (key y.1) k (least-key (key x.1) (key y.1) (cmp x.1 y.1) first) second
      where
        through : (a b c : ℕ) → nat_lt b a ≡ false → nat_lt b c ≡ true → nat_lt a c ≡ true
        through a b c upto less = grind arith

    -- a search by a name
    pub IsInOrder-keyed : (slots : List KeyedSlot) → AreKeyed key cmp name_at slots → (sought : M) → IsInOrder (key sought) (place_of sought) slots
    IsInOrder-keyed slots are sought =
        let hs : List (ℕ × M) = held_of name_at slots in
        let all = AllHeld-held_of name_at slots in
        record {
          keys = subst (IsPartitionedBy (λ (m : KeyedSlot). nat_lt m.key (key sought))) (sym are.under)
              (parted-map (λ m. nat_lt m.key (key sought)) (λ h. nat_lt (key h.1) (key sought)) (λ h there. refl) hs all
              (IsPartitionedBy-ascending (held_before key cmp) (λ h. nat_lt (key h.1) (key sought)) (keeps-keys (key sought)) hs are.ordered));
          front = subst (IsPartitionedBy (is_in_front (key sought) (place_of sought))) (sym are.under)
              (parted-map (is_in_front (key sought) (place_of sought)) (before sought) (in_front-before sought) hs all
              (IsPartitionedBy-ascending (held_before key cmp) (before sought) (place sought).keeps hs are.ordered));
          up_to = subst (IsPartitionedBy (λ m. is_in_front (key sought) (place_of sought) m || is_there (key sought) (place_of sought) m)) (sym are.under)
              (parted-map (λ m. is_in_front (key sought) (place_of sought) m || is_there (key sought) (place_of sought) m) (λ h. before sought h || named sought h)
              (λ h there. ap₂ (λ a b. a || b) (in_front-before sought h there) (there-named sought h there)) hs all
              (IsPartitionedBy-ascending (held_before key cmp) (λ h. before sought h || named sought h) (keeps-up_to sought) hs are.ordered));
        }

    either : (b : Bool) (m : KeyedSlot) (h : ℕ × M) (o : Option KeyedSlot) (p : Option (ℕ × M)) → m.slot ≡ h.0 →
        option_map (λ (m : KeyedSlot). m.slot) o ≡ option_map (λ (h : ℕ × M). h.0) p →
        option_map (λ (m : KeyedSlot). m.slot) (cond b (Some m) o) ≡ option_map (λ (h : ℕ × M). h.0) (cond b (Some h) p)
    either true m h o p is rest = ap Some is
    either false m h o p is rest = rest

    found-map : (sought : M) (hs : List (ℕ × M)) → AllHeld name_at hs → slot_of (key sought) (place_of sought) (map (keyed key) hs) ≡ found sought hs
    found-map sought [] all = refl
    found-map sought (h ∷ hs) all =
        ap (λ b. option_map (λ (m : KeyedSlot). m.slot) (cond b (Some (keyed key h)) (find (is_there (key sought) (place_of sought)) (map (keyed key) hs)))) (there-named sought h all.0)
        ∙ either (named sought h) (keyed key h) h (find (is_there (key sought) (place_of sought)) (map (keyed key) hs)) (find (named sought) hs) refl (found-map sought hs all.1)

    -- finds the slot of the name
    pub slot_of-keyed : (slots : List KeyedSlot) → AreKeyed key cmp name_at slots → (sought : M) →
        slot_of (key sought) (place_of sought) slots ≡ slot_under cmp name_at slots sought
    slot_of-keyed slots are sought =
        ap (slot_of (key sought) (place_of sought)) are.under ∙ found-map sought (held_of name_at slots) (AllHeld-held_of name_at slots)

    length-held : (slots : List KeyedSlot) → AreKeyed key cmp name_at slots → length slots ≡ length (held_of name_at slots)
    length-held slots are = ap length are.under ∙ length-map (held_of name_at slots) (keyed key)

    IsCutAt-slots : (slots : List KeyedSlot) (i : ℕ) (sought : M) → AreKeyed key cmp name_at slots → i ≤ length slots → IsCut (key sought) (place_of sought) slots i →
        IsCutAt sought (held_of name_at slots) i
    IsCutAt-slots slots i sought are within cut =
        cut-map (is_in_front (key sought) (place_of sought)) (before sought) (in_front-before sought) (held_of name_at slots) i (AllHeld-held_of name_at slots)
        (subst (λ n. i ≤ n) (length-held slots are) within)
        (subst (λ ms. IsCut (key sought) (place_of sought) ms i) are.under cut)

    -- ---- edits

    -- no slots
    pub AreKeyed-nil : (slots : List KeyedSlot) → slots ≡ [] → AreKeyed key cmp name_at slots
    unfolding is_ascending
    AreKeyed-nil slots none = subst (AreKeyed key cmp name_at) (sym none) (record { under = refl; ordered = refl })

    -- the same slots and names
    pub AreKeyed-same : (new : ℕ → Option M) (slots same : List KeyedSlot) → ((n : ℕ) → new n ≡ name_at n) → same ≡ slots → AreKeyed key cmp name_at slots → AreKeyed key cmp new same
    AreKeyed-same new slots same names is are =
        subst (λ f. AreKeyed key cmp f same) (λ i n. sym (names n) i) (subst (AreKeyed key cmp name_at) (sym is) are)

    module _ (new_name : ℕ → Option M) (slots new : List KeyedSlot) (are : AreKeyed key cmp name_at slots) (i : ℕ) (within : i ≤ length slots) (slot : ℕ) (name : M)
        (cut : IsCut (key name) (place_of name) slots i) (others : (n : ℕ) → (n ≡ slot → ⊥) → new_name n ≡ name_at n) where
      cut_here : IsCutAt name (held_of name_at slots) i
      cut_here = IsCutAt-slots slots i name are within cut

      -- one more
      module _ (absent : slot_under cmp name_at slots name ≡ None) (free : name_at slot ≡ None) (there : new_name slot ≡ Some name)
          (is : new ≡ insert slots i (record { key = key name; slot = slot })) where
        inserted : new ≡ map (keyed key) (insert (held_of name_at slots) i (slot, name))
        inserted = is ∙ ap (λ ms. insert ms i (keyed key (slot, name))) are.under ∙ map-insert (keyed key) (held_of name_at slots) i (slot, name)

        held-inserted : held_of new_name new ≡ insert (held_of name_at slots) i (slot, name)
        held-inserted =
            ap (held_of new_name) inserted
            ∙ held_of-keyed key new_name (insert (held_of name_at slots) i (slot, name))
            (AllHeld-insert new_name (slot, name) (held_of name_at slots) i there (AllHeld-others name_at new_name slot (held_of name_at slots) (AllHeld-held_of name_at slots) free others))

        pub AreKeyed-insert : AreKeyed key cmp new_name new
        AreKeyed-insert = record {
          under = inserted ∙ ap (map (keyed key)) (sym held-inserted);
          ordered = ap (is_ascending (held_before key cmp)) held-inserted ∙ ordered-insert (slot, name) (held_of name_at slots) i are.ordered cut_here absent;
        }

        pub slot_under-insert : (sought : M) → slot_under cmp new_name new sought ≡ cond (is_eq (cmp name sought)) (Some slot) (slot_under cmp name_at slots sought)
        slot_under-insert sought = ap (found sought) held-inserted ∙ found-insert (slot, name) (held_of name_at slots) i sought absent

      -- one less
      module _ (present : is_some (slot_under cmp name_at slots name) ≡ true) where
        pub place-within : i < length slots
        place-within = subst (λ n. i < n) (sym (length-held slots are)) (present-at name (held_of name_at slots) i are.ordered cut_here present).0

        module _ (live : name_at slot ≡ Some name) (is : new ≡ remove slots i) where
          shorter : remove (held_of name_at slots) i ≡ without name (held_of name_at slots)
          shorter = remove-without name (held_of name_at slots) i are.ordered cut_here present

          removed : new ≡ map (keyed key) (without name (held_of name_at slots))
          removed = is ∙ ap (λ ms. remove ms i) are.under ∙ map-remove (keyed key) (held_of name_at slots) i ∙ ap (map (keyed key)) shorter

          held-removed : held_of new_name new ≡ without name (held_of name_at slots)
          held-removed =
              ap (held_of new_name) removed
              ∙ held_of-keyed key new_name (without name (held_of name_at slots))
              (AllHeld-without name_at new_name slot name (held_of name_at slots) (AllHeld-held_of name_at slots) live others)

          pub AreKeyed-remove : AreKeyed key cmp new_name new
          AreKeyed-remove = record {
            under = removed ∙ ap (map (keyed key)) (sym held-removed);
            ordered = ap (is_ascending (held_before key cmp)) (held-removed ∙ sym shorter) ∙ is_ascending-remove (held_before key cmp) (held_of name_at slots) i are.ordered;
          }

          pub slot_under-remove : (sought : M) → slot_under cmp new_name new sought ≡ cond (is_eq (cmp name sought)) None (slot_under cmp name_at slots sought)
          slot_under-remove sought = ap (found sought) held-removed ∙ found-without name (held_of name_at slots) sought
