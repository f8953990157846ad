-- The dependents of a property at an instant, taken in one by one.
use Rattle.std.proofs.Common.{◌≡◌, ℕ, ℤ, zero, suc, ◌+◌, Bool, true, false, not, ◌&&◌, ◌||◌, List, [], ◌∷◌, ◌++◌, take, Option, Some, None, refl, sym, ap, ap₂, ◌∙◌, ⊎_elim, arith}
use Rattle.std.specs.Prelude.{◌==◌, option_map, slice_get, unwrap_or}
use Rattle.std.specs.List.{list_any}
use Rattle.std.specs.Option.{option_map_or, option_to_list}
use Rattle.std.specs.Ordering.{int_eq}
use Rattle.std.proofs.lemmas.Bool.{cases_Bool, and_parts, eqb-true}
use Rattle.std.proofs.lemmas.List.{take_more}
use Rattle.std.proofs.lemmas.List.Folds.{list_any-append}
use Rattle.std.proofs.lemmas.Option.{none-some, get_or_from_slice_get, slice_get_within}
use Rattle.std.proofs.Math.Bool.{or-false, and_comm}
use Rattle.ec_lists.proofs.Options.{None-from_option_map}
use Rattle.ec_lists.proofs.Tests.{list_any-filter, list_any-same}
use Rattle.ec_terms.specs.declared.ids.Slot.{Slot}
use Rattle.ec_entries.specs.declared.event_entries.Dependent.{Dependent}
use Rattle.ec_entries.specs.Dependents.{AreDependents, dependent_at, dependents_at, is_from}
use Rattle.ec_revise.specs.declared.change.Removal.{Removal}
use Rattle.ec_revise.specs.Change.{has_slot}
use Rattle.ec_sweep.specs.declared.hits.Hit.{Hit}
use Rattle.ec_sweep.specs.Hits.{Slots, depends_at, has_hit, is_hit}

-- ---- one dependent more

-- the slot and the place of the k-th, if there is one
abbrev IsPlaceOf : {T : Type 0} → Option (Dependent T) → Option (Slot × ℕ) → Type 0
IsPlaceOf o found = found ≡ option_map (λ dependent. (dependent.slot, dependent.place)) o

abbrev IsNth : {T : Type 0} → List (Dependent T) → ℕ → Option (Slot × ℕ) → Type 0
IsNth dependents k found = found ≡ option_map (λ dependent. (dependent.slot, dependent.place)) (slice_get dependents k)

-- the hits of the first dependents with the next
pub taken_next : {T : Type 0} (dependents : List (Dependent T)) (k : ℕ) (slot : Slot) (place : ℕ)
    → IsNth dependents k (Some (slot, place)) → (s p : ℕ)
    → list_any (is_from s p) (take (k + 1) dependents) ≡ (list_any (is_from s p) (take k dependents) || is_hit s p (record { slot = slot; place = place }))
taken_next {T} dependents k slot place nth s p = of (slice_get dependents k) refl nth
  where
    of : (o : Option (Dependent T)) → slice_get dependents k ≡ o → IsPlaceOf o (Some (slot, place))
        → list_any (is_from s p) (take (k + 1) dependents) ≡ (list_any (is_from s p) (take k dependents) || is_hit s p (record { slot = slot; place = place }))
    of None none both = absurd (none-some (slot, place) (sym both))
    of (Some d) there both =
        let slots : slot ≡ d.slot = ap (λ (o : Option (Slot × ℕ)). (unwrap_or o (slot, place)).0) both in
        let places : place ≡ d.place = ap (λ (o : Option (Slot × ℕ)). (unwrap_or o (slot, place)).1) both in
        ap (list_any (is_from s p)) (take_more dependents k d (slice_get_within dependents k d there) ∙ ap (λ e. take k dependents ++ e ∷ []) (get_or_from_slice_get dependents k d d there))
        ∙ list_any-append (is_from s p) (take k dependents) (d ∷ [])
        ∙ ap (λ b. list_any (is_from s p) (take k dependents) || b) (or-false (is_from s p d) ∙ ap₂ (λ (q : Slot) m. (q.0 == s) && (m == p)) (sym slots) (sym places))

-- a hit of a slot that is not taken out
same_slot : {T : Type 0} (removals : List (Removal T)) (slot : Slot) (place s p : ℕ) → is_hit s p (record { slot = slot; place = place }) ≡ true
    → has_slot (record { 0 = s }) removals ≡ has_slot slot removals
same_slot removals slot place s p here =
    ap (λ n. list_any (λ (removal : Removal _). removal.slot.0 == n) removals) (sym (eqb-true slot.0 s (and_parts (slot.0 == s) (place == p) here).0))

module _ {T : Type 0} (removals : List (Removal T)) (dependents : List (Dependent T)) (k : ℕ) (slot : Slot) (place : ℕ)
    (nth : IsNth dependents k (Some (slot, place))) (start before : List Hit)
    (was : (s p : ℕ) → has_hit s p before ≡ (has_hit s p start || (not (has_slot (record { 0 = s }) removals) && list_any (is_from s p) (take k dependents)))) where
  -- it is taken in where its event stays
  pub gather_in : (after : List Hit) → has_slot slot removals ≡ false → ((s p : ℕ) → has_hit s p after ≡ (is_hit s p (record { slot = slot; place = place }) || has_hit s p before))
      → (s p : ℕ) → has_hit s p after ≡ (has_hit s p start || (not (has_slot (record { 0 = s }) removals) && list_any (is_from s p) (take (k + 1) dependents)))
  gather_in after stays noted s p =
      noted s p
      ∙ ap (λ b. is_hit s p (record { slot = slot; place = place }) || b) (was s p)
      ∙ ⊎_elim (λ here. here_in _ _ _ _ here (same_slot removals slot place s p here ∙ stays)) (λ elsewhere. not_here _ _ _ _ elsewhere) (cases_Bool (is_hit s p (record { slot = slot; place = place })))
      ∙ ap (λ b. has_hit s p start || (not (has_slot (record { 0 = s }) removals) && b)) (sym (taken_next dependents k slot place nth s p))
    where
      here_in : (h a r l : Bool) → h ≡ true → r ≡ false → (h || (a || (not r && l))) ≡ (a || (not r && (l || h)))
      here_in h a r l here stays = grind arith

      not_here : (h a r l : Bool) → h ≡ false → (h || (a || (not r && l))) ≡ (a || (not r && (l || h)))
      not_here h a r l elsewhere = grind arith

  -- and passed over where its event is to be taken out
  pub gather_over : has_slot slot removals ≡ true
      → (s p : ℕ) → has_hit s p before ≡ (has_hit s p start || (not (has_slot (record { 0 = s }) removals) && list_any (is_from s p) (take (k + 1) dependents)))
  gather_over goes s p =
      was s p
      ∙ ⊎_elim (λ here. here_out _ _ _ _ here (same_slot removals slot place s p here ∙ goes)) (λ elsewhere. not_here _ _ _ _ elsewhere) (cases_Bool (is_hit s p (record { slot = slot; place = place })))
      ∙ ap (λ b. has_hit s p start || (not (has_slot (record { 0 = s }) removals) && b)) (sym (taken_next dependents k slot place nth s p))
    where
      here_out : (h a r l : Bool) → h ≡ true → r ≡ true → (a || (not r && l)) ≡ (a || (not r && (l || h)))
      here_out h a r l here goes = grind arith

      not_here : (h a r l : Bool) → h ≡ false → (a || (not r && l)) ≡ (a || (not r && (l || h)))
      not_here h a r l elsewhere = grind arith

-- ---- all dependents

-- behind the last one all are taken
pub taken_all : {T : Type 0} (dependents : List (Dependent T)) (k : ℕ) → IsNth dependents k None → take k dependents ≡ dependents
taken_all dependents k none = whole dependents k (None-from_option_map _ (slice_get dependents k) (sym none))
  where
    whole : {X : Type 0} (xs : List X) (k : ℕ) → slice_get xs k ≡ None → take k xs ≡ xs
    whole [] zero none = refl
    whole [] (suc k) none = refl
    whole (x ∷ xs) zero none = absurd (none-some x (sym none))
    whole (x ∷ xs) (suc k) none = ap (λ ys. x ∷ ys) (whole xs k none)

-- the entry at a place depends on a property at an instant where one of the dependents there is its own
pub depends_at-any : {T : Type 0} (rank : T → ℤ) (n : ℕ) (slots : Slots T) (dependents : List (Dependent T)) → AreDependents rank n slots dependents → (t : ℤ) (s p : ℕ)
    → list_any (is_from s p) (dependents_at rank t dependents) ≡ depends_at rank slots t s p n
depends_at-any {T} rank n slots dependents exact t s p =
    list_any-filter (is_from s p) (λ (d : Dependent T). int_eq (rank d.at) t) dependents
    ∙ list_any-same (λ d. int_eq (rank d.at) t && is_from s p d) (λ d. is_from s p d && int_eq (rank d.at) t) (λ d. and_comm (int_eq (rank d.at) t) (is_from s p d)) dependents
    ∙ sym (list_any-filter (λ (d : Dependent T). int_eq (rank d.at) t) (is_from s p) dependents)
    ∙ ap (list_any (λ (d : Dependent T). int_eq (rank d.at) t)) (exact.exact s p)
    ∙ of (dependent_at n slots s p)
  where
    of : (o : Option (Dependent T)) → list_any (λ (d : Dependent T). int_eq (rank d.at) t) (option_to_list o) ≡ option_map_or (λ d. int_eq (rank d.at) t) o false
    of None = refl
    of (Some d) = or-false (int_eq (rank d.at) t)
