-- Lists that are changed one after the other, each once.
use Rattle.std.proofs.Common.{◌≡◌, ◌≢◌, ℕ, ◌+◌, ◌<◌, zero, suc, true, false, ◌||◌, IsTrue, IsSome, List, [], ◌∷◌, get_or, take, length, Option, None, is_some, refl, sym, ap, subst, ◌∙◌, ⊎_elim, arith}
use Rattle.std.specs.Prelude.{◌==◌, nat_lt, option_map}
use Rattle.std.specs.List.{list_all}
use Rattle.std.proofs.lemmas.Bool.{cases_Bool, false≢true}
use Rattle.std.proofs.lemmas.List.{get_or_default}
use Rattle.std.proofs.lemmas.List.Folds.{list_any_more}
use Rattle.ec_terms.specs.declared.ids.PropId.{PropId}
use Rattle.ec_rows.proofs.OrderedLemmas.{ascending-first, ascending-rest}
use Rattle.ec_numbered.specs.PropSet.{has_number, comes_before, are_ascending}
use Rattle.ec_numbered.specs.ByNumber.{kept_at}
use Rattle.ec_exclusive.specs.declared.rows.Row.{Row}
use Rattle.ec_exclusive.specs.Kept.{numbers_in, list_at, lists_of, HasRoom}
use Rattle.ec_numbered.proofs.Numbers.{same_prop}
use Rattle.ec_exclusive.proofs.FieldLists.{get_or-list_at}

-- ---- the next in turn

-- a number at a place stands in the list
pub has_number-at : (ps : List PropId) (i : ℕ) (d : PropId) → i < length ps → has_number (get_or ps i d).0 ps ≡ true
has_number-at [] i d within = absurd (omega arith)
has_number-at (p ∷ ps) zero d within = grind arith
has_number-at (p ∷ ps) (suc i) d within = let ih = has_number-at ps i d (omega arith) in grind arith

-- what stands before all of a list stands before each
before-at : (p : PropId) (ps : List PropId) (i : ℕ) (d : PropId) → list_all (comes_before p) ps ≡ true → i < length ps → nat_lt p.0 (get_or ps i d).0 ≡ true
before-at p [] i d before within = absurd (omega arith)
before-at p (q ∷ ps) zero d before within = grind arith
before-at p (q ∷ ps) (suc i) d before within = let rest : list_all (comes_before p) ps ≡ true = grind arith in before-at p ps i d rest (omega arith)

-- in a list that ascends a number stands once
pub not-yet : (ps : List PropId) (i : ℕ) (d : PropId) → are_ascending ps ≡ true → i < length ps → has_number (get_or ps i d).0 (take i ps) ≡ false
not-yet [] i d ascending within = absurd (omega arith)
not-yet (p ∷ ps) zero d ascending within = refl
not-yet (p ∷ ps) (suc i) d ascending within =
    let ih = not-yet ps i d (ascending-rest comes_before p ps ascending) (omega arith) in
    let less = before-at p ps i d (ascending-first comes_before p ps ascending) (omega arith) in
    grind arith

pub has_number-more : (q : PropId) (ps : List PropId) (i : ℕ) (d : PropId) → i < length ps → has_number q.0 (take (i + 1) ps) ≡ (has_number q.0 (take i ps) || ((get_or ps i d).0 == q.0))
has_number-more q ps i d within = list_any_more (λ (r : PropId). r.0 == q.0) ps i d within

module _ (props : List PropId) where
  -- ---- room

  -- the lists of the first i have room, and all lists are what they were
  pub record AreReserved (i : ℕ) (start now : List (Option Row)) : Type 0 where
    pub same : lists_of now ≡ lists_of start
    pub room : (q : PropId) → IsTrue (has_number q.0 (take i props)) → HasRoom (kept_at q.0 now)

  -- a list stays there
  pub IsSome-reserved : (i : ℕ) (start now : List (Option Row)) (q : PropId) → AreReserved i start now → IsSome (list_at q start) → IsSome (list_at q now)
  IsSome-reserved i start now q are there =
      ap is_some (sym (get_or-list_at now q) ∙ ap (λ lists. get_or lists q.0 None) are.same ∙ get_or-list_at start q) ∙ there

  -- ---- an edit of each

  module _ (edit : List PropId → List PropId) where
    -- the lists of the first i are edited, and all others are what they were
    pub record AreEdited (i : ℕ) (start now : List (Option Row)) : Type 0 where
      pub waits : (q : PropId) → has_number q.0 (take i props) ≡ false → kept_at q.0 now ≡ kept_at q.0 start
      pub edited : (q : PropId) → IsTrue (has_number q.0 (take i props)) → list_at q now ≡ option_map edit (list_at q start)

    -- the next list is what it was
    pub kept_at-next : (i : ℕ) (start now : List (Option Row)) (p : PropId) → AreEdited i start now → are_ascending props ≡ true → i < length props →
        p ≡ get_or props i p → kept_at p.0 now ≡ kept_at p.0 start
    kept_at-next i start now p are ascending within next =
        are.waits p (subst (λ r. has_number r.0 (take i props) ≡ false) (sym next) (not-yet props i p ascending within))

    pub AreEdited-more : (i : ℕ) (start now new : List (Option Row)) (p : PropId) → AreEdited i start now → are_ascending props ≡ true → i < length props →
        p ≡ get_or props i p → list_at p new ≡ option_map edit (list_at p now) → ((n : ℕ) → n ≢ p.0 → kept_at n new ≡ kept_at n now) → AreEdited (i + 1) start new
    AreEdited-more i start now new p are ascending within next done others = record {
      waits = λ q not_there. let both = not-either q not_there in other q both.1 ∙ are.waits q both.0;
      edited = λ q there. ⊎_elim
          (λ e. subst (λ r. list_at r new ≡ option_map edit (list_at r start)) (same_prop p q e)
          (done ∙ ap (λ list. option_map edit (numbers_in list)) (kept_at-next i start now p are ascending within next)))
          (λ e. ap (numbers_in) (other q e) ∙ are.edited q (earlier q e there))
          (cases_Bool (p.0 == q.0));
    }
      where
        equal : (p q : PropId) → q.0 ≡ p.0 → (p.0 == q.0) ≡ true
        equal p q is = grind arith

        other : (q : PropId) → (p.0 == q.0) ≡ false → kept_at q.0 new ≡ kept_at q.0 now
        other q e = others q.0 (λ is. absurd (false≢true (sym e ∙ equal p q is)))

        not-either : (q : PropId) → has_number q.0 (take (i + 1) props) ≡ false → (has_number q.0 (take i props) ≡ false) × ((p.0 == q.0) ≡ false)
        not-either q not_there =
            let more = has_number-more q props i p within in
            let next_number = ap (λ (r : PropId). r.0 == q.0) next in
            (grind arith, grind arith)

        earlier : (q : PropId) → (p.0 == q.0) ≡ false → has_number q.0 (take (i + 1) props) ≡ true → has_number q.0 (take i props) ≡ true
        earlier q e there =
            let more = has_number-more q props i p within in
            let next_number = ap (λ (r : PropId). r.0 == q.0) next in
            grind arith

-- the number at a place
abbrev pub prop_at_place : List PropId → ℕ → PropId
prop_at_place ps i = get_or ps i (record { 0 = 0 })

-- it is what stands there
pub read_at_place : (ps : List PropId) (i : ℕ) → i < length ps → prop_at_place ps i ≡ get_or ps i (prop_at_place ps i)
read_at_place ps i within = get_or_default ps i (record { 0 = 0 }) (prop_at_place ps i) within
