-- What changes do to the list of clashes, one after the other, and the room that is left for the rest of them.
use Rattle.std.proofs.Common.{◌≡◌, ℕ, ℤ, ◌+◌, ◌≤◌, suc, true, false, cond, not, ◌&&◌, Bool, List, [], ◌∷◌, length, drop, filter, Some, refl, sym, ap, ap₂, subst, ◌∙◌, ⊎_elim, add-one, arith}
use Rattle.std.specs.Prelude.{◌==◌, slice_get}
use Rattle.std.specs.List.{list_all}
use Rattle.std.specs.Ordering.{int_eq}
use Rattle.std.proofs.lemmas.Bool.{and_parts, cases_Bool, not-true}
use Rattle.std.proofs.Math.ListN.{drop_of_length-le}
use Rattle.ec_lists.proofs.Fronts.{drop-slice_get}
use Rattle.ec_rows.proofs.OrderedLemmas.{ascending-first}
use Rattle.ec_points.specs.declared.clashes.Clash.{Clash}
use Rattle.ec_points.specs.Changes.{Change, are_apart, are_all_apart, change_at}
use Rattle.ec_points.specs.Clashes.{clash_made, has_clash, is_clash, new_clashes}
use Rattle.ec_points.proofs.Lists.{is_ascending-drop}
use Rattle.ec_points.proofs.MadeChanges.{change_at-apart}

module _ {T : Type 0} (rank : T → ℤ) where
  -- a change is of a property at t
  abbrev is_here : ℕ → ℤ → Change T → Bool
  is_here n t change = (change.0.0 == n) && int_eq (rank change.1.at) t

  -- a change is a clash where there was none
  abbrev is_new : (ℕ → ℤ → Bool) → Change T → Bool
  is_new clash change = is_clash change.1 && not (clash change.0.0 (rank change.1.at))

  new_clashes-first : (clash : ℕ → ℤ → Bool) (change : Change T) (rest : List (Change T)) →
      new_clashes rank clash (change ∷ rest) ≡ cond (is_new clash change) 1 0 + new_clashes rank clash rest
  new_clashes-first clash change rest =
      ⊎_elim
      (λ new. ap (λ b. length (cond b (change ∷ filter (is_new clash) rest) (filter (is_new clash) rest))) new ∙ omega arith ∙ sym (ap (λ b. cond b 1 0 + new_clashes rank clash rest) new))
      (λ old. ap (λ b. length (cond b (change ∷ filter (is_new clash) rest) (filter (is_new clash) rest))) old ∙ omega arith ∙ sym (ap (λ b. cond b 1 0 + new_clashes rank clash rest) old))
      (cases_Bool (is_new clash change))

  -- what a change says is of no place of those that are apart from it
  new_clashes-after : (clash now : ℕ → ℤ → Bool) (change : Change T) → ((n : ℕ) (t : ℤ) → is_here n t change ≡ false → now n t ≡ clash n t) →
      (rest : List (Change T)) → list_all (are_apart rank change) rest ≡ true → filter (is_new now) rest ≡ filter (is_new clash) rest
  new_clashes-after clash now change others [] apart = refl
  new_clashes-after clash now change others (c ∷ rest) apart =
      let both = and_parts (are_apart rank change c) (list_all (are_apart rank change) rest) apart in
      ap₂ (λ b cs. cond b (c ∷ cs) cs) (ap (λ b. is_clash c.1 && not b) (others c.0.0 (rank c.1.at) (not-true (is_here c.0.0 (rank c.1.at) change) both.0)))
      (new_clashes-after clash now change others rest both.1)

  module _ (changes : List (Change T)) where
    -- after i changes: those that are left lead to what all of them do, and there is room for them
    pub record IsNoted (i : ℕ) (start now : List (Clash T)) (all left : ℕ) : Type 0 where
      pub has : (n : ℕ) (t : ℤ) → clash_made (change_at rank n t (drop i changes)) (has_clash rank n t now) ≡ clash_made (change_at rank n t changes) (has_clash rank n t start)
      pub room : all + new_clashes rank (λ n t. has_clash rank n t now) (drop i changes) ≤ left + new_clashes rank (λ n t. has_clash rank n t start) changes

    pub IsNoted-none : (start : List (Clash T)) (room : ℕ) → IsNoted 0 start start room room
    IsNoted-none start room = record { has = λ n t. refl; room = omega arith }

    module _ (i : ℕ) (start now : List (Clash T)) (room left : ℕ) (change : Change T) (read : slice_get changes i ≡ Some change) (noted : IsNoted i start now room left) where
      rest : drop i changes ≡ change ∷ drop (suc i) changes
      rest = drop-slice_get changes i change read

      first : new_clashes rank (λ n t. has_clash rank n t now) (drop i changes)
          ≡ cond (is_new (λ n t. has_clash rank n t now) change) 1 0 + new_clashes rank (λ n t. has_clash rank n t now) (drop (suc i) changes)
      first = ap (new_clashes rank (λ n t. has_clash rank n t now)) rest ∙ new_clashes-first (λ n t. has_clash rank n t now) change (drop (suc i) changes)

      -- there is room for the next
      pub room-noted : new_clashes rank (λ n t. has_clash rank n t start) changes ≤ room → cond (is_new (λ n t. has_clash rank n t now) change) 1 0 ≤ left
      room-noted enough = let here = first in let kept = noted.room in omega (arith, here, kept, enough)

      module _ (apart : are_all_apart rank changes ≡ true) (new : List (Clash T)) (less : ℕ)
          (has : (n : ℕ) (t : ℤ) → has_clash rank n t new ≡ cond (is_here n t change) (is_clash change.1) (has_clash rank n t now))
          (falls : left ≤ less + cond (is_new (λ n t. has_clash rank n t now) change) 1 0) where
        apart-next : list_all (are_apart rank change) (drop (suc i) changes) ≡ true
        apart-next =
            ascending-first (are_apart rank) change (drop (suc i) changes)
            (subst (λ cs. are_all_apart rank cs ≡ true) rest (is_ascending-drop (are_apart rank) i changes apart))

        found : (n : ℕ) (t : ℤ) → change_at rank n t (drop i changes) ≡ cond (is_here n t change) (Some change) (change_at rank n t (drop (suc i) changes))
        found n t = ap (change_at rank n t) rest

        has-next : (n : ℕ) (t : ℤ) → clash_made (change_at rank n t (drop (suc i) changes)) (has_clash rank n t new) ≡ clash_made (change_at rank n t (drop i changes)) (has_clash rank n t now)
        has-next n t = ⊎_elim here other (cases_Bool (is_here n t change))
          where
            here : is_here n t change ≡ true →
                clash_made (change_at rank n t (drop (suc i) changes)) (has_clash rank n t new) ≡ clash_made (change_at rank n t (drop i changes)) (has_clash rank n t now)
            here e =
                let both = and_parts (change.0.0 == n) (int_eq (rank change.1.at) t) e in
                ap (λ o. clash_made o (has_clash rank n t new)) (change_at-apart rank t n change (drop (suc i) changes) both.0 both.1 apart-next)
                ∙ has n t ∙ ap (λ b. cond b (is_clash change.1) (has_clash rank n t now)) e
                ∙ sym (ap (λ o. clash_made o (has_clash rank n t now)) (found n t ∙ ap (λ b. cond b (Some change) (change_at rank n t (drop (suc i) changes))) e))

            other : is_here n t change ≡ false →
                clash_made (change_at rank n t (drop (suc i) changes)) (has_clash rank n t new) ≡ clash_made (change_at rank n t (drop i changes)) (has_clash rank n t now)
            other e =
                ap (clash_made (change_at rank n t (drop (suc i) changes))) (has n t ∙ ap (λ b. cond b (is_clash change.1) (has_clash rank n t now)) e)
                ∙ sym (ap (λ o. clash_made o (has_clash rank n t now)) (found n t ∙ ap (λ b. cond b (Some change) (change_at rank n t (drop (suc i) changes))) e))

        pub IsNoted-more : IsNoted (i + 1) start new room less
        IsNoted-more =
            let here = first in
            let kept = noted.room in
            let same : new_clashes rank (λ n t. has_clash rank n t new) (drop (suc i) changes) ≡ new_clashes rank (λ n t. has_clash rank n t now) (drop (suc i) changes) =
            ap length (new_clashes-after (λ n t. has_clash rank n t now) (λ n t. has_clash rank n t new) change
            (λ n t e. has n t ∙ ap (λ b. cond b (is_clash change.1) (has_clash rank n t now)) e) (drop (suc i) changes) apart-next) in
            rw add-one (record { has = λ n t. has-next n t ∙ noted.has n t; room = omega (arith, here, kept, same, falls) })

    -- in the end all of them are noted
    pub has-noted : (i : ℕ) (start now : List (Clash T)) (room left : ℕ) → IsNoted i start now room left → length changes ≤ i → (n : ℕ) (t : ℤ) →
        has_clash rank n t now ≡ clash_made (change_at rank n t changes) (has_clash rank n t start)
    has-noted i start now room left noted end n t =
        sym (ap (λ cs. clash_made (change_at rank n t cs) (has_clash rank n t now)) (drop_of_length-le changes end)) ∙ noted.has n t

    pub room-left : (i : ℕ) (start now : List (Clash T)) (room left : ℕ) → IsNoted i start now room left → length changes ≤ i →
        room ≤ left + new_clashes rank (λ n t. has_clash rank n t start) changes
    room-left i start now room left noted end = let kept = noted.room in omega (arith, kept)
