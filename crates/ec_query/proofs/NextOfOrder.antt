-- Lists in order, searched from one member to the next.
use Rattle.std.proofs.Common.{◌≡◌, ℕ, suc, ◌+◌, ◌-◌, ◌<◌, ◌≤◌, Bool, true, false, cond, List, [], ◌∷◌, filter, find, Some, None, refl, sym, ap, subst, ◌∙◌, arith}
use Rattle.std.specs.Prelude.{◌^◌, min}
use Rattle.std.proofs.lemmas.Bool.{cond-false}
use Rattle.ec_axioms.proofs.Members.{IsPairwise, filter_all, filter_none, find-Some, find-None}

-- an order, and a test that holds of what comes after a member of which it holds
pub record IsSearchedBy {X : Type 0} (after : X → X → Bool) (p : X → Bool) : Type 0 where
  pub never : (x : X) → after x x ≡ false
  pub one_way : (x y : X) → after x y ≡ true → after y x ≡ false
  pub upward : (x y : X) → p x ≡ true → after x y ≡ true → p y ≡ true

-- what passes is the first that does, and what comes after that
pub filter-next : {X : Type 0} (after : X → X → Bool) (p : X → Bool) → IsSearchedBy after p → (xs : List X) → IsPairwise (λ x y. after x y ≡ true) xs
    → (x : X) → find p xs ≡ Some x → filter p xs ≡ x ∷ filter (after x) xs
filter-next after p searched [] pairs x found = let no = found in absurd (cc)
filter-next {X} after p searched (y ∷ ys) pairs x found = by_case (p y) refl found (λ rest. filter-next after p searched ys pairs.1 x rest)
  where
    by_case : (b : Bool) → p y ≡ b → cond b (Some y) (find p ys) ≡ Some x → (find p ys ≡ Some x → filter p ys ≡ x ∷ filter (after x) ys)
        → cond b (y ∷ filter p ys) (filter p ys) ≡ x ∷ filter (after x) (y ∷ ys)
    by_case true passes found rest =
        let same : y ≡ x = let e = found in cc in
        subst (λ (z : X). y ∷ filter p ys ≡ z ∷ filter (after z) (y ∷ ys)) same
        (ap (λ zs. y ∷ zs)
        (filter_all p ys (λ z member. searched.upward y z passes (pairs.0 z member))
        ∙ sym (filter_all (after y) ys (λ z member. pairs.0 z member))
        ∙ sym (cond-false (after y y) (y ∷ filter (after y) ys) (filter (after y) ys) (searched.never y))))
    by_case false fails found rest =
        let there = (find-Some p ys x found).0 in
        let before : after x y ≡ false = searched.one_way y x (pairs.0 x there) in
        rest found ∙ ap (λ zs. x ∷ zs) (sym (cond-false (after x y) (y ∷ filter (after x) ys) (filter (after x) ys) before))

-- where none passes, nothing is left
pub filter-found_none : {X : Type 0} (p : X → Bool) (xs : List X) → find p xs ≡ None → filter p xs ≡ []
filter-found_none p xs none = filter_none p xs (λ x member. find-None p xs x none member)

-- ---- what was counted

-- one more was found, and counted as far as the number can tell
pub counted_next : (count after all left next : ℕ) → left ≡ suc next → count ≡ min (all - left) (2 ^ 64 - 1) → left ≤ all → after ≡ min (count + 1) (2 ^ 64 - 1) → after ≡ min (all - next) (2 ^ 64 - 1)
counted_next count after all left next found counted within more = omega (arith, found, counted, within, more)

pub fewer_within : (all left next : ℕ) → left ≡ suc next → left ≤ all → next ≤ all
fewer_within all left next found within = omega (arith, found, within)

pub fewer_left : (left next : ℕ) → left ≡ suc next → next < left
fewer_left left next found = omega (arith, found)
