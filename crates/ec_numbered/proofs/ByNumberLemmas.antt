-- What is kept under a number, where places are added, and where a row is set.
use Rattle.std.proofs.Common.{◌≡◌, ℕ, zero, suc, ◌≤◌, List, [], ◌∷◌, ◌++◌, Option, None, length, take, take_all, refl, ap, ◌∙◌}
use Rattle.std.specs.List.{AppendsResults, FoldsTo}
use Rattle.ec_numbered.specs.ByNumber.{kept_at}

-- a list of places in which nothing is kept
pub AreEmpty : {X : Type 0} → List (Option X) → Type 0
AreEmpty [] = Unit {0}
AreEmpty (x ∷ xs) = (x ≡ None) × AreEmpty xs

-- nothing is kept in places that are all empty
kept_at-empty : {X : Type 0} (n : ℕ) (xs : List (Option X)) → AreEmpty xs → kept_at n xs ≡ None
unfolding AreEmpty
kept_at-empty n [] empty = refl
kept_at-empty zero (x ∷ xs) empty = empty.0
kept_at-empty (suc n) (x ∷ xs) empty = kept_at-empty n xs empty.1

-- empty places behind all others keep what is kept
pub kept_at-append : {X : Type 0} (n : ℕ) (rows more : List (Option X)) → AreEmpty more → kept_at n (rows ++ more) ≡ kept_at n rows
kept_at-append n [] more empty = kept_at-empty n more empty
kept_at-append zero (x ∷ rows) more empty = refl
kept_at-append (suc n) (x ∷ rows) more empty = kept_at-append n rows more empty

-- calls that answer `None` make empty places
AreEmpty-FoldsTo : {F X : Type 0} (step : F → Option X → F → Type 0) → ((f : F) (x : Option X) (g : F) → step f x g → x ≡ None) →
    (f : F) (xs : List (Option X)) (last : F) → FoldsTo step f xs last → AreEmpty xs
unfolding AreEmpty
AreEmpty-FoldsTo step none f [] last folds = tt
AreEmpty-FoldsTo step none f (x ∷ xs) last folds = (none f x folds.0 folds.1, AreEmpty-FoldsTo step none folds.0 xs last folds.2)

-- so rows to which they are added keep what they kept
pub kept_at-AppendsResults : {F X : Type 0} (step : F → Option X → F → Type 0) → ((f : F) (x : Option X) (g : F) → step f x g → x ≡ None) →
    (n places : ℕ) (old new : List (Option X)) (f : F) → length old ≤ places → AppendsResults step (take places old) new f → kept_at n new ≡ kept_at n old
kept_at-AppendsResults step none n places old new f few appended =
    ap (kept_at n) (appended.2 ∙ ap (λ rows. rows ++ appended.0) (take_all places old few))
    ∙ kept_at-append n old appended.0 (AreEmpty-FoldsTo step none f appended.0 appended.1 appended.3)
