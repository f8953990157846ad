-- Values that may be absent.
use Rattle.std.proofs.Common.{◌≡◌, true, false, List, ◌++◌, Option, Some, None, IfSome, IfNone, is_some, option_map, refl}
use Rattle.std.specs.List.{cons_option}
use Rattle.std.specs.Option.{option_to_list}

-- an absent value is none
pub None-from_is_some : {A : Type 0} (o : Option A) → is_some o ≡ false → o ≡ None
None-from_is_some None h = refl
None-from_is_some (Some a) h = cc

-- a present value is some value
pub Some-from_is_some : {A : Type 0} (o : Option A) → is_some o ≡ true → (a : A) × (o ≡ Some a)
Some-from_is_some None h = cc
Some-from_is_some (Some a) h = (a, refl)

-- a function of an absent value gives none, and of no other
pub None-from_option_map : {A B : Type 0} (f : A → B) (o : Option A) → option_map f o ≡ None → o ≡ None
None-from_option_map f None none = refl
None-from_option_map f (Some a) none = cc

-- a function of a value is there where the value is
pub is_some-option_map : {A B : Type 0} (f : A → B) (o : Option A) → is_some (option_map f o) ≡ is_some o
is_some-option_map f None = refl
is_some-option_map f (Some a) = refl

-- what holds of the value holds of the one that there is
pub IfSome-from : {A : Type 0} (o : Option A) (P : A → Type 0) (x : A) → o ≡ Some x → P x → IfSome o P
IfSome-from None P x is holds = cc
IfSome-from (Some y) P x is holds = let same : x ≡ y = cc in subst_at same
  where
    subst_at : x ≡ y → P y
    subst_at same = rw (← same) holds

-- what is said of a value, by what is said of it otherwise
pub IfSome-weaker : {A : Type 0} (o : Option A) (P Q : A → Type 0) → ((x : A) → P x → Q x) → IfSome o P → IfSome o Q
IfSome-weaker None P Q weaker holds = holds
IfSome-weaker (Some x) P Q weaker holds = weaker x holds

-- what holds anyway holds where there is none
pub IfNone-from : {A : Type 0} (o : Option A) (P : Type 0) → P → IfNone o P
IfNone-from None P holds = holds
IfNone-from (Some x) P holds = tt

-- ---- a value in front of a list

-- it stands as a list of its own before the list
pub cons_option-is_append : {A : Type 0} (o : Option A) (xs : List A) → cons_option o xs ≡ option_to_list o ++ xs
cons_option-is_append None xs = refl
cons_option-is_append (Some x) xs = refl
