-- Truth values, and what a choice between two values is.
use Rattle.std.proofs.Common.{◌≡◌, Bool, true, false, not, cond, ◌&&◌, ◌||◌, List, map, Option, Some, None, option_map, is_some, refl, sym, ◌⊎◌, inl, inr, arith}
use Rattle.std.specs.Bool.{beq}
use Rattle.std.specs.Prelude.{if◌then◌else◌}
use Rattle.std.proofs.lemmas.Bool.{false≢true}

-- where the first of two fails, the second holds
pub or_second : (a b : Bool) → a ≡ false → (a || b) ≡ true → b ≡ true
or_second a b first some = grind arith

-- and where the second fails, the first holds
pub or_first : (a b : Bool) → b ≡ false → (a || b) ≡ true → a ≡ true
or_first a b second some = grind arith

-- of three the first two may change places
pub or_left_comm : (a b c : Bool) → (a || (b || c)) ≡ (b || (a || c))
or_left_comm a b c = grind arith

-- and the first may stand behind the second
pub or_turned : (a b c : Bool) → (a || (b || c)) ≡ ((b || a) || c)
or_turned a b c = grind arith

-- where both hold, each does
pub and-left : (a b : Bool) → (a && b) ≡ true → a ≡ true
and-left a b both = grind arith

pub and-right : (a b : Bool) → (a && b) ≡ true → b ≡ true
and-right a b both = grind arith

-- not either is neither, in the other order
pub not-or_turned : (a b : Bool) → not (a || b) ≡ (not b && not a)
not-or_turned a b = grind arith

-- a truth value does not differ from itself
pub not-beq_same : (b : Bool) → not (beq b b) ≡ false
not-beq_same true = refl
not-beq_same false = refl

-- of two that are the same, neither holds alone
pub not-and_same : (a b : Bool) → a ≡ b → (not a && b) ≡ false
not-and_same a b same = grind arith

pub and-not_same : (a b : Bool) → a ≡ b → (a && not b) ≡ false
and-not_same a b same = grind arith

-- two tests that pass together are the same
pub Bool-from_both : (a b : Bool) → (a ≡ true → b ≡ true) → (b ≡ true → a ≡ true) → a ≡ b
Bool-from_both true b there back = sym (there refl)
Bool-from_both false true there back = back refl
Bool-from_both false false there back = refl

-- ---- choices

-- two choices of which not both are made may change places
pub cond_comm : {A : Type 0} (a b : Bool) (x y z : A) → (b ≡ true → a ≡ false) → cond a x (cond b y z) ≡ cond b y (cond a x z)
cond_comm true true x y z apart = absurd (false≢true (sym (apart refl)))
cond_comm false true x y z apart = refl
cond_comm true false x y z apart = refl
cond_comm false false x y z apart = refl

-- the same value either way
pub cond-same : {A : Type 0} (b : Bool) (x : A) → x ≡ cond b x x
cond-same true x = refl
cond-same false x = refl

-- a choice made twice is made once
pub cond-again : {A : Type 0} (b : Bool) (x y z : A) → cond b x z ≡ cond b x (cond b y z)
cond-again true x y z = refl
cond-again false x y z = refl

-- a function of what was chosen
pub map-cond : {A B : Type 0} (f : A → B) (b : Bool) (xs ys : List A) → map f (cond b xs ys) ≡ cond b (map f xs) (map f ys)
map-cond f true xs ys = refl
map-cond f false xs ys = refl

pub option_map-cond : {A B : Type 0} (f : A → B) (b : Bool) (x : A) (o : Option A) → option_map f (cond b (Some x) o) ≡ cond b (Some (f x)) (option_map f o)
option_map-cond f true x o = refl
option_map-cond f false x o = refl

-- there is a value where one was chosen
pub is_some-cond : {A : Type 0} (b : Bool) (x : A) (o : Option A) → (b || is_some o) ≡ is_some (cond b (Some x) o)
is_some-cond true x o = refl
is_some-cond false x o = refl

-- a choice that gives nothing fails its test, and goes on to nothing
pub cond-None : {A : Type 0} (test : Bool) (a : A) (rest : Option A) → (if test then Some a else rest) ≡ None → (test ≡ false) × (rest ≡ None)
cond-None true a rest none = cc
cond-None false a rest none = (refl, none)

-- one of three holds
pub cases_or_three : (a b c : Bool) → (a || b || c) ≡ true → (a ≡ true) ⊎ ((b ≡ true) ⊎ (c ≡ true))
cases_or_three true b c is = inl refl
cases_or_three false true c is = inr (inl refl)
cases_or_three false false c is = inr (inr is)
