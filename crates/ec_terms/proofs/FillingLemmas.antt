-- Patterns filled in place by place, and comparisons of borrowed arguments.
use Rattle.std.proofs.Common.{append-nil, ◌≡◌, ℕ, ◌+◌, ◌<◌, true, false, not, List, [], ◌∷◌, ◌++◌, length, map, take, get_or, Option, Some, None, refl, sym, ◌∙◌}
use Rattle.std.specs.List.{list_all, filter_map}
use Rattle.std.proofs.lemmas.List.{map-append, take_more}
use Rattle.std.proofs.lemmas.List.Elements.{filter_map-append}
use Rattle.std.specs.Cmp.{Some-then}
use Rattle.std.specs.Cmp.Lexicographic.{slice_cmp, slice_partial_cmp}
use Rattle.std.specs.Ordering.{is_lt, is_le, nat_cmp}
use Rattle.ec_terms.specs.contracts.ground.ArgRefPartialOrd.TheImpl.{partial_cmp-value}
use Rattle.ec_terms.specs.declared.ground.Arg.{Arg}
use Rattle.ec_terms.specs.declared.ground.ArgRef.{ArgRef}
use Rattle.ec_terms.specs.declared.ground.ArgRef.TheVariants.{Int as IntRef, Word as WordRef}
use Rattle.ec_terms.specs.declared.pattern.PatArg.{PatArg}
use Rattle.ec_terms.specs.declared.pattern.PatArg.TheVariants.{Var, Any, Fixed}
use Rattle.ec_terms.specs.declared.theory.Test.{Test}
use Rattle.ec_terms.specs.declared.theory.TestOp.{TestOp}
use Rattle.ec_terms.specs.declared.theory.TestOp.TheVariants.{Same, Differ, Less as Below, AtMost}
use Rattle.ec_terms.specs.Term.{arg_of, arg_eq, arg_cmp, is_argument}
use Rattle.ec_terms.specs.Matching.{Values, value_of, compares, values_compare, test_holds}
use Rattle.ec_lists.proofs.Tests.{list_all-push}

-- ---- comparisons

-- the partial order of two names always has an answer, which is that of the order
names_partial_cmp : (v w : List ℕ) → slice_partial_cmp (λ (x y : ℕ). Some (nat_cmp x y)) v w ≡ Some (slice_cmp nat_cmp v w)
names_partial_cmp [] [] = refl
names_partial_cmp [] (y ∷ w) = refl
names_partial_cmp (x ∷ v) [] = refl
names_partial_cmp (x ∷ v) (y ∷ w) = rw (names_partial_cmp v w) (Some-then (nat_cmp x y) (slice_cmp nat_cmp v w))

-- borrowed arguments compare as the arguments that they show
pub arg_ref_partial_cmp : (x y : ArgRef) → partial_cmp-value.it x y ≡ Some (arg_cmp (arg_of x) (arg_of y))
unfolding arg_cmp
arg_ref_partial_cmp (IntRef x) (IntRef y) = refl
arg_ref_partial_cmp (IntRef x) (WordRef w) = refl
arg_ref_partial_cmp (WordRef v) (IntRef y) = refl
arg_ref_partial_cmp (WordRef v) (WordRef w) = names_partial_cmp v.now w.now

pub compares-same : (op : TestOp) (a b : Arg) → op ≡ Same → arg_eq a b ≡ compares op a b
unfolding compares
compares-same op a b is = rw is

pub compares-differ : (op : TestOp) (a b : Arg) → op ≡ Differ → not (arg_eq a b) ≡ compares op a b
unfolding compares
compares-differ op a b is = rw is

pub compares-below : (op : TestOp) (a b : Arg) → op ≡ Below → is_lt (arg_cmp a b) ≡ compares op a b
unfolding compares
compares-below op a b is = rw is

pub compares-at_most : (op : TestOp) (a b : Arg) → op ≡ AtMost → is_le (arg_cmp a b) ≡ compares op a b
unfolding compares
compares-at_most op a b is = rw is

-- a test of two values compares them
pub test_holds-values : (s : Values) (test : Test) (a b : Arg) → Some a ≡ value_of s test.left → Some b ≡ value_of s test.right → compares test.op a b ≡ test_holds s test
unfolding test_holds values_compare
test_holds-values s test a b left right = rw (← left, ← right)

-- a test without a left value fails
pub test_holds-no_left : (s : Values) (test : Test) → None ≡ value_of s test.left → false ≡ test_holds s test
unfolding test_holds values_compare
test_holds-no_left s test left = rw (← left)

-- a test without a right value fails
pub test_holds-no_right : (s : Values) (test : Test) (a : Arg) → Some a ≡ value_of s test.left → None ≡ value_of s test.right → false ≡ test_holds s test
unfolding test_holds values_compare
test_holds-no_right s test a left right = rw (← left, ← right)

-- ---- the value of a place

pub value_of-variable : (s : Values) (p : PatArg) (v : ℕ) (o : Option Arg) → p ≡ Var v → o ≡ s v → o ≡ value_of s p
unfolding value_of
value_of-variable s p v o is has = rw is has

pub value_of-any : (s : Values) (p : PatArg) → p ≡ Any → None ≡ value_of s p
unfolding value_of
value_of-any s p is = rw is

pub value_of-fixed : (s : Values) (p : PatArg) (a b : Arg) → p ≡ Fixed a → b ≡ a → Some b ≡ value_of s p
unfolding value_of
value_of-fixed s p a b is same = rw (is, same)

-- ---- the arguments of a filled pattern

-- one more member that has a value adds it at the end
pub filter_map-more_Some : {X Y : Type 0} (f : X → Option Y) (xs : List X) (i : ℕ) (x : X) (y : Y) → i < length xs → x ≡ get_or xs i x → Some y ≡ f x →
    filter_map f (take (i + 1) xs) ≡ filter_map f (take i xs) ++ y ∷ []
filter_map-more_Some f xs i x y h e v = rw (take_more xs i x h, filter_map-append, ← e, ← v)

-- one more member that has no value adds nothing
pub filter_map-more_None : {X Y : Type 0} (f : X → Option Y) (xs : List X) (i : ℕ) (x : X) → i < length xs → x ≡ get_or xs i x → None ≡ f x →
    filter_map f (take (i + 1) xs) ≡ filter_map f (take i xs)
filter_map-more_None f xs i x h e v = rw (take_more xs i x h, filter_map-append, ← e, ← v) (append-nil (filter_map f (take i xs)))

-- one more place that has a value adds it to the arguments that borrowed arguments show
pub shown-push : (s : Values) (ps : List PatArg) (i : ℕ) (p : PatArg) (refs more : List ArgRef) (r : ArgRef) →
    i < length ps → p ≡ get_or ps i p → Some (arg_of r) ≡ value_of s p → more ≡ refs ++ r ∷ [] →
    map arg_of refs ≡ filter_map (value_of s) (take i ps) → map arg_of more ≡ filter_map (value_of s) (take (i + 1) ps)
shown-push s ps i p refs more r within here value is before =
    let step = filter_map-more_Some (value_of s) ps i p (arg_of r) within here value in
    rw (is, map-append, before) (sym step)

-- one more place that has no value adds nothing
pub shown-same : (s : Values) (ps : List PatArg) (i : ℕ) (p : PatArg) (refs : List ArgRef) →
    i < length ps → p ≡ get_or ps i p → None ≡ value_of s p →
    map arg_of refs ≡ filter_map (value_of s) (take i ps) → map arg_of refs ≡ filter_map (value_of s) (take (i + 1) ps)
shown-same s ps i p refs within here value before =
    let step = filter_map-more_None (value_of s) ps i p within here value in before ∙ sym step

-- arguments with a named one more are named
pub shown-push_named : (refs more : List ArgRef) (r : ArgRef) → more ≡ refs ++ r ∷ [] → list_all is_argument (map arg_of refs) ≡ true →
    is_argument (arg_of r) ≡ true → list_all is_argument (map arg_of more) ≡ true
shown-push_named refs more r is before named = rw (is, map-append) (list_all-push is_argument (map arg_of refs) (arg_of r) before named)
