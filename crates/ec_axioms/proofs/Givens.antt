-- The binding of an event that fits a rule gives the rule's head, tests and literals their values.
use Rattle.std.proofs.Common.{◌≡◌, ℕ, ◌∷◌, [], List, Option, Some, None, true, false, not, IsTrue, IsSome, is_some, ⊎_elim, refl, ap, ◌∙◌, subst, arith}
use Rattle.std.specs.Prelude.{nat_lt}
use Rattle.std.specs.List.{list_all, list_any}
use Rattle.std.proofs.lemmas.Bool.{and_parts, and_from, or_cases}
use Rattle.std.proofs.lemmas.Bool.Decides.{Decides-eqb}
use Rattle.ec_terms.specs.declared.ground.Arg.{Arg}
use Rattle.ec_terms.specs.declared.ground.Ground.{Ground}
use Rattle.ec_terms.specs.declared.pattern.PatArg.{PatArg}
use Rattle.ec_terms.specs.declared.pattern.PatArg.TheVariants.{Var, Any, Fixed}
use Rattle.ec_terms.specs.declared.pattern.Pattern.{Pattern}
use Rattle.ec_terms.specs.declared.theory.Test.{Test}
use Rattle.ec_terms.specs.Binding.{IsSmall, fills, is_open_place, is_ready_place, is_ready_test, is_small_place, stands_at, stands_in}
use Rattle.ec_terms.specs.Matchable.{is_given_place, is_given_test}
use Rattle.ec_terms.specs.Matching.{Values, binding_of, fits, fits_some, place_fits, places_fit, is_value}

-- the variable that stands at a place that fits has a value
is_some-place : (values : Values) (v : ℕ) (place : PatArg) (a : Arg) → stands_at v place ≡ true → place_fits values place a ≡ true → is_some (values v) ≡ true
unfolding place_fits is_value
is_some-place values v (Var w) a there fit = subst (λ u. is_some (values u) ≡ true) ((Decides-eqb w v).0 there) (of_value (values w) fit)
  where
    of_value : (o : Option Arg) → is_value o a ≡ true → is_some o ≡ true
    of_value None fit = fit
    of_value (Some b) fit = refl
is_some-place values v Any a there fit = cc
is_some-place values v (Fixed b) a there fit = cc

is_some-places : (values : Values) (v : ℕ) (places : List PatArg) (args : List Arg) → list_any (stands_at v) places ≡ true → places_fit values places args ≡ true →
    is_some (values v) ≡ true
unfolding places_fit
is_some-places values v [] args there fit = cc
is_some-places values v (place ∷ places) [] there fit = cc
is_some-places values v (place ∷ places) (a ∷ args) there fit =
    let parts = and_parts _ _ fit in
    ⊎_elim (λ here. is_some-place values v place a here parts.0) (λ later. is_some-places values v places args later parts.1) (or_cases _ _ there)

-- each variable of a pattern that fits has a value
pub is_some-fits : (pattern : Pattern) (term : Ground) (values : Values) (v : ℕ) → fits_some pattern term ≡ true → values ≡ binding_of pattern term →
    stands_in v pattern ≡ true → is_some (values v) ≡ true
unfolding fits_some fits
is_some-fits pattern term values v fit same there =
    ap (λ f. is_some (f v)) same ∙ is_some-places (binding_of pattern term) v pattern.args term.args there (and_parts _ _ fit).1

-- every variable of the event pattern has a value
abbrev pub GivesAll : Pattern → Values → Type 0
GivesAll event values = (v : ℕ) → IsTrue (stands_in v event) → IsSome (values v)

-- a given place has a value
is_open_place-given : (event : Pattern) (values : Values) (place : PatArg) → GivesAll event values → is_given_place event place ≡ true → is_open_place values place ≡ false
is_open_place-given event values (Var v) all given = let there = all v given in grind arith
is_open_place-given event values Any all given = cc
is_open_place-given event values (Fixed a) all given = refl

none_open : (event : Pattern) (values : Values) (places : List PatArg) → GivesAll event values → list_all (is_given_place event) places ≡ true →
    list_any (is_open_place values) places ≡ false
none_open event values [] all given = refl
none_open event values (place ∷ places) all given =
    let parts = and_parts _ _ given in
    let here = is_open_place-given event values place all parts.0 in
    let ih = none_open event values places all parts.1 in grind arith

-- a given pattern is filled
pub fills-given : (event pattern : Pattern) (values : Values) → GivesAll event values → IsTrue (list_all (is_given_place event) pattern.args) → IsTrue (fills values pattern)
fills-given event pattern values all given = ap not (none_open event values pattern.args all given)

-- a variable that stands in a small pattern is below 16
small_variable : (v : ℕ) (places : List PatArg) → list_all is_small_place places ≡ true → list_any (stands_at v) places ≡ true → nat_lt v 16 ≡ true
small_variable v [] small there = cc
small_variable v (Var w ∷ places) small there =
    let parts = and_parts _ _ small in
    ⊎_elim (λ here. subst (λ u. nat_lt u 16 ≡ true) ((Decides-eqb w v).0 here) parts.0) (λ later. small_variable v places parts.1 later) (or_cases _ _ there)
small_variable v (Any ∷ places) small there = small_variable v places small there
small_variable v (Fixed a ∷ places) small there = small_variable v places small there

-- a given place is ready
is_ready_place-given : (event : Pattern) (values : Values) (place : PatArg) → IsSmall event → GivesAll event values → is_given_place event place ≡ true →
    is_ready_place values place ≡ true
is_ready_place-given event values (Var v) small all given =
    and_from _ _ (small_variable v event.args small.variables given) (ap not (is_open_place-given event values (Var v) all given))
is_ready_place-given event values Any small all given = cc
is_ready_place-given event values (Fixed a) small all given = refl

-- given tests are ready
pub are_ready-given : (event : Pattern) (values : Values) (tests : List Test) → IsSmall event → GivesAll event values → list_all (is_given_test event) tests ≡ true →
    list_all (is_ready_test values) tests ≡ true
are_ready-given event values [] small all given = refl
are_ready-given event values (test ∷ tests) small all given =
    let parts = and_parts _ _ given in
    let sides = and_parts _ _ parts.0 in
    and_from _ _
    (and_from _ _ (is_ready_place-given event values test.left small all sides.0) (is_ready_place-given event values test.right small all sides.1))
    (are_ready-given event values tests small all parts.1)
