-- Two patterns fit two terms under one binding exactly where matching the second goes on from the binding of the first.
use Rattle.std.proofs.Common.{◌≡◌, ◌∷◌, [], ◌++◌, Bool, List, Option, Some, None, true, false, ◌&&◌, map, IsTrue, IsSome, IfSome, IfNone, is_some, ◌↔◌, refl, sym, ap₂, subst, ◌∙◌, ◌⊎◌, ⊎_elim, inl, inr}
use Rattle.std.specs.Cmp.Lexicographic.{pointwise}
use Rattle.std.proofs.lemmas.Bool.{and_parts, and_from, cases_Bool, false_from_ne_true, both_ways, or_cases, or_left, or_right, not-true, not_from_false}
use Rattle.std.proofs.lemmas.List.Folds.{Any-from_list_any, list_any-from_Any}
use Rattle.ec_terms.specs.declared.ground.Arg.{Arg}
use Rattle.ec_terms.specs.declared.ground.ArgRef.{ArgRef}
use Rattle.ec_terms.specs.declared.ground.Ground.{Ground}
use Rattle.ec_terms.specs.declared.pattern.PatArg.{PatArg}
use Rattle.ec_terms.specs.declared.pattern.Pattern.{Pattern}
use Rattle.ec_terms.specs.contracts.ground.ArgRefPartialEq.TheImpl.{eq-value}
use Rattle.ec_terms.specs.Binding.{Extends, stands_in, values_of}
use Rattle.ec_terms.specs.declared.theory.Exclusive.{Exclusive}
use Rattle.ec_terms.specs.declared.theory.Theory.{Theory}
use Rattle.ec_terms.specs.Domain.{both_fit, excludes, are_exclusive}
use Rattle.ec_terms.specs.DomainLaws.{FitTogether, HaveBinding, OneExcludes}
use Rattle.ec_terms.specs.Matching.{Values, binding_of, first_value, fits, fits_some, places_fit}
use Rattle.ec_terms.specs.Term.{arg_of, arg_eq, term_eq}
use Rattle.ec_terms.proofs.OrderLemmas.{term_eq-Decides}
use Rattle.ec_terms.proofs.MatchingLemmas.{arg_ref_eq, first_value-absent, fits-at_first_value, fits-unique, fits_some-from_fits, place_fits-Extends}

-- borrowed arguments are the same where the arguments that they show are
pub arg_refs_eq : (xs ys : List ArgRef) → pointwise eq-value.it xs ys ≡ pointwise arg_eq (map arg_of xs) (map arg_of ys)
arg_refs_eq [] [] = refl
arg_refs_eq [] (y ∷ ys) = refl
arg_refs_eq (x ∷ xs) [] = refl
arg_refs_eq (x ∷ xs) (y ∷ ys) = ap₂ (λ a b. a && b) (arg_ref_eq x y) (arg_refs_eq xs ys)

-- places in a row fit arguments in a row where each part does
places_fit-append : (values : Values) (ps qs : List PatArg) (xs ys : List Arg) → places_fit values ps xs ≡ true → places_fit values qs ys ≡ true →
    places_fit values (ps ++ qs) (xs ++ ys) ≡ true
unfolding places_fit
places_fit-append values [] qs [] ys front back = back
places_fit-append values [] qs (x ∷ xs) ys front back = cc
places_fit-append values (p ∷ ps) qs [] ys front back = cc
places_fit-append values (p ∷ ps) qs (x ∷ xs) ys front back =
    let parts = and_parts _ _ front in and_from _ _ parts.0 (places_fit-append values ps qs xs ys parts.1 back)

-- and the other way, where some binding fits the first part
places_fit-parts : (values some : Values) (ps qs : List PatArg) (xs ys : List Arg) → places_fit some ps xs ≡ true →
    places_fit values (ps ++ qs) (xs ++ ys) ≡ true → (places_fit values ps xs ≡ true) × (places_fit values qs ys ≡ true)
unfolding places_fit
places_fit-parts values some [] qs [] ys front all = (refl, all)
places_fit-parts values some [] qs (x ∷ xs) ys front all = cc
places_fit-parts values some (p ∷ ps) qs [] ys front all = cc
places_fit-parts values some (p ∷ ps) qs (x ∷ xs) ys front all =
    let parts = and_parts _ _ all in
    let rest = places_fit-parts values some ps qs xs ys (and_parts _ _ front).1 parts.1 in
    (and_from _ _ parts.0 rest.0, rest.1)

-- a pattern goes on fitting where a binding gets more values
places_fit-Extends : (s t : Values) (ps : List PatArg) (xs : List Arg) → Extends s t → places_fit s ps xs ≡ true → places_fit t ps xs ≡ true
unfolding places_fit
places_fit-Extends s t [] [] more fit = refl
places_fit-Extends s t [] (x ∷ xs) more fit = cc
places_fit-Extends s t (p ∷ ps) [] more fit = cc
places_fit-Extends s t (p ∷ ps) (x ∷ xs) more fit =
    let parts = and_parts _ _ fit in and_from _ _ (place_fits-Extends s t p x more parts.0) (places_fit-Extends s t ps xs more parts.1)

fits-Extends : (s t : Values) (pattern : Pattern) (term : Ground) → Extends s t → fits s pattern term ≡ true → fits t pattern term ≡ true
unfolding fits
fits-Extends s t pattern term more fit =
    let parts = and_parts _ _ fit in and_from _ _ parts.0 (places_fit-Extends s t pattern.args term.args more parts.1)

-- two patterns that fit under some one binding fit under that of their first places
both_fit-from : (values : Values) (left right : Pattern) (p q : Ground) → fits values left p ≡ true → fits values right q ≡ true → both_fit left right p q ≡ true
unfolding both_fit fits
both_fit-from values left right p q first second =
    let a = and_parts _ _ first in
    let b = and_parts _ _ second in
    let joined = places_fit-append values left.args right.args p.args q.args a.1 b.1 in
    let at_first = fits-at_first_value values (left.args ++ right.args) (p.args ++ q.args) joined in
    let parts = places_fit-parts (first_value (left.args ++ right.args) (p.args ++ q.args)) values left.args right.args p.args q.args a.1 at_first in
    and_from _ _ (and_from _ _ a.0 parts.0) (and_from _ _ b.0 parts.1)

-- a binding that fits a pattern has the values of the pattern's first places
Extends-fitting : (values : Values) (pattern : Pattern) (term : Ground) → fits values pattern term ≡ true → Extends (binding_of pattern term) values
Extends-fitting values pattern term fit v a given =
    ⊎_elim (λ there. fits-unique pattern term values v fit there ∙ given)
    (λ absent. let none = first_value-absent pattern.args term.args v absent in cc)
    (cases_Bool (stands_in v pattern))

-- the first pattern does not fit
pub both_fit-no_first : (left right : Pattern) (p q : Ground) → fits_some left p ≡ false → both_fit left right p q ≡ false
unfolding both_fit
both_fit-no_first left right p q none =
    false_from_ne_true _ (λ both. both_ways _ none (fits_some-from_fits left p (first_value (left.args ++ right.args) (p.args ++ q.args)) (and_parts _ _ both).0))

-- the second does not fit under any binding that goes on from the first
pub both_fit-no_second : (left right : Pattern) (p q : Ground) →
    ((values : Values) → Extends (binding_of left p) values → fits values right q ≡ false) → both_fit left right p q ≡ false
unfolding both_fit
both_fit-no_second left right p q none =
    let values = first_value (left.args ++ right.args) (p.args ++ q.args) in
    false_from_ne_true _ (λ both. let parts = and_parts _ _ both in both_ways _ (none values (Extends-fitting values left p parts.0)) parts.1)

-- both fit where the second fits under a binding that goes on from the first
pub both_fit-found : (found : Values) (left right : Pattern) (p q : Ground) → fits_some left p ≡ true →
    Extends (binding_of left p) found → fits found right q ≡ true → both_fit left right p q ≡ true
unfolding fits_some
both_fit-found found left right p q first more second =
    both_fit-from found left right p q (fits-Extends (binding_of left p) found left p more first) second

-- what the match of the second pattern gives
pub both_fit-given : (o : Option (List (Option Arg))) (start : Values) (left right : Pattern) (p q : Ground) →
    start ≡ binding_of left p → IsTrue (fits_some left p) →
    IfSome o (λ found. IsTrue (fits (values_of found) right q)) → IfSome o (λ found. Extends start (values_of found)) →
    IfNone o ((values : Values) → Extends start values → fits values right q ≡ false) → is_some o ≡ both_fit left right p q
both_fit-given (Some found) start left right p q same first second more none =
    let from_first : Extends (binding_of left p) (values_of found) = subst (λ s. Extends s (values_of found)) same more in
    sym (both_fit-found (values_of found) left right p q first from_first second)
both_fit-given None start left right p q same first second more none =
    sym (both_fit-no_second left right p q (λ values extends. none values (subst (λ s. Extends s values) (sym same) extends)))

-- a test that holds exactly where there is a value fails where there is none
pub false-from_none : {A : Type 0} (o : Option A) (b : Bool) → IsSome o ↔ IsTrue b → o ≡ None → b ≡ false
false-from_none o b same none = false_from_ne_true b (λ yes. let there = same.1 yes in cc)

-- ---- one binding for both

-- the word for two patterns is what it says
pub both_fit-FitTogether : (left right : Pattern) (p q : Ground) → FitTogether left right p q
unfolding both_fit
both_fit-FitTogether left right p q = (
  (λ both. (let parts = and_parts _ _ both in (first_value (left.args ++ right.args) (p.args ++ q.args), parts.0, parts.1))),
  (λ found. both_fit-from found.0 left right p q found.1 found.2),
)

-- a declaration that speaks of two properties has a binding for them, in one order or the other
HaveBinding-from_excludes : (p q : Ground) (d : Exclusive) → excludes p q d ≡ true → HaveBinding d.left d.right p q ⊎ HaveBinding d.left d.right q p
unfolding excludes
HaveBinding-from_excludes p q d speaks =
    ⊎_elim (λ here. inl ((both_fit-FitTogether d.left d.right p q).0 here)) (λ there. inr ((both_fit-FitTogether d.left d.right q p).0 there))
    (or_cases _ _ speaks)

-- and the other way
excludes-from_HaveBinding : (p q : Ground) (d : Exclusive) → HaveBinding d.left d.right p q ⊎ HaveBinding d.left d.right q p → excludes p q d ≡ true
unfolding excludes
excludes-from_HaveBinding p q d found =
    ⊎_elim (λ here. or_left _ _ ((both_fit-FitTogether d.left d.right p q).1 here)) (λ there. or_right _ _ ((both_fit-FitTogether d.left d.right q p).1 there))
    found

-- exclusive properties are those that the declarations' bindings make so
pub are_exclusive-OneExcludes : (theory : Theory) (p q : Ground) → OneExcludes theory p q
unfolding are_exclusive
are_exclusive-OneExcludes theory p q = (
  (λ yes.
      (let parts = and_parts _ _ yes in
      let any = Any-from_list_any (excludes p q) theory.exclusives parts.1 in (
        (λ same. both_ways _ (not-true _ parts.0) ((term_eq-Decides p q).1 same)),
        (any.0, any.1, any.2, any.3, HaveBinding-from_excludes p q any.1 any.4),
      ))),
  (λ found.
      (let any = found.1 in
      let differ = false_from_ne_true (term_eq p q) (λ same. found.0 ((term_eq-Decides p q).0 same)) in
      and_from _ _ (not_from_false _ differ)
      (list_any-from_Any (excludes p q) theory.exclusives (any.0, any.1, any.2, any.3, excludes-from_HaveBinding p q any.1 any.4)))),
)
