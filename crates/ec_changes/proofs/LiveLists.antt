-- Initial properties without variables are those that a theory lists, and live properties stand in one list.
use Rattle.std.specs.Prelude.{bytes_eq}
use Rattle.std.proofs.Common.{◌≡◌, ◌&&◌, ◌||◌, List, [], ◌∷◌, ◌++◌, map, filter_map, None, IsTrue, refl, sym, ap, ap₂, ◌∙◌, ⊎_elim}
use Rattle.std.specs.Cmp.Lexicographic.{pointwise}
use Rattle.std.specs.List.{list_any, list_all}
use Rattle.std.proofs.lemmas.Bool.{cases_Bool, and_parts, false≢true, false_from_ne_true}
use Rattle.std.proofs.lemmas.List.Folds.{list_any-append}
use Rattle.ec_terms.specs.declared.ground.Arg.{Arg}
use Rattle.ec_terms.specs.declared.ground.Ground.{Ground}
use Rattle.ec_terms.specs.declared.pattern.PatArg.{PatArg}
use Rattle.ec_terms.specs.declared.pattern.PatArg.TheVariants.{Var, Any, Fixed}
use Rattle.ec_terms.specs.declared.pattern.Pattern.{Pattern}
use Rattle.ec_terms.specs.declared.theory.Initial.{Initial}
use Rattle.ec_terms.specs.Matching.{Values, value_of, place_fits, places_fit, fits, binding_of, fits_some, filled}
use Rattle.ec_terms.specs.Term.{arg_eq, term_eq}
use Rattle.ec_terms.specs.Domain.{is_initial}
use Rattle.ec_terms.proofs.DomainLemmas.{term_eq-comm}
use Rattle.ec_axioms.specs.Links.{initial_properties, mentions_of, is_live, in_term_order, live_properties}
use Rattle.ec_changes.specs.LiveLaws.{is_fixed, FixedInitialsAreListed, LiveIsListed}
use Rattle.ec_changes.proofs.DistinctTerms.{IsDistinct-live_properties}
use Rattle.ec_changes.proofs.TermOrder.{IsMember-in_term_order, IsMember-from_in_term_order, IsMember-from_test, test-IsMember}

-- fixed places fit the arguments that they fix
places_fit-fixed : (values : Values) (ps : List PatArg) (args : List Arg) → IsTrue (list_all is_fixed ps)
    → places_fit values ps args ≡ pointwise arg_eq (filter_map (value_of (λ _. None)) ps) args
unfolding places_fit place_fits value_of
places_fit-fixed values [] [] fixed = refl
places_fit-fixed values [] (a ∷ args) fixed = refl
places_fit-fixed values (Fixed b ∷ ps) [] fixed = refl
places_fit-fixed values (Fixed b ∷ ps) (a ∷ args) fixed = ap (λ rest. arg_eq b a && rest) (places_fit-fixed values ps args fixed)
places_fit-fixed values (Var v ∷ ps) args fixed = absurd (false≢true fixed)
places_fit-fixed values (Any ∷ ps) args fixed = absurd (false≢true fixed)

-- a pattern of fixed places fits one term, which is it filled in
fits_some-fixed : (pattern : Pattern) (p : Ground) → IsTrue (list_all is_fixed pattern.args) → fits_some pattern p ≡ term_eq p (filled (λ _. None) pattern)
unfolding fits_some fits filled term_eq
fits_some-fixed pattern p fixed =
    ap (λ rest. bytes_eq pattern.name p.name && rest) (places_fit-fixed (binding_of pattern p) pattern.args p.args fixed)
    ∙ term_eq-comm (filled (λ _. None) pattern) p

-- the law
pub FixedInitialsAreListed-law : FixedInitialsAreListed
unfolding is_initial
FixedInitialsAreListed-law theory fixed p = each theory.initials fixed
  where
    each : (initials : List Initial) → IsTrue (list_all (λ (initial : Initial). list_all is_fixed initial.prop.args) initials)
        → list_any (λ (initial : Initial). fits_some initial.prop p) initials ≡ list_any (term_eq p) (map (λ (initial : Initial). filled (λ _. None) initial.prop) initials)
    each [] all = refl
    each (initial ∷ initials) all =
        let parts = and_parts (list_all is_fixed initial.prop.args) _ all in
        ap₂ (λ a b. a || b) (fits_some-fixed initial.prop p parts.0) (each initials parts.1)

-- putting properties in term order changes no member
pub test-in_term_order : (properties : List Ground) (p : Ground) → list_any (term_eq p) (in_term_order properties) ≡ list_any (term_eq p) properties
test-in_term_order properties p =
    ⊎_elim
    (λ there. test-IsMember (in_term_order properties) p (IsMember-in_term_order properties p (IsMember-from_test properties p there)) ∙ sym there)
    (λ absent. false_from_ne_true (list_any (term_eq p) (in_term_order properties))
    (λ there. false≢true (sym absent ∙ test-IsMember properties p (IsMember-from_in_term_order properties p (IsMember-from_test (in_term_order properties) p there)))) ∙ sym absent)
    (cases_Bool (list_any (term_eq p) properties))

-- the law
pub LiveIsListed-law : LiveIsListed
unfolding is_live live_properties
LiveIsListed-law theory events listed = (record { once = IsDistinct-live_properties theory events; live = λ p live. sym (same p) ∙ live }, same)
  where
    same : (p : Ground) → (is_initial theory p || list_any (term_eq p) (mentions_of theory events)) ≡ list_any (term_eq p) (live_properties theory events)
    same p =
        ap (λ initial. initial || list_any (term_eq p) (mentions_of theory events)) (listed p)
        ∙ sym (list_any-append (term_eq p) (initial_properties theory) (mentions_of theory events))
        ∙ sym (test-in_term_order (initial_properties theory ++ mentions_of theory events) p)
