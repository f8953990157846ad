-- A side of a declaration that fits a term: under its values the other side fits what the declaration joins with the term.
use Rattle.std.proofs.Common.{◌≡◌, ℕ, ◌<◌, true, length, get_or, Option, Some, None, is_some, List, sym, ap, subst, ◌∙◌}
use Rattle.std.specs.Prelude.{IsTrue, IfSome}
use Rattle.std.specs.List.{list_any}
use Rattle.std.proofs.lemmas.Bool.{or_left, or_right, false≢true}
use Rattle.std.proofs.lemmas.List.Folds.{list_any_at}
use Rattle.ec_terms.specs.declared.ground.Arg.{Arg}
use Rattle.ec_terms.specs.declared.ground.Ground.{Ground}
use Rattle.ec_terms.specs.declared.pattern.Pattern.{Pattern}
use Rattle.ec_terms.specs.declared.theory.Exclusive.{Exclusive}
use Rattle.ec_terms.specs.declared.theory.Theory.{Theory}
use Rattle.ec_terms.specs.Binding.{values_of, Extends}
use Rattle.ec_terms.specs.Domain.{excludes}
use Rattle.ec_terms.specs.Matching.{Values, binding_of, fits, fits_some}
use Rattle.ec_terms.proofs.Exclusion.{both_fit-found, both_fit-FitTogether}
use Rattle.ec_exclusive.specs.Neighbours.{AreJoined}

-- a declaration speaks of what its right side fits
excludes-right : (d : Exclusive) (term second : Ground) (found : Values) → fits_some d.left term ≡ true → Extends (binding_of d.left term) found →
    fits found d.right second ≡ true → excludes term second d ≡ true
unfolding excludes
excludes-right d term second found first more fit = or_left _ _ (both_fit-found found d.left d.right term second first more fit)

-- and of what its left side fits
excludes-left : (d : Exclusive) (term second : Ground) (found : Values) → fits_some d.right term ≡ true → Extends (binding_of d.right term) found →
    fits found d.left second ≡ true → excludes term second d ≡ true
unfolding excludes
excludes-left d term second found first more fit =
    let both = (both_fit-FitTogether d.right d.left term second).0 (both_fit-found found d.right d.left term second first more fit) in
    or_right _ _ ((both_fit-FitTogether d.left d.right second term).1 (both.0, both.2, both.1))

module _ (theory : Theory) (i : ℕ) (d : Exclusive) (term : Ground) (within : i < length theory.exclusives) (here : d ≡ get_or theory.exclusives i d) where
  pub AreJoined-right : fits_some d.left term ≡ true → AreJoined theory term d.right (binding_of d.left term)
  AreJoined-right first second found more fit =
      list_any_at (excludes term second) theory.exclusives i d within (ap (excludes term second) (sym here) ∙ excludes-right d term second found first more fit)

  pub AreJoined-left : fits_some d.right term ≡ true → AreJoined theory term d.left (binding_of d.right term)
  AreJoined-left first second found more fit =
      list_any_at (excludes term second) theory.exclusives i d within (ap (excludes term second) (sym here) ∙ excludes-left d term second found first more fit)

-- where the match of the other side finds values, some declaration speaks of both terms
pub joined-found : (theory : Theory) (term second : Ground) (other : Pattern) (values start : Values) (o : Option (List (Option Arg))) → AreJoined theory term other values → start ≡ values →
    IfSome o (λ found. IsTrue (fits (values_of found) other second)) → IfSome o (λ found. Extends start (values_of found)) → is_some o ≡ true →
    list_any (excludes term second) theory.exclusives ≡ true
joined-found theory term second other values start None joined same fit more some = absurd (false≢true some)
joined-found theory term second other values start (Some found) joined same fit more some =
    joined second (values_of found) (subst (λ v. Extends v (values_of found)) same more) fit
