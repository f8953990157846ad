-- Lists of properties with none twice.
use Rattle.std.proofs.Common.{List, ◌++◌, IsFalse, sym, ap, subst}
use Rattle.std.specs.Cmp.{IsEquivalence}
use Rattle.std.specs.List.{IsDistinct}
use Rattle.std.proofs.lemmas.Bool.{false_from_ne_true}
use Rattle.ec_terms.specs.declared.ground.Ground.{Ground}
use Rattle.ec_terms.specs.declared.theory.Theory.{Theory}
use Rattle.ec_terms.specs.Term.{term_eq}
use Rattle.ec_terms.proofs.DomainLemmas.{term_eq-comm, term_eq-refl}
use Rattle.ec_terms.proofs.OrderLemmas.{term_eq-Decides}
use Rattle.ec_axioms.specs.Calculus.{PlainEvent}
use Rattle.ec_axioms.specs.Links.{initial_properties, mentions_of, in_term_order, live_properties}
use Rattle.ec_axioms.proofs.Members.{IsPairwise-weaker}
use Rattle.ec_changes.proofs.DistinctLists.{IsDistinct-from_pairwise}
use Rattle.ec_changes.proofs.TermOrder.{IsBelow, IsBelow-itself, IsPairwise-in_term_order}

-- properties in term order stand there once
pub IsDistinct-in_term_order : (properties : List Ground) → IsDistinct term_eq (in_term_order properties)
IsDistinct-in_term_order properties =
    IsDistinct-from_pairwise term_eq (in_term_order properties)
    (IsPairwise-weaker IsBelow (λ p q. IsFalse (term_eq p q)) (in_term_order properties) (IsPairwise-in_term_order properties)
    (λ p q left right below. false_from_ne_true (term_eq p q) (λ same. IsBelow-itself p (subst (IsBelow p) (sym ((term_eq-Decides p q).0 same)) below))))

-- so do the live ones
pub IsDistinct-live_properties : (theory : Theory) (events : List PlainEvent) → IsDistinct term_eq (live_properties theory events)
unfolding live_properties
IsDistinct-live_properties theory events = IsDistinct-in_term_order (initial_properties theory ++ mentions_of theory events)

-- equality of terms is an equivalence
pub term_eq-IsEquivalence : IsEquivalence term_eq
term_eq-IsEquivalence = record {
  refl = term_eq-refl;
  symm = term_eq-comm;
  congr = λ p q r same. ap (λ s. term_eq s r) ((term_eq-Decides p q).0 same);
}
