-- What an entry does to a property, by its kind and its head.
use Rattle.std.proofs.Common.{◌≡◌, Bool, true, false, ◌&&◌, ◌||◌, refl, sym, ap, ◌∙◌, arith}
use Rattle.ec_terms.specs.declared.ground.Ground.{Ground}
use Rattle.ec_terms.specs.declared.theory.Kind.{Kind}
use Rattle.ec_terms.specs.declared.theory.Kind.TheVariants.{Initiates, Terminates}
use Rattle.ec_terms.specs.declared.theory.Theory.{Theory}
use Rattle.ec_terms.specs.Domain.{GroundEntry, are_exclusive, is_strong}
use Rattle.ec_terms.specs.Term.{term_eq}
use Rattle.ec_terms.proofs.DomainLemmas.{term_eq-refl}
use Rattle.ec_axioms.specs.Calculus.{is_breaking, is_clashing, is_initiating, is_terminating}

module _ (p : Ground) (entry : GroundEntry) where
  -- the entry, of another kind
  abbrev of_kind : Kind → GroundEntry
  of_kind kind = record entry { kind = kind }

  -- one that initiates
  is_initiating-Initiates : is_initiating p (of_kind Initiates) ≡ term_eq entry.head p
  unfolding is_initiating
  is_initiating-Initiates = refl

  is_terminating-Initiates : is_terminating p (of_kind Initiates) ≡ false
  unfolding is_terminating
  is_terminating-Initiates = refl

  is_breaking-Initiates : (theory : Theory) → is_breaking theory p (of_kind Initiates) ≡ (are_exclusive theory p entry.head || (is_strong theory p && term_eq entry.head p))
  unfolding is_breaking is_clashing is_initiating
  is_breaking-Initiates theory = ap (λ b. (b && are_exclusive theory p entry.head) || (is_strong theory p && term_eq entry.head p)) (term_eq-refl entry.head)

  -- and one that terminates
  is_initiating-Terminates : is_initiating p (of_kind Terminates) ≡ false
  unfolding is_initiating
  is_initiating-Terminates = refl

  is_terminating-Terminates : is_terminating p (of_kind Terminates) ≡ term_eq entry.head p
  unfolding is_terminating
  is_terminating-Terminates = refl

  is_breaking-Terminates : (theory : Theory) → is_breaking theory p (of_kind Terminates) ≡ false
  unfolding is_breaking is_clashing is_initiating
  is_breaking-Terminates theory = none (is_strong theory p)
    where
      none : (b : Bool) → (false || (b && false)) ≡ false
      none true = refl
      none false = refl

  module _ (initiates : entry.kind ≡ Initiates) where
    pub initiates-initiating : term_eq entry.head p ≡ is_initiating p entry
    initiates-initiating = sym is_initiating-Initiates ∙ ap (λ kind. is_initiating p (of_kind kind)) (sym initiates)

    pub initiates-terminating : false ≡ is_terminating p entry
    initiates-terminating = sym is_terminating-Initiates ∙ ap (λ kind. is_terminating p (of_kind kind)) (sym initiates)

    pub initiates-breaking : (theory : Theory) → (are_exclusive theory p entry.head || (is_strong theory p && term_eq entry.head p)) ≡ is_breaking theory p entry
    initiates-breaking theory = sym (is_breaking-Initiates theory) ∙ ap (λ kind. is_breaking theory p (of_kind kind)) (sym initiates)

  module _ (terminates : entry.kind ≡ Terminates) where
    pub terminates-initiating : false ≡ is_initiating p entry
    terminates-initiating = sym is_initiating-Terminates ∙ ap (λ kind. is_initiating p (of_kind kind)) (sym terminates)

    pub terminates-terminating : term_eq entry.head p ≡ is_terminating p entry
    terminates-terminating = sym is_terminating-Terminates ∙ ap (λ kind. is_terminating p (of_kind kind)) (sym terminates)

    pub terminates-breaking : (theory : Theory) → false ≡ is_breaking theory p entry
    terminates-breaking theory = sym (is_breaking-Terminates theory) ∙ ap (λ kind. is_breaking theory p (of_kind kind)) (sym terminates)

-- either breaks the property: an exclusive one, or the property itself where it is strong
pub breaks_either : (asked strong own exclusive is_strong is_own : Bool) → asked ≡ exclusive → strong ≡ is_strong → own ≡ is_own → (asked || (strong && own)) ≡ (exclusive || (is_strong && is_own))
breaks_either asked strong own exclusive is_strong is_own first second third = grind arith
