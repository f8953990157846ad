-- The initiations that are kept of a property: all, or none.
use Rattle.std.proofs.Common.{◌≡◌, Bool, true, false, cond, List, [], refl, ap, ◌∙◌}
use Rattle.std.proofs.lemmas.Bool.{cond-true, or_left}
use Rattle.ec_terms.specs.declared.ground.Ground.{Ground}
use Rattle.ec_terms.specs.declared.theory.Theory.{Theory}
use Rattle.ec_terms.specs.Domain.{are_exclusive, is_strong}
use Rattle.ec_axioms.specs.Calculus.{PlainEvent}
use Rattle.ec_axioms.specs.Marks.{PlainMark}
use Rattle.ec_axioms.proofs.Members.{IsMember}
use Rattle.ec_exclusive.specs.Forms.{breaks_by_initiation, has_form}
use Rattle.ec_exclusive.proofs.KeyLemmas.{exclusive-has_form}
use Rattle.ec_parts.specs.Caches.{initiations_of, kept_initiations}

module _ (theory : Theory) (events : List PlainEvent) (p : Ground) where
  -- those of a property that an initiation may break are all kept
  pub kept_initiations-all : breaks_by_initiation theory p ≡ true → kept_initiations theory events p ≡ initiations_of theory events p
  kept_initiations-all breaks = cond-true (breaks_by_initiation theory p) (initiations_of theory events p) [] breaks

  -- and so are those of one that another excludes
  pub kept_initiations-exclusive : (q : Ground) → are_exclusive theory q p ≡ true → kept_initiations theory events p ≡ initiations_of theory events p
  kept_initiations-exclusive q exclusive = kept_initiations-all (or_left (has_form theory p) (is_strong theory p) (exclusive-has_form theory q p exclusive))

  -- where there are none, none are kept
  pub kept_initiations-none : initiations_of theory events p ≡ [] → kept_initiations theory events p ≡ []
  kept_initiations-none none = ap (λ ms. cond (breaks_by_initiation theory p) ms []) none ∙ neither (breaks_by_initiation theory p)
    where
      neither : (b : Bool) → (let nothing : List PlainMark = [] in cond b nothing nothing ≡ nothing)
      neither true = refl
      neither false = refl

  -- what is kept is one of them
  pub IsMember-kept_initiations : (m : PlainMark) → IsMember (kept_initiations theory events p) m → IsMember (initiations_of theory events p) m
  IsMember-kept_initiations m = each (breaks_by_initiation theory p)
    where
      each : (b : Bool) → IsMember (cond b (initiations_of theory events p) []) m → IsMember (initiations_of theory events p) m
      each true member = member
      each false member = absurd member
