-- What is written to prove that a property holds.
use Rattle.std.proofs.Common.{◌≡◌, ℕ, ℤ, Bool, true, false, cond, List, [], ◌∷◌, ◌++◌, codes, sym, ap, ◌∙◌}
use Rattle.ec_terms.specs.declared.ground.Ground.{Ground}
use Rattle.ec_terms.specs.declared.theory.Theory.{Theory}
use Rattle.ec_axioms.specs.Calculus.{PlainEvent, holds_at}
use Rattle.ec_cone.specs.Label.{label_text}
use Rattle.ec_cert.specs.Verdicts.{proof_text}

-- the label, where the property holds
pub proof_text-yes : (theory : Theory) (events : List PlainEvent) (canon : ℤ → List ℕ) (p : Ground) (t : ℤ) (holds : Bool) → holds ≡ holds_at theory events p t → holds ≡ true
    → label_text theory events canon p t ≡ proof_text theory events canon p t
unfolding proof_text
proof_text-yes theory events canon p t holds is it_does =
    sym (ap (λ b. cond b (label_text theory events canon p t) (codes "none" ++ 10 ∷ [])) (sym is ∙ it_does))

-- and `none`, where it does not
pub proof_text-no : (theory : Theory) (events : List PlainEvent) (canon : ℤ → List ℕ) (p : Ground) (t : ℤ) (holds : Bool) → holds ≡ holds_at theory events p t → holds ≡ false
    → codes "none" ++ 10 ∷ [] ≡ proof_text theory events canon p t
unfolding proof_text
proof_text-no theory events canon p t holds is none =
    sym (ap (λ b. cond b (label_text theory events canon p t) (codes "none" ++ 10 ∷ [])) (sym is ∙ none))
