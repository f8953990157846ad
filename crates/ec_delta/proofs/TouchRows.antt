-- Where marks change of each property, once one row is put in its own place.
use Rattle.std.proofs.Common.{◌≡◌, ℕ, cond, List, Option, Some, sym, ap, ◌∙◌, ⊎_elim}
use Rattle.std.specs.Prelude.{◌==◌}
use Rattle.std.proofs.lemmas.Bool.{cases_Bool, cond-false, cond-true, eqb-true}
use Rattle.ec_delta.specs.declared.touches.Touched.{Touched}
use Rattle.ec_delta.specs.Touched.{Row, touched_at}

-- the row of a number is what is made of the one that stood there, and the others stay
pub touched_at-put : {T : Type 0} (p n : ℕ) (value : Touched T) (make : Option (Touched T) → Touched T) (before after : List (Row T))
    → touched_at n after ≡ cond (p == n) (Some value) (touched_at n before) → value ≡ make (touched_at p before)
    → touched_at n after ≡ cond (p == n) (Some (make (touched_at n before))) (touched_at n before)
touched_at-put p n value make before after put is =
    ⊎_elim
    (λ same.
    put ∙ cond-true (p == n) (Some value) (touched_at n before) same
    ∙ ap Some (is ∙ ap (λ m. make (touched_at m before)) (eqb-true p n same))
    ∙ sym (cond-true (p == n) (Some (make (touched_at n before))) (touched_at n before) same))
    (λ apart.
    put ∙ cond-false (p == n) (Some value) (touched_at n before) apart
    ∙ sym (cond-false (p == n) (Some (make (touched_at n before))) (touched_at n before) apart))
    (cases_Bool (p == n))
