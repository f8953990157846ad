-- Equality of forms.
use Rattle.std.proofs.Common.{◌≡◌, ℕ, List, Decides, ap, ap₂}
use Rattle.std.proofs.lemmas.Bool.{and_parts, and_from}
use Rattle.std.proofs.lemmas.Bool.Decides.{Decides-eqb}
use Rattle.std.proofs.lemmas.Slice.Eq.{bytes_eq-Decides}
use Rattle.ec_cone.specs.Forms.{Form, form_eq}

-- `form_eq` tells whether two forms are the same
pub form_eq-Decides : (f g : Form) → Decides (form_eq f g) (f ≡ g)
unfolding form_eq
form_eq-Decides f g = (
  (λ same.
      let parts = and_parts _ _ same in
      let made : List ℕ → ℕ → Form = λ name arity. record { name = name; arity = arity } in
      ap₂ made ((bytes_eq-Decides f.name g.name).0 parts.0) ((Decides-eqb f.arity g.arity).0 parts.1)),
  (λ is.
      and_from _ _ ((bytes_eq-Decides f.name g.name).1 (ap (λ (h : Form). h.name) is))
      ((Decides-eqb f.arity g.arity).1 (ap (λ (h : Form). h.arity) is))),
)
