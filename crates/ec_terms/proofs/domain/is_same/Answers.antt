-- The names are the same, and so the arguments decide.
use Rattle.std.proofs.Common.{◌≡◌, ap, ap₂, ◌&&◌, ◌∙◌, true, map}
use Rattle.std.specs.Str.{bytes_eq}
use Rattle.std.specs.Cmp.Lexicographic.{pointwise}
use Rattle.ec_terms.specs.Term.{term_eq, arg_eq, arg_of}
use Rattle.ec_terms.specs.contracts.ground.ArgRefPartialEq.TheImpl.{eq-value}
use Rattle.ec_terms.proofs.Exclusion.{arg_refs_eq}
use Rattle.ec_terms.proofs.domain.is_same.Goals as goal

pub returns-then-eq : goal.returns-then-eq
unfolding term_eq
returns-then-eq c =
    let left = c.args.left.now in
    let right = c.args.right.now in
    let names : true ≡ bytes_eq left.name.now right.name.now = c.if-eq.ensures in
    c.eq-then-eq.ensures
    ∙ ap₂ (λ xs ys. pointwise eq-value.it xs ys) c.as_slice.ensures.items c.as_slice-then-eq.ensures.items
    ∙ arg_refs_eq left.args right.args
    ∙ ap (λ b. b && pointwise arg_eq (map arg_of left.args) (map arg_of right.args)) names
