-- A declaration of which the other side fits the second term speaks of both.
use Rattle.std.proofs.Common.{◌≡◌, true, false, not, ◌&&◌, sym, ap, ap₂, ◌∙◌}
use Rattle.std.specs.List.{list_any}
use Rattle.ec_terms.specs.Binding.{values_of}
use Rattle.ec_terms.specs.Domain.{are_exclusive, excludes}
use Rattle.ec_terms.specs.Term.{ground_of, term_eq}
use Rattle.ec_exclusive.proofs.Joined.{joined-found}
use Rattle.ec_exclusive.proofs.search.are_exclusive_by.Goals as goal

pub returns-then-is_same : goal.returns-then-is_same
unfolding are_exclusive
returns-then-is_same c =
    let same : term_eq (ground_of c.args.term.now) (ground_of c.args.second.now) ≡ true = sym c.is_same.ensures ∙ c.if-is_same.true in
    sym (ap (λ b. not b && list_any (excludes (ground_of c.args.term.now) (ground_of c.args.second.now)) c.args.theory.now.exclusives) same)

pub returns-then-is_some : goal.returns-then-is_some
unfolding are_exclusive
returns-then-is_some c =
    let apart : term_eq (ground_of c.args.term.now) (ground_of c.args.second.now) ≡ false = sym c.is_same.ensures ∙ c.if-is_same.false in
    let speaks : list_any (excludes (ground_of c.args.term.now) (ground_of c.args.second.now)) c.args.theory.now.exclusives ≡ true =
    joined-found c.args.theory.now (ground_of c.args.term.now) (ground_of c.args.second.now) c.args.other.now (values_of c.args.values.now) (values_of c.copied.result)
    c.extend_match.result c.requires.joined (ap values_of c.copied.ensures) c.extend_match.ensures.fits c.extend_match.ensures.extends (sym c.is_some.ensures ∙ c.if-is_some.true) in
    sym (ap₂ (λ a b. not a && b) apart speaks)
