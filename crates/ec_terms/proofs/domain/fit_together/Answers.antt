-- Matching the second pattern goes on from the binding of the first.
use Rattle.std.proofs.Common.{◌∙◌, sym, refl}
use Rattle.ec_terms.specs.Binding.{values_of}
use Rattle.ec_terms.specs.Term.{ground_of}
use Rattle.ec_terms.proofs.Exclusion.{both_fit-no_first, both_fit-given, false-from_none}
use Rattle.ec_terms.proofs.domain.fit_together.Goals as goal

pub returns-in-Some : goal.returns-in-Some
returns-in-Some c =
    let given = c.extend_match.ensures in
    c.is_some.ensures
    ∙ both_fit-given c.extend_match.result (values_of c.in-Some.binding) c.args.left.now c.args.right.now (ground_of c.args.p.now) (ground_of c.args.q.now)
    c.in-Some.ensures.binding (c.in-Some.ensures.fits.0 refl) given.fits given.extends given.none

pub returns-in-None : goal.returns-in-None
returns-in-None c =
    sym (both_fit-no_first c.args.left.now c.args.right.now (ground_of c.args.p.now) (ground_of c.args.q.now)
    (false-from_none c.matches.result _ c.matches.ensures.fits c.in-None.is))
