use Rattle.ec_terms.specs.Term.{ground_of}
use Rattle.ec_terms.proofs.MatchingLemmas.{fits-other_shape}
use Rattle.ec_terms.proofs.matching.extend_match.Goals as goal

pub returns-then-not-has_shape-clause-none : goal.returns-then-not-has_shape-clause-none
returns-then-not-has_shape-clause-none c =
    λ values more. fits-other_shape values c.args.pattern.now (ground_of c.args.term.now) (cc)
