use Rattle.ec_terms.specs.Term.{ground_of}
use Rattle.ec_terms.proofs.MatchingLemmas.{matches-fits, matches-binding, matches-other_shape}
use Rattle.ec_terms.proofs.matching.matches.Goals as goal

pub returns-clause-fits : goal.returns-clause-fits
returns-clause-fits c =
    matches-fits c.match_places.result c.new.result c.args.pattern.now (ground_of c.args.term.now) c.new.ensures c.match_places.ensures.fits c.match_places.ensures.none

pub returns-clause-binding : goal.returns-clause-binding
returns-clause-binding c =
    matches-binding c.match_places.result c.new.result c.args.pattern.now (ground_of c.args.term.now) c.new.ensures c.match_places.ensures.fits c.match_places.ensures.bound

pub returns-then-not-has_shape-clause-fits : goal.returns-then-not-has_shape-clause-fits
returns-then-not-has_shape-clause-fits c = matches-other_shape c.args.pattern.now (ground_of c.args.term.now) (cc)
