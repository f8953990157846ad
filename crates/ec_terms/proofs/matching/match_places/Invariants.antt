use Rattle.std.proofs.Common.{◌≡◌, drop, map}
use Rattle.ec_terms.specs.Binding.{values_of}
use Rattle.ec_terms.specs.Term.{arg_of}
use Rattle.ec_terms.proofs.MatchingLemmas.{walk}
use Rattle.ec_terms.proofs.matching.match_places.Given as goal

abbrev pub invariant-loop-i : goal.invariant-loop-i
invariant-loop-i l =
    walk (values_of l.fn.start) l.fn.pattern.args (map arg_of l.fn.term.args)
    ≡ walk (values_of l.binding) (drop l.i l.fn.pattern.args) (drop l.i (map arg_of l.fn.term.args))
