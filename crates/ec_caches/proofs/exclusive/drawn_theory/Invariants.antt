-- The declarations so far can be matched.
use Rattle.ec_terms.specs.Matchable.{IsMatchable}
use Rattle.ec_caches.proofs.exclusive.drawn_theory.Given as goal

abbrev pub invariant-loop : goal.invariant-loop
invariant-loop g l = IsMatchable l.theory.value
