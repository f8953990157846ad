use Rattle.ec_theory.proofs.VariableSets.{Seen}
use Rattle.ec_theory.proofs.variables.Variables.of.Given as goal

abbrev pub invariant-loop-token : goal.invariant-loop-token
invariant-loop-token l = Seen l.tokens l.variables l.token-index
