-- An initial property and a time declaration are put behind the others.
use Rattle.std.proofs.Common.{rules}
use Rattle.ec_theory.specs.Reader.{clause_added}
use Rattle.ec_theory.proofs.clause.push_clause.Goals as goal

pub returns-in-Initial : goal.returns-in-Initial
unfolding clause_added
returns-in-Initial c = search rules

pub returns-in-Time : goal.returns-in-Time
unfolding clause_added
returns-in-Time c = search rules
