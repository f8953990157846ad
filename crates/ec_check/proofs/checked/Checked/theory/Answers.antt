-- A theory without a fault can be matched.
use Rattle.std.proofs.Common.{rules}
use Rattle.ec_check.proofs.Matchable.{IsMatchable-well_formed}
use Rattle.ec_check.proofs.checked.Checked.theory.Goals as goal

pub returns-clause-matchable : goal.returns-clause-matchable
returns-clause-matchable c = IsMatchable-well_formed c.args.self.now (search rules)
