use Rattle.ec_check.specs.Faults.{each_open}
use Rattle.ec_check.proofs.FewVariables.{few_in_rule}
use Rattle.ec_check.proofs.rules.has_few_variables.Goals as goal

pub returns : goal.returns
unfolding each_open
returns c = rw (c.both-2.ensures, c.is_small-2.ensures, c.both-open.ensures, c.literals_are_small.ensures, c.both.ensures, c.tests_are_small.ensures, c.is_small.ensures) (few_in_rule c.args.rule.now c.requires)
