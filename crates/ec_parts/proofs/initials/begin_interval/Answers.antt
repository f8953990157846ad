-- Without marks, an initial property has the one interval that its row spells.
use Rattle.std.proofs.Common.{rules, arith}
use Rattle.std.proofs.lemmas.Grind.{common_steps}
use Rattle.ec_parts.proofs.initials.begin_interval.Goals as goal

pub returns-in-Some-clause-first : goal.returns-in-Some-clause-first
returns-in-Some-clause-first g c = search rules

pub returns-in_err-prepare-clause-first : goal.returns-in_err-prepare-clause-first
returns-in_err-prepare-clause-first c = grind (arith, common_steps)

pub returns-in_default-clause-others : goal.returns-in_default-clause-others
returns-in_default-clause-others c = grind (arith, common_steps)

pub rebuild-requires-clause-buffer : goal.rebuild-requires-clause-buffer
rebuild-requires-clause-buffer c = grind (arith, common_steps)

pub returns-in_default-clause-first : goal.returns-in_default-clause-first
returns-in_default-clause-first c = grind (arith, common_steps)

pub returns-in-Some-clause-others : goal.returns-in-Some-clause-others
returns-in-Some-clause-others c = grind (arith, common_steps)
