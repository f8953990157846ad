-- Where no clause is wrong, the theory is the one that was given.
use Rattle.std.proofs.Common.{sym, arith}
use Rattle.std.proofs.lemmas.Grind.{common_steps}
use Rattle.ec_check.proofs.FirstFaults.{found_is_first, none_is_sound}
use Rattle.ec_check.proofs.checked.check.Goals as goal

pub returns-in-Some-clause-first : goal.returns-in-Some-clause-first
returns-in-Some-clause-first c = found_is_first c.args.theory c.in-Some.fault c.requires.numbered (sym c.in-Some.ensures)

pub returns-in-None-clause-sound : goal.returns-in-None-clause-sound
returns-in-None-clause-sound c = none_is_sound c.args.theory c.requires.numbered (sym c.in-None.ensures)

pub returns-in-None-clause-ok : goal.returns-in-None-clause-ok
returns-in-None-clause-ok c = grind (arith, common_steps)
