use Rattle.ec_theory.proofs.WalkLaws.{walk_reads, stop_of_reads}
use Rattle.ec_theory.proofs.laws.reading_law.Goals as goal

pub returns-clause-ends : goal.returns-clause-ends
returns-clause-ends c = walk_reads

pub returns-clause-stops_nowhere : goal.returns-clause-stops_nowhere
returns-clause-stops_nowhere c = stop_of_reads
