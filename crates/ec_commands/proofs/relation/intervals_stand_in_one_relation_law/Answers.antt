-- As the law says.
use Rattle.ec_commands.proofs.RelationLaws.{IntervalsStandInOneRelation-law}
use Rattle.ec_commands.proofs.relation.intervals_stand_in_one_relation_law.Goals as goal

pub returns : goal.returns
returns c = IntervalsStandInOneRelation-law
