-- As the law says.
use Rattle.ec_commands.proofs.RelationLaws.{RelationsHaveInverses-law}
use Rattle.ec_commands.proofs.relation.relations_have_inverses_law.Goals as goal

pub returns : goal.returns
returns c = RelationsHaveInverses-law
