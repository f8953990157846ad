-- What a mention adds by one neighbour is spelled out.
use Rattle.std.proofs.Common.{rules, arith}
use Rattle.std.proofs.lemmas.Grind.{common_steps}
use Rattle.ec_parts.specs.Mentions.{links_to}
use Rattle.ec_parts.proofs.links.links_to.Goals as goal

pub returns : goal.returns
unfolding links_to
returns g c = search rules

pub overflow_add-result : goal.overflow_add-result
overflow_add-result c = grind (arith, common_steps)
