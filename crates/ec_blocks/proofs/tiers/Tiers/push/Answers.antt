-- At the end an insertion is a push.
use Rattle.std.proofs.Common.{◌∙◌}
use Rattle.ec_blocks.proofs.JoinLemmas.{insert-end}
use Rattle.ec_blocks.proofs.tiers.Tiers.push.Goals as goal

pub returns-clause-items : goal.returns-clause-items
returns-clause-items g c = c.insert_straight.ensures.items ∙ insert-end c.args.self.now.items c.len-end.result c.args.x c.len-end.ensures
