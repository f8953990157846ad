-- At the end an insertion is a push.
use Rattle.std.proofs.Common.{◌∙◌, arith}
use Rattle.ec_blocks.proofs.JoinLemmas.{insert-end}
use Rattle.ec_blocks.proofs.starts.Starts.push.Goals as goal

pub insert-requires-clause-within : goal.insert-requires-clause-within
insert-requires-clause-within c = omega (arith, c.len-end.ensures)

pub returns-clause-items : goal.returns-clause-items
returns-clause-items c =
    c.insert.ensures.items
    ∙ insert-end c.args.self.now.items c.len-end.result c.args.start (omega (arith, c.len-end.ensures))
