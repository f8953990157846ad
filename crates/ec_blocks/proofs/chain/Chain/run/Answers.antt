-- The rest of the block.
use Rattle.std.proofs.Common.{drop, ap, ◌∙◌, arith}
use Rattle.std.proofs.lemmas.List.{take_rest}
use Rattle.ec_blocks.proofs.JoinLemmas.{run-joined}
use Rattle.ec_blocks.proofs.chain.Chain.run.Goals as goal

pub returns-clause-run : goal.returns-clause-run
returns-clause-run g c =
    run-joined c.args.self.now.blocks c.locate-k.result.0 c.locate-k.result.1 c.args.i _ c.locate-k.ensures.within (omega arith) (omega arith)
    (take_rest c.block.result.now c.locate-k.result.1 ∙ ap (drop c.locate-k.result.1) c.block.ensures.block)
