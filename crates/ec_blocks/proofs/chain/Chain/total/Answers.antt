-- The members are counted.
use Rattle.std.proofs.Common.{length, ap, ◌∙◌}
use Rattle.ec_blocks.specs.Chain.{joined}
use Rattle.ec_blocks.proofs.CountLemmas.{counted-total}
use Rattle.ec_blocks.proofs.chain.Chain.total.Goals as goal

pub returns : goal.returns
returns g c = c.total.ensures ∙ counted-total _ _ _ c.self.invariant.2 ∙ ap (λ v. length (joined v.blocks)) c.self.view_is
