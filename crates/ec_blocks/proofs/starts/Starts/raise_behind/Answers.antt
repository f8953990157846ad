-- One more, with no carry.
use Rattle.std.proofs.Common.{◌+◌, ◌++◌, take, drop, ap, ◌∙◌}
use Rattle.ec_blocks.proofs.NumberLemmas.{raised}
use Rattle.ec_blocks.proofs.starts.Starts.raise_behind.Goals as goal

pub returns-clause-items : goal.returns-clause-items
returns-clause-items c =
    c.add_behind.ensures.items ∙ ap (λ ps. take (c.args.k + 1) c.args.self.now.items ++ ps) (raised (drop (c.args.k + 1) c.args.self.now.items) c.requires.fits)
