-- All but one more, modulo 2 ^ 64, is one less.
use Rattle.std.proofs.Common.{◌+◌, ◌^◌, ◌++◌, take, drop, ap, ◌∙◌}
use Rattle.std.specs.Prelude.{nat_lt}
use Rattle.ec_blocks.proofs.ChainLemmas.{list_all-drop}
use Rattle.ec_blocks.proofs.NumberLemmas.{lowered}
use Rattle.ec_blocks.proofs.starts.Starts.lower_behind.Goals as goal

pub returns-clause-items : goal.returns-clause-items
returns-clause-items c =
    c.add_behind.ensures.items
    ∙ ap (λ ps. take (c.args.k + 1) c.args.self.now.items ++ ps)
    (lowered (drop (c.args.k + 1) c.args.self.now.items)
    (list_all-drop (λ start. nat_lt start (2 ^ 64)) c.args.self.now.items (c.args.k + 1) c.add_behind.ensures.small) c.requires.some)
