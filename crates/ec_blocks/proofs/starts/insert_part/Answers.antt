-- The parts on one side are moved.
use Rattle.std.proofs.Common.{◌+◌, ◌-◌, drop, set, ap, ◌∙◌, arith}
use Rattle.ec_blocks.proofs.FreeLemmas.{insert-behind, insert-in_front}
use Rattle.ec_blocks.proofs.starts.insert_part.Goals as goal

pub returns-then-free-eq0-clause-items : goal.returns-then-free-eq0-clause-items
returns-then-free-eq0-clause-items c =
    ap (drop c.args.free) c.insert_within.ensures.items ∙ insert-behind c.args.free c.args.parts.now.items c.args.k c.args.part (omega (arith, c.requires.within))

pub returns-clause-items : goal.returns-clause-items
returns-clause-items c =
    ap (λ us. drop (c.args.free - 1) (set us (c.args.free + c.args.k - 1) c.args.part)) c.copy_within.ensures.items
    ∙ insert-in_front c.args.parts.now.items c.args.free (c.args.free - 1) c.args.k (c.args.free + c.args.k - c.args.free) (c.args.free + c.args.k - 1) c.args.part (omega arith) (omega arith) (omega arith) (omega (arith, c.requires.within))
