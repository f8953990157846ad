-- Some members are written over, the others taken out, and what is left is inserted.
use Rattle.std.proofs.Common.{◌+◌, take, ap, ◌∙◌, arith}
use Rattle.std.specs.List.{splice}
use Rattle.std.proofs.lemmas.List.{take_rest}
use Rattle.ec_blocks.proofs.SpliceLemmas.{splice-parts}
use Rattle.ec_blocks.proofs.blocks.Blocks.splice.Goals as goal

pub returns-clause-items : goal.returns-clause-items
returns-clause-items g c =
    splice-parts c.args.self.now.items c.args.with.now c.overwrite.new.self.items c.remove_all.new.self.items c.insert_all.new.self.items c.args.from c.min-both.result c.args.to
    (omega arith) (omega arith) (omega arith)
    (c.overwrite.ensures.items ∙ ap (λ n. splice c.args.self.now.items c.args.from (c.args.from + c.min-both.result) (take n c.args.with.now)) (omega arith))
    c.remove_all.ensures.items
    (c.insert_all.ensures.items
    ∙ ap (λ ys. splice c.remove_all.new.self.items (c.args.from + c.min-both.result) (c.args.from + c.min-both.result) ys) (take_rest c.args.with.now c.min-both.result))
