-- The second half is copied.
use Rattle.std.proofs.Common.{◌++◌, drop, ap, ap₂, ◌∙◌}
use Rattle.std.proofs.lemmas.List.{take_rest}
use Rattle.ec_blocks.proofs.chain.move_half.Goals as goal

pub returns-clause-back : goal.returns-clause-back
returns-clause-back g c =
    c.fill.ensures.items ∙ ap₂ (λ xs ys. xs ++ ys) c.requires.empty (take_rest c.deref.result.now 64 ∙ ap (drop 64) c.deref.ensures.value)
