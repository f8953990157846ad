-- What is owed, and the last block whole.
use Rattle.std.proofs.Common.{◌-◌, length, ap, arith}
use Rattle.std.proofs.lemmas.Grind.{common_steps}
use Rattle.std.specs.Vec.{vec_capacity}
use Rattle.ec_blocks.proofs.CountLemmas.{counted-same, owed-small, debt-counted}
use Rattle.ec_blocks.proofs.chain.Chain.debt.Goals as goal

pub overflow_add-result : goal.overflow_add-result
overflow_add-result g c = omega (arith, c.owed.ensures, owed-small (λ b. b.items) (λ b. vec_capacity b) _ _ _ c.self.invariant.0.kept (let few = c.self.invariant.1.few in omega arith) c.self.invariant.2)

pub returns : goal.returns
returns g c =
    let counted = counted-same _ _ _ _ (ap (λ v. v.blocks) c.self.view_is) c.self.invariant.2 in
    omega (arith, c.owed.ensures, counted.owed_is, ap length c.block.ensures.block, debt-counted c.args.self.now.blocks (c.count-count.result - 1) (omega arith))

pub returns-then-count-eq0 : goal.returns-then-count-eq0
returns-then-count-eq0 c = grind (arith, common_steps)
