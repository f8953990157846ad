-- One more spare block.
use Rattle.std.proofs.Common.{◌+◌, ◌<◌, ◌^◌, ap, length, refl, arith, map, sym}
use Rattle.std.proofs.lemmas.Grind.{common_steps}
use Rattle.std.specs.Vec.{vec_capacity}
use Rattle.ec_blocks.proofs.ChainLemmas.{starts-count, lasts-count}
use Rattle.ec_blocks.proofs.EditLemmas.{rooms-spared, spared}
use Rattle.ec_blocks.proofs.CountLemmas.{counted-same}
use Rattle.ec_blocks.proofs.chain.Chain.add_spare.Goals as goal

pub widen-requires-clause-starts : goal.widen-requires-clause-starts
widen-requires-clause-starts g c = omega (arith, starts-count (λ b. b.items) (λ b. vec_capacity b) _ _ _ _ c.self.invariant.0)

pub widen-requires-clause-lasts : goal.widen-requires-clause-lasts
widen-requires-clause-lasts g c = omega (arith, lasts-count (λ b. b.items) (λ b. vec_capacity b) _ _ _ _ c.self.invariant.0)

pub invariant_of-self-2 : goal.invariant_of-self-2
invariant_of-self-2 g c =
    let few : c.len-count.result + c.len-spares.result < 2 ^ 56 = omega (arith, c.in_ok-_twice.ensures.fits) in (
      spared (λ b. b.items) (λ b. vec_capacity b) _ _ _ _ c.self.invariant.0 _ refl _ _ _ _ c.widen.ensures.blocks c.widen.ensures.starts c.widen.ensures.lasts c.push_spare.ensures.spare,
      rooms-spared (length c.self.inside.blocks.items) c.len-count.result c.self.inside.spares.len c.len-spares.result (length c.self.inside.starts.items) (length c.self.inside.lasts.items) _ _ _ _ _ _
          c.len-count.ensures c.len-spares.ensures (starts-count (λ b. b.items) (λ b. vec_capacity b) _ _ _ _ c.self.invariant.0) (lasts-count (λ b. b.items) (λ b. vec_capacity b) _ _ _ _ c.self.invariant.0)
          (ap length c.widen.ensures.blocks) few c.push_spare.ensures.most c.in_ok-widen.ensures.blocks_fit c.in_ok-widen.ensures.starts_fit c.in_ok-widen.ensures.lasts_fit
          c.push_spare.ensures.room,
      counted-same _ _ _ _ (ap (map (λ b. b.items)) (sym c.widen.ensures.blocks)) c.self.invariant.2,
    )

pub returns-clause-blocks : goal.returns-clause-blocks
returns-clause-blocks c = grind (arith, common_steps)

pub invariant_of-self : goal.invariant_of-self
invariant_of-self c = grind (arith, common_steps)

pub returns-clause-ok : goal.returns-clause-ok
returns-clause-ok c = grind (arith, common_steps)

pub returns-clause-err : goal.returns-clause-err
returns-clause-err c = grind (arith, common_steps)
