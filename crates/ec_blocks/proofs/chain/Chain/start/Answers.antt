-- The start is kept.
use Rattle.std.proofs.Common.{ap, arith}
use Rattle.std.specs.Vec.{vec_capacity}
use Rattle.ec_blocks.proofs.ChainLemmas.{place-within, starts-count, start-is}
use Rattle.ec_blocks.proofs.chain.Chain.start.Goals as goal

pub get-requires : goal.get-requires
get-requires g c =
    omega (arith, starts-count (λ b. b.items) (λ b. vec_capacity b) _ _ _ _ c.self.invariant.0, place-within (λ b. b.items) (λ b. vec_capacity b) c.self.inside.blocks.items _ c.args.k (ap (λ v. v.blocks) c.self.view_is) c.requires)

pub returns : goal.returns
returns g c = start-is (λ b. b.items) (λ b. vec_capacity b) _ _ _ _ c.self.invariant.0 _ c.args.k _ (ap (λ v. v.blocks) c.self.view_is) c.requires c.get.ensures
