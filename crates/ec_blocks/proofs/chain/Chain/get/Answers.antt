-- The member stands in its block.
use Rattle.std.proofs.Common.{length, refl, sym, ap, ◌∙◌, arith}
use Rattle.std.specs.Prelude.{slice_get}
use Rattle.std.proofs.lemmas.Option.{slice_get_read}
use Rattle.ec_blocks.proofs.JoinLemmas.{slice_get-joined}
use Rattle.ec_blocks.proofs.chain.Chain.get.Goals as goal

pub returns : goal.returns
returns g c =
    slice_get-joined c.args.self.now.blocks c.locate-k.result.0 c.locate-k.result.1 c.args.i c.locate-k.ensures.within (omega arith) (omega arith)
    ∙ ap (λ xs. slice_get xs c.locate-k.result.1) (sym c.block.ensures.block)
    ∙ slice_get_read c.block.result.now (length c.block.result.now) c.locate-k.result.1 c.index-block-place.result refl (omega (arith, ap length c.block.ensures.block)) c.index-block-place.is
