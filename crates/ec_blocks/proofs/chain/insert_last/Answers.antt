-- The copy stands in front of the old one.
use Rattle.std.proofs.Common.{◌-◌, Some, length, map, refl, sym, ap, ◌∙◌, arith}
use Rattle.std.specs.List.{insert}
use Rattle.std.proofs.lemmas.Option.{slice_get_read}
use Rattle.ec_blocks.proofs.ChainLemmas.{map-insert}
use Rattle.ec_blocks.proofs.chain.insert_last.Goals as goal

pub returns-clause-lasts : goal.returns-clause-lasts
returns-clause-lasts g c =
    ap (map (λ x. Some x)) c.insert.ensures.items ∙ map-insert (λ x. Some x) c.args.lasts.now.items c.args.k c.copied.result
    ∙ ap (λ o. insert (map (λ x. Some x) c.args.lasts.now.items) c.args.k o)
    (ap (λ x. Some x) c.copied.ensures
    ∙ sym (slice_get_read c.args.block.now (length c.args.block.now) (length c.args.block.now - 1) c.index-block-block.result refl (omega arith) c.index-block-block.is))
