-- The copy stands in the place of the old one.
use Rattle.std.proofs.Common.{◌-◌, Some, length, set, map, refl, sym, ap, ◌∙◌, arith}
use Rattle.std.proofs.lemmas.List.{map-set}
use Rattle.std.proofs.lemmas.Option.{slice_get_read}
use Rattle.ec_blocks.specs.Chain.{last_of}
use Rattle.ec_blocks.proofs.ChainLemmas.{set-some}
use Rattle.ec_blocks.proofs.chain.keep_last.Goals as goal

pub returns-then-not-is_other-clause-lasts : goal.returns-then-not-is_other-clause-lasts
returns-then-not-is_other-clause-lasts g c = set-some c.args.lasts.now.items c.args.k (last_of c.args.block.now) (c.requires.same (grind (arith, c.if-not-is_other.true))) c.requires.within

pub returns-clause-lasts : goal.returns-clause-lasts
returns-clause-lasts g c =
    map-set (λ x. Some x) c.args.lasts.now.items c.args.k c.copied.result
    ∙ ap (λ o. set (map (λ x. Some x) c.args.lasts.now.items) c.args.k o)
    (ap (λ x. Some x) c.copied.ensures ∙ sym (slice_get_read c.args.block.now (length c.args.block.now) (length c.args.block.now - 1) c.index-block-block.result refl (omega arith) c.index-block-block.is))
