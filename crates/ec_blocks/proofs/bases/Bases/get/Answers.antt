-- The sum of what is kept and of the lift.
use Rattle.std.proofs.Common.{◌+◌, ◌%◌, ◌^◌, ◌<◌, length, get_or, sym, ap, ◌∙◌, arith}
use Rattle.std.proofs.lemmas.List.{get_or_read}
use Rattle.ec_blocks.proofs.NumberLemmas.{lifted-length, lifted-at}
use Rattle.ec_blocks.proofs.bases.Bases.get.Goals as goal

pub index-requires : goal.index-requires
index-requires c = omega (arith, ap length c.self.view_is, lifted-length c.self.inside.lift c.self.inside.kept.items)

pub returns : goal.returns
returns c =
    let within : c.args.k < length c.self.inside.kept.items = omega (arith, ap length c.self.view_is, lifted-length c.self.inside.lift c.self.inside.kept.items) in
    ap (λ n. (n + c.self.inside.lift) % 2 ^ 64) (get_or_read c.self.inside.kept.items c.args.k c.index.result.now within c.index.ensures 0)
    ∙ sym (lifted-at c.self.inside.lift c.self.inside.kept.items c.args.k within) ∙ ap (λ ns. get_or ns c.args.k 0) c.self.view_is
