-- One number more for each that is kept more.
use Rattle.std.proofs.Common.{◌+◌, ◌%◌, ◌^◌, ◌<◌, length, get_or, sym, ap, ◌∙◌, arith}
use Rattle.std.proofs.lemmas.Result.{on_ok_weaker}
use Rattle.ec_blocks.proofs.NumberLemmas.{lifted-length, lifted-at}
use Rattle.ec_blocks.proofs.bases.Bases.extend.Goals as goal

pub returns-clause-same : goal.returns-clause-same
returns-clause-same c k inside =
    let within : k < length c.self.inside.kept.items = omega (arith, inside, ap length c.self.view_is, lifted-length c.self.inside.lift c.self.inside.kept.items) in
    lifted-at c.self.inside.lift c.extend_to.new.kept.items k (omega (arith, within, c.extend_to.ensures.more))
    ∙ ap (λ n. (n + c.self.inside.lift) % 2 ^ 64) (c.extend_to.ensures.same k (omega (arith, within)))
    ∙ sym (lifted-at c.self.inside.lift c.self.inside.kept.items k within) ∙ ap (λ ns. get_or ns k 0) c.self.view_is

pub returns-clause-more : goal.returns-clause-more
returns-clause-more c =
    omega (
      arith,
      c.extend_to.ensures.more,
      ap length c.self.view_is,
      lifted-length c.self.inside.lift c.self.inside.kept.items,
      lifted-length c.self.inside.lift c.extend_to.new.kept.items,
    )

pub returns-clause-ok : goal.returns-clause-ok
returns-clause-ok c = on_ok_weaker c.extend_to.result (λ enough. omega (arith, enough, lifted-length c.self.inside.lift c.extend_to.new.kept.items)) c.extend_to.ensures.ok
