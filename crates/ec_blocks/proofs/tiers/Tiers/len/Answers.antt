-- Each member stands in one group.
use Rattle.std.proofs.Common.{length, ap, arith}
use Rattle.ec_blocks.proofs.TierLemmas.{unrolled-length}
use Rattle.ec_blocks.proofs.tiers.Tiers.len.Goals as goal

pub returns : goal.returns
returns g c = omega (arith, ap (λ v. length v.items) c.self.view_is, unrolled-length c.self.inside.heads.items c.self.inside.members.items)
