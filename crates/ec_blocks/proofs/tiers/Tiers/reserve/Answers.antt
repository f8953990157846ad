-- Members and groups have room.
use Rattle.std.proofs.Common.{length, ap, arith}
use Rattle.std.proofs.lemmas.Grind.{common_steps}
use Rattle.ec_blocks.proofs.TierLemmas.{unrolled-length}
use Rattle.ec_blocks.proofs.tiers.Tiers.reserve.Goals as goal

pub returns-clause-ok : goal.returns-clause-ok
returns-clause-ok g c =
    let same = ap (λ v. length v.items) c.self.view_is in
    let count = unrolled-length c.self.inside.heads.items c.self.inside.members.items in
    omega (arith, same, count, c.in_ok-reserve.ensures.ok, c.in_ok-reserve.ensures.len, c.div_ceil-groups.ensures, c.len.ensures, c.len-2.ensures, c.self.invariant.0, c.in_ok-reserve-2.ensures.ok)

pub returns-clause-room : goal.returns-clause-room
returns-clause-room c = grind (arith, common_steps)

pub returns-clause-items : goal.returns-clause-items
returns-clause-items c = grind (arith, common_steps)
