-- What lies behind all full groups lies straight.
use Rattle.std.proofs.Common.{◌*◌, Some, length, get_or, refl, sym, ap, ◌∙◌, arith}
use Rattle.std.proofs.lemmas.Grind.{common_steps}
use Rattle.std.specs.List.{remove}
use Rattle.std.proofs.lemmas.Option.{slice_get-get_or}
use Rattle.ec_blocks.specs.Tiers.{unrolled}
use Rattle.ec_blocks.proofs.TierLemmas.{unrolled-length, get-straight, remove-straight}
use Rattle.ec_blocks.proofs.tiers.Tiers.remove_straight.Goals as goal

pub remove_turned-requires-clause-last : goal.remove_turned-requires-clause-last
remove_turned-requires-clause-last g c = omega (arith, ap (λ v. length v.items) c.self.view_is, unrolled-length c.self.inside.heads.items c.self.inside.members.items, c.len.ensures, c.if-len-eq0.true)

pub remove_turned-requires-clause-within : goal.remove_turned-requires-clause-within
remove_turned-requires-clause-within g c = omega (arith, ap (λ v. length v.items) c.self.view_is, unrolled-length c.self.inside.heads.items c.self.inside.members.items)

pub remove-requires : goal.remove-requires
remove-requires g c = omega (arith, ap (λ v. length v.items) c.self.view_is, unrolled-length c.self.inside.heads.items c.self.inside.members.items)

pub returns-else-len-eq0-clause-member : goal.returns-else-len-eq0-clause-member
returns-else-len-eq0-clause-member g c =
    let same = ap (λ v. length v.items) c.self.view_is in
    let count = unrolled-length c.self.inside.heads.items c.self.inside.members.items in
    slice_get-get_or c.args.self.now.items c.args.k c.remove.result c.requires.within
    ∙ ap Some (ap (λ v. get_or v.items c.args.k c.remove.result) (sym c.self.view_is)
    ∙ get-straight c.self.inside.heads.items c.self.inside.members.items (64 * length c.self.inside.heads.items) refl (omega (arith, c.self.invariant.0)) c.args.k c.remove.result
    (omega (arith, same, count, c.self.invariant.0, c.len.ensures, c.if-len-eq0.false, c.requires.last)) ∙ sym c.remove.ensures.value)

pub returns-else-len-eq0-clause-items : goal.returns-else-len-eq0-clause-items
returns-else-len-eq0-clause-items g c =
    let same = ap (λ v. length v.items) c.self.view_is in
    let count = unrolled-length c.self.inside.heads.items c.self.inside.members.items in
    ap (unrolled c.self.inside.heads.items) c.remove.ensures.items
    ∙ remove-straight c.self.inside.heads.items c.self.inside.members.items (64 * length c.self.inside.heads.items) refl (omega (arith, c.self.invariant.0)) c.args.k
    (omega (arith, same, count, c.self.invariant.0, c.len.ensures, c.if-len-eq0.false, c.requires.last))
    ∙ ap (λ v. remove v.items c.args.k) c.self.view_is

pub returns-then-len-eq0-clause-member : goal.returns-then-len-eq0-clause-member
returns-then-len-eq0-clause-member c = grind (arith, common_steps)

pub returns-then-len-eq0-clause-items : goal.returns-then-len-eq0-clause-items
returns-then-len-eq0-clause-items c = grind (arith, common_steps)

pub returns-else-len-eq0-clause-room : goal.returns-else-len-eq0-clause-room
returns-else-len-eq0-clause-room c = grind (arith, common_steps)

pub returns-then-len-eq0-clause-room : goal.returns-then-len-eq0-clause-room
returns-then-len-eq0-clause-room c = grind (arith, common_steps)
