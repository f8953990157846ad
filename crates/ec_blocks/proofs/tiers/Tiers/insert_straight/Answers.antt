-- What lies behind all groups lies straight, and so does a group that is full now.
use Rattle.std.proofs.Common.{◌≡◌, ◌*◌, ◌/◌, length, refl, sym, ap, ◌∙◌, arith}
use Rattle.std.proofs.lemmas.Grind.{common_steps}
use Rattle.std.specs.List.{insert}
use Rattle.ec_blocks.specs.Tiers.{unrolled}
use Rattle.ec_blocks.proofs.TierLemmas.{unrolled-length, insert-straight, group-more, groups-most, groups-behind}
use Rattle.ec_blocks.proofs.tiers.Tiers.insert_straight.Goals as goal

pub insert_within-requires-clause-within : goal.insert_within-requires-clause-within
insert_within-requires-clause-within g c = omega (arith, ap (λ v. length v.items) c.self.view_is, unrolled-length c.self.inside.heads.items c.self.inside.members.items)

pub insert_within-requires-clause-room : goal.insert_within-requires-clause-room
insert_within-requires-clause-room g c = omega (arith, ap (λ v. length v.items) c.self.view_is, ap (λ v. v.room) c.self.view_is, unrolled-length c.self.inside.heads.items c.self.inside.members.items)

pub push_reserved-requires : goal.push_reserved-requires
push_reserved-requires g c = omega (arith, ap (λ v. length v.items) c.self.view_is, ap (λ v. v.room) c.self.view_is, unrolled-length c.self.inside.heads.items c.self.inside.members.items, c.self.invariant.0)

pub returns-then-len-eq0-clause-items : goal.returns-then-len-eq0-clause-items
returns-then-len-eq0-clause-items g c =
    let count : length c.self.inside.heads.items ≡ length c.self.inside.members.items / 64 = sym c.self.inside.heads.ok.0 ∙ c.self.invariant.0 ∙ ap (λ n. n / 64) c.self.inside.members.ok.0 in
    let full = groups-most (length c.self.inside.members.items) (length c.self.inside.heads.items) count in
    let behind = groups-behind (length c.args.self.now.items) (length c.self.inside.members.items) (length c.self.inside.heads.items) c.args.k c.requires.behind
    (sym (unrolled-length c.self.inside.heads.items c.self.inside.members.items) ∙ ap (λ v. length v.items) c.self.view_is) count in
    ap (λ hs. unrolled hs c.insert_within.new.block.items) c.push_reserved.ensures.items
    ∙ group-more c.self.inside.heads.items c.insert_within.new.block.items (64 * length c.self.inside.heads.items) refl (omega (arith, full, c.insert_within.ensures.len)) (omega (arith, c.self.invariant.0, c.insert_within.ensures.len, c.if-len-eq0.true, c.len.ensures))
    ∙ ap (unrolled c.self.inside.heads.items) c.insert_within.ensures.items
    ∙ insert-straight c.self.inside.heads.items c.self.inside.members.items (64 * length c.self.inside.heads.items) refl full c.args.k c.args.x behind
    ∙ ap (λ v. insert v.items c.args.k c.args.x) c.self.view_is

pub returns-else-len-eq0-clause-items : goal.returns-else-len-eq0-clause-items
returns-else-len-eq0-clause-items g c =
    let count : length c.self.inside.heads.items ≡ length c.self.inside.members.items / 64 = sym c.self.inside.heads.ok.0 ∙ c.self.invariant.0 ∙ ap (λ n. n / 64) c.self.inside.members.ok.0 in
    let full = groups-most (length c.self.inside.members.items) (length c.self.inside.heads.items) count in
    let behind = groups-behind (length c.args.self.now.items) (length c.self.inside.members.items) (length c.self.inside.heads.items) c.args.k c.requires.behind
    (sym (unrolled-length c.self.inside.heads.items c.self.inside.members.items) ∙ ap (λ v. length v.items) c.self.view_is) count in
    ap (unrolled c.self.inside.heads.items) c.insert_within.ensures.items
    ∙ insert-straight c.self.inside.heads.items c.self.inside.members.items (64 * length c.self.inside.heads.items) refl full c.args.k c.args.x behind
    ∙ ap (λ v. insert v.items c.args.k c.args.x) c.self.view_is

pub returns-then-len-eq0-clause-room : goal.returns-then-len-eq0-clause-room
returns-then-len-eq0-clause-room c = grind (arith, common_steps)

pub invariant_of-self : goal.invariant_of-self
invariant_of-self c = grind (arith, common_steps)

pub returns-else-len-eq0-clause-room : goal.returns-else-len-eq0-clause-room
returns-else-len-eq0-clause-room c = grind (arith, common_steps)
