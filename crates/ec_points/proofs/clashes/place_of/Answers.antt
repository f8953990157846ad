-- The clash stands at the cut, or it would go in there.
use Rattle.std.proofs.Common.{◌≡◌, ◌<◌, true, false, length, sym, ap, ◌∙◌, arith}
use Rattle.std.specs.Ordering.{is_eq}
use Rattle.ec_points.specs.Clashes.{clash_cmp, has_clash}
use Rattle.ec_points.proofs.ClashLemmas.{are_clashes-insert, has_clash-end, has_clash-here, has_clash-other, remove-here}
use Rattle.ec_points.proofs.clashes.place_of.Goals as goal
use Rattle.ec_points.proofs.clashes.place_of.Goals.{Then-place-len, Then-is_eq, Else-is_eq}

-- the list ends at the cut
absent-end : (g : _) (c : Then-place-len g) → has_clash g.T.Moment.rank c.args.clash.now.p.0 (g.T.Moment.rank c.args.clash.now.at) c.args.list.now.items ≡ false
absent-end g c =
    has_clash-end g.T.Moment.rank c.args.clash.now c.args.list.now.items c.count_before-place.result c.requires c.count_before-place.ensures.cut
    (omega (arith, c.if-place-len.true, c.len.ensures))

-- another stands at the cut
absent-other : (g : _) (c : Else-is_eq g) → has_clash g.T.Moment.rank c.args.clash.now.p.0 (g.T.Moment.rank c.args.clash.now.at) c.args.list.now.items ≡ false
absent-other g c =
    has_clash-other g.T.Moment.rank c.args.clash.now c.args.list.now.items c.count_before-place.result c.requires c.count_before-place.ensures.cut c.get.result.now c.get.ensures
    (ap is_eq (sym c.compare.ensures) ∙ sym c.is_eq.ensures ∙ c.if-is_eq.false)

-- it stands there itself
within : (g : _) (c : Then-is_eq g) → c.count_before-place.result < length c.args.list.now.items
within g c = omega (arith, c.count_before-place.ensures.within, c.if-place-len.false, c.len.ensures)

same : (g : _) (c : Then-is_eq g) → is_eq (clash_cmp g.T.Moment.rank c.get.result.now c.args.clash.now) ≡ true
same g c = ap is_eq (sym c.compare.ensures) ∙ sym c.is_eq.ensures ∙ c.if-is_eq.true

pub returns-then-place-len-clause-there : goal.returns-then-place-len-clause-there
returns-then-place-len-clause-there g c = sym (absent-end g c)

pub returns-then-place-len-clause-inserted : goal.returns-then-place-len-clause-inserted
returns-then-place-len-clause-inserted g c =
    are_clashes-insert g.T.Moment.rank c.args.clash.now c.args.list.now.items c.count_before-place.result c.requires c.count_before-place.ensures.cut (absent-end g c)

pub returns-then-is_eq-clause-there : goal.returns-then-is_eq-clause-there
returns-then-is_eq-clause-there g c =
    sym (has_clash-here g.T.Moment.rank c.args.clash.now c.args.list.now.items c.count_before-place.result c.requires c.count_before-place.ensures.cut (within g c) c.get.result.now
    c.get.ensures (same g c))

pub returns-then-is_eq-clause-removed : goal.returns-then-is_eq-clause-removed
returns-then-is_eq-clause-removed g c =
    remove-here g.T.Moment.rank c.args.clash.now c.args.list.now.items c.count_before-place.result c.requires c.count_before-place.ensures.cut (within g c) c.get.result.now
    c.get.ensures (same g c)

pub returns-else-is_eq-clause-there : goal.returns-else-is_eq-clause-there
returns-else-is_eq-clause-there g c = sym (absent-other g c)

pub returns-else-is_eq-clause-inserted : goal.returns-else-is_eq-clause-inserted
returns-else-is_eq-clause-inserted g c =
    are_clashes-insert g.T.Moment.rank c.args.clash.now c.args.list.now.items c.count_before-place.result c.requires c.count_before-place.ensures.cut (absent-other g c)
