-- A time outside the reach of a group lies outside those of its numbers.
use Rattle.std.proofs.Common.{ap, sym, subst, ◌∙◌}
use Rattle.ec_intervals.specs.Near.{AreGrouped}
use Rattle.ec_intervals.specs.Reach.{is_outside}
use Rattle.ec_intervals.proofs.NearLemmas.{outside-next}
use Rattle.ec_intervals.proofs.reaches.Reaches.near.Goals as goal
use Rattle.ec_intervals.proofs.reaches.Reaches.near.Goals.{then-is_outside, else-is_outside}

pub loop-group-preserved : goal.loop-group-preserved
loop-group-preserved g c =
    let rank = g.T.Moment.rank in
    let t = rank c.args.at in
    let groups = c.self.inside.groups in
    let grouped : AreGrouped rank groups c.args.self.now.items = subst (AreGrouped rank groups) (ap (λ r. r.items) c.self.view_is) c.self.invariant in
    elim c.if-is_outside.branch [
      | then-is_outside w ↦ rw w.near-is (outside-next rank t groups c.args.self.now.items c.loop-group.near w.leave_out.new.self c.loop-group.group grouped c.loop-group.invariant w.leave_out.ensures
          (ap (λ reach. is_outside rank reach t) (sym c.get.ensures) ∙ sym c.is_outside.ensures ∙ w.if-is_outside.true))
      | else-is_outside w ↦ rw w.near-is c.loop-group.invariant
    ]
