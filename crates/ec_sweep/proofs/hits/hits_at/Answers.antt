-- At first there are no hits, and no property has been looked at.
use Rattle.std.proofs.Common.{◌+◌, get_or, refl, sym, ap, subst, ◌∙◌, take, arith}
use Rattle.std.specs.Prelude.{is_some}
use Rattle.std.specs.List.{IsDistinct}
use Rattle.std.proofs.lemmas.Grind.{common_steps}
use Rattle.ec_terms.specs.declared.ids.PropId.{PropId}
use Rattle.ec_sweep.specs.Hits.{AreHits, has_hit, same_hit}
use Rattle.ec_sweep.proofs.MoreHits.{AreHits-clean, AreHits-dirty}
use Rattle.ec_sweep.proofs.hits.hits_at.Goals as goal
use Rattle.ec_sweep.proofs.hits.hits_at.Goals.{then-is_some+in_ok-gather, else-is_some}
use Rattle.ec_sweep.proofs.NoHits.{AreHits-nil}

pub loop-p-init : goal.loop-p-init
loop-p-init g c =
    subst (AreHits g.T.Moment.rank c.args.entries.now.slots (g.T.Moment.rank c.args.at) c.args.dirty.now (take 0 c.args.due.now) c.args.removals.now) (sym c.take_hits-hits.ensures)
    (AreHits-nil g.T.Moment.rank c.args.entries.now.slots (g.T.Moment.rank c.args.at) c.args.dirty.now c.args.removals.now)

pub returns : goal.returns
returns c = grind (arith, common_steps)

pub loop-p-preserved : goal.loop-p-preserved
loop-p-preserved g c =
    let none : PropId = record { 0 = 0 } in
    let p : PropId = get_or c.args.due.now c.loop-p.p-index none in
    let rank = g.T.Moment.rank in
    elim c.if-is_some.branch [
      | then-is_some+in_ok-gather w ↦
          AreHits-dirty rank c.args.entries.now.slots (rank c.args.at) c.args.dirty.now c.args.due.now c.args.removals.now c.loop-p.p-index p none c.loop-p-test.true refl c.loop-p.hits c.loop-p.invariant
          (ap is_some (sym c.get.ensures) ∙ sym c.is_some.ensures ∙ w.if-is_some.true) c.if-is_some.hits
          (λ slot place. ap (has_hit slot place) w.hits-is ∙ w.in_ok-gather.ensures.hits slot place)
          (λ once. subst (IsDistinct same_hit) (sym w.hits-is) (w.in_ok-gather.ensures.once once))
      | else-is_some w ↦
          subst (AreHits rank c.args.entries.now.slots (rank c.args.at) c.args.dirty.now (take (c.loop-p.p-index + 1) c.args.due.now) c.args.removals.now) (sym w.hits-is)
          (AreHits-clean rank c.args.entries.now.slots (rank c.args.at) c.args.dirty.now c.args.due.now c.args.removals.now c.loop-p.p-index p none c.loop-p-test.true refl c.loop-p.hits c.loop-p.invariant
          (ap is_some (sym c.get.ensures) ∙ sym c.is_some.ensures ∙ w.if-is_some.false))
    ]
