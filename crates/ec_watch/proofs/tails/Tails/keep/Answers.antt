-- What was gathered is sorted; where nothing is watched there is nothing to gather.
use Rattle.std.proofs.Common.{length, subst, sym}
use Rattle.std.proofs.lemmas.Bool.{eqb-true}
use Rattle.ec_watch.proofs.Sorted.{AreKeptTails-none, AreKeptTails-sorted}
use Rattle.ec_watch.specs.Tails.{AreGathered}
use Rattle.ec_watch.proofs.tails.Tails.keep.Goals as goal

pub returns-then-is_empty-clause-kept : goal.returns-then-is_empty-clause-kept
returns-then-is_empty-clause-kept g c =
    AreKeptTails-none g.T.Moment.rank c.args.watched.now c.args.props.now c.args.intervals.now c.args.touched.now c.clear.new.self (eqb-true (length c.args.watched.now) 0 (sym c.if-is_empty.ensures)) c.clear.ensures

pub returns-in-Ok-clause-kept : goal.returns-in-Ok-clause-kept
returns-in-Ok-clause-kept g c =
    let rank = g.T.Moment.rank in
    AreKeptTails-sorted rank c.args.watched.now c.args.props.now c.args.intervals.now c.args.touched.now c.self.inside.tails.items c.sort_by_place.new.tails.items c.sort_by_place.ensures.same c.sort_by_place.ensures.order
    (subst (AreGathered rank c.args.watched.now c.args.props.now c.args.intervals.now c.args.touched.now) (sym c.self.view_is) c.in-Ok.ensures.gathered)
