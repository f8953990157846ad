-- Each touched property that needs one adds its tail.
use Rattle.std.proofs.Common.{◌∷◌, [], ◌++◌, IfNone, IfSome, take, sym, ap, subst, ◌∙◌, arith}
use Rattle.std.proofs.lemmas.List.{take_all}
use Rattle.ec_parts.proofs.LinksByNumber.{IsOneToOne}
use Rattle.ec_delta.specs.Touched.{Row as TouchedRow}
use Rattle.ec_watch.specs.Tails.{AreGathered, IsTailAt, NeedsNoTail}
use Rattle.ec_watch.proofs.Gathered.{AreGathered-none, AreGathered-pass, AreGathered-more, take_next, touched_at-before, touched_at-there}
use Rattle.ec_watch.proofs.tails.Tails.gather.Goals as goal
use Rattle.ec_watch.proofs.tails.Tails.gather.Goals.{in-Some+in_ok-push, in_default}

pub tail_of-requires-clause-kept : goal.tail_of-requires-clause-kept
tail_of-requires-clause-kept g c =
    let row : TouchedRow _ = (c.row-change.result.0.0, c.row-change.result.1) in
    c.requires.kept row.0 row.1 (touched_at-there c.args.touched.now c.loop-i.i row c.len-i-end.ensures.once c.row-change.ensures)

pub loop-i-init : goal.loop-i-init
loop-i-init g c =
    subst (AreGathered g.T.Moment.rank c.args.watched.now c.args.props.now c.args.intervals.now []) (sym (c.self.view_is ∙ c.requires.none))
    (AreGathered-none g.T.Moment.rank c.args.watched.now c.args.props.now c.args.intervals.now)

pub loop-i-preserved : goal.loop-i-preserved
loop-i-preserved g c =
    let rank = g.T.Moment.rank in
    let rows = c.args.watched.now in
    let table = c.args.props.now in
    let row : TouchedRow _ = (c.row-change.result.0.0, c.row-change.result.1) in
    let fresh = touched_at-before c.args.touched.now c.loop-i.i row c.len-i-end.ensures.once c.row-change.ensures in
    let one : IsOneToOne table = record { in_order = c.len.ensures.order; numbers = c.len.ensures.numbers } in
    subst (λ touched. AreGathered rank rows table c.args.intervals.now touched c.match-branch-2.self-inside.tails.items) (sym (take_next c.args.touched.now c.loop-i.i row c.row-change.ensures))
    (elim c.match-branch-2.branch [
      | in-Some+in_ok-push w ↦
          let is = subst (λ found. IfSome found (IsTailAt rank rows table c.args.intervals.now row.0 row.1)) w.in-Some.is c.in_ok-tail.ensures.tail in
          subst (AreGathered rank rows table c.args.intervals.now (take c.loop-i.i c.args.touched.now ++ row ∷ [])) (sym (ap (λ inside. inside.tails.items) w.self-inside-is ∙ w.in_ok-push.ensures.items))
          (AreGathered-more rank rows table c.args.intervals.now (take c.loop-i.i c.args.touched.now) row c.loop-i.self-inside.tails.items fresh c.loop-i.invariant one w.in-Some.tail is)
      | in_default w ↦
          let needless = subst (λ found. IfNone found (NeedsNoTail rows table row.0 row.1)) w.in_default.is c.in_ok-tail.ensures.none in
          subst (AreGathered rank rows table c.args.intervals.now (take c.loop-i.i c.args.touched.now ++ row ∷ [])) (sym (ap (λ inside. inside.tails.items) w.self-inside-is))
          (AreGathered-pass rank rows table c.args.intervals.now (take c.loop-i.i c.args.touched.now) row c.loop-i.self-inside.tails.items fresh c.loop-i.invariant needless)
    ])

pub returns : goal.returns
returns g c = record {
  gathered = subst (λ touched. AreGathered g.T.Moment.rank c.args.watched.now c.args.props.now c.args.intervals.now touched c.loop-i.self-inside.tails.items)
      (take_all c.loop-i.i c.args.touched.now (omega (arith, c.loop-i-test.false, c.len-i-end.ensures.len))) c.loop-i.invariant;
}
