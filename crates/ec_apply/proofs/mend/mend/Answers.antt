use mir.Val.{bool_byte}
use Rattle.std.proofs.Common.{◌≡◌, ◌+◌, Bool, true, false, cond, refl, ap, ◌∙◌}
use Rattle.ec_apply.proofs.MendedRows.{AreMendedSoFar-none, AreMendedSoFar-same, AreMendedSoFar-pass, AreMendedSoFar-mend, IsMendable-now}
use Rattle.ec_apply.proofs.mend.mend.Goals as goal
use Rattle.ec_apply.proofs.mend.mend.Goals.{then-row, else-row}

-- a test as a number is 1 or 0
byte-is : (b : Bool) → bool_byte b ≡ cond b 1 0
byte-is true = refl
byte-is false = refl

pub loop-i-init : goal.loop-i-init
loop-i-init g c = AreMendedSoFar-none g.T.Moment.rank c.args.neighbours.now c.args.points.now c.args.touched.now c.args.intervals.now

pub mend_row-requires : goal.mend_row-requires
mend_row-requires g c =
    IsMendable-now g.T.Moment.rank c.args.neighbours.now c.args.points.now c.args.touched.now c.args.intervals.now c.requires.once c.loop-i.i
    (c.row-row.result.0.0, c.row-row.result.1) c.row-row.ensures c.loop-i.intervals c.loop-i.count c.loop-i.invariant
    (c.requires.mendable c.loop-i.i (c.row-row.result.0.0, c.row-row.result.1) c.row-row.ensures c.if-row.true)

pub loop-i-preserved : goal.loop-i-preserved
loop-i-preserved g c =
    elim c.if-row.branch [
      | then-row w ↦
          AreMendedSoFar-same g.T.Moment.rank c.args.neighbours.now c.args.points.now c.args.touched.now c.args.intervals.now (c.loop-i.i + 1) (c.loop-i.i + 1) w.mend_row.new.intervals c.if-row.intervals _ c.if-row.count refl w.intervals-is w.count-is
          (AreMendedSoFar-mend g.T.Moment.rank c.args.neighbours.now c.args.points.now c.args.touched.now c.args.intervals.now c.requires.once c.loop-i.i
          (c.row-row.result.0.0, c.row-row.result.1) c.row-row.ensures c.loop-i.intervals c.loop-i.count c.loop-i.invariant w.if-row.true w.mend_row.new.intervals w.mend_row.ensures.mended
          w.mend_row.ensures.others w.mend_row.ensures.buffer w.mend_row.result w.mend_row.ensures.moved (c.loop-i.count + w.from-count.result)
          (ap (λ n. c.loop-i.count + n) (w.from-count.ensures ∙ byte-is w.mend_row.result)))
      | else-row w ↦
          AreMendedSoFar-same g.T.Moment.rank c.args.neighbours.now c.args.points.now c.args.touched.now c.args.intervals.now (c.loop-i.i + 1) (c.loop-i.i + 1) c.loop-i.intervals c.if-row.intervals c.loop-i.count c.if-row.count refl w.intervals-is w.count-is
          (AreMendedSoFar-pass g.T.Moment.rank c.args.neighbours.now c.args.points.now c.args.touched.now c.args.intervals.now c.requires.once c.loop-i.i
          (c.row-row.result.0.0, c.row-row.result.1) c.row-row.ensures c.loop-i.intervals c.loop-i.count c.loop-i.invariant w.if-row.false)
    ]
