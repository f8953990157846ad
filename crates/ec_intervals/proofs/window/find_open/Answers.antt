-- The walk ends at a mark that opens, or in front of all marks.
use Rattle.std.proofs.Common.{◌≡◌, ◌-◌, inl, inr, sym, ◌∙◌, is_some, arith}
use Rattle.ec_intervals.proofs.Walking.{open_at, open_at-here, open_at-before, open_at-initial}
use Rattle.ec_intervals.proofs.window.find_open.Goals as goal
use Rattle.ec_intervals.proofs.window.find_open.Goals.{then-breaks-via-then-breaks, then-breaks-via-else-breaks+then-not-is_open_behind-2}

pub returns-then-breaks : goal.returns-then-breaks
returns-then-breaks g c =
    elim c.then-breaks.branch [
      | then-breaks-via-then-breaks w ↦
          open_at-here g.T.Moment.rank (g.M.MarkRow.marks c.args.row.now) c.args.strong c.args.initial c.get-mark.ensures.row c.loop-i.i (omega (arith, c.loop-i-test.true)) c.get-mark.result c.get-mark.ensures.mark c.loop-i.invariant.some
          (inl (sym c.breaks.ensures ∙ w.if-breaks.true)) ∙ c.loop-i.invariant.found
      | then-breaks-via-else-breaks+then-not-is_open_behind-2 w ↦
          open_at-here g.T.Moment.rank (g.M.MarkRow.marks c.args.row.now) c.args.strong c.args.initial c.get-mark.ensures.row c.loop-i.i (omega (arith, c.loop-i-test.true)) c.get-mark.result c.get-mark.ensures.mark c.loop-i.invariant.some
          (inr (sym w.is_open_behind-else-breaks.ensures ∙ w.if-not-is_open_behind-2.true)) ∙ c.loop-i.invariant.found
    ]

pub loop-i-preserved : goal.loop-i-preserved
loop-i-preserved g c =
    let before : is_some (open_at g.T.Moment.rank (g.M.MarkRow.marks c.args.row.now) c.args.strong c.args.initial (c.loop-i.i - 1)) ≡ _ =
    sym c.is_open_behind-else-breaks.ensures ∙ c.if-not-is_open_behind-2.false in
    record {
      within = omega (arith, c.loop-i.invariant.within);
      found =
          sym (open_at-before g.T.Moment.rank (g.M.MarkRow.marks c.args.row.now) c.args.strong c.args.initial c.get-mark.ensures.row c.loop-i.i (omega (arith, c.loop-i-test.true)) c.get-mark.result c.get-mark.ensures.mark c.loop-i.invariant.some
          (sym c.breaks.ensures ∙ c.if-breaks.false) before) ∙ c.loop-i.invariant.found;
      some = before;
    }

pub returns : goal.returns
returns g c =
    open_at-initial g.T.Moment.rank (g.M.MarkRow.marks c.args.row.now) c.args.strong c.args.initial c.loop-i.i (omega (arith, c.loop-i-test.false)) c.loop-i.invariant.some ∙ c.loop-i.invariant.found
