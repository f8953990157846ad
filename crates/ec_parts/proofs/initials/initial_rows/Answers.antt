-- What is in the boxes are the rows that were made.
use Rattle.std.proofs.Common.{◌≡◌, ap, sym, subst, ◌∙◌}
use Rattle.ec_numbered.specs.PropSet.{has_number}
use Rattle.ec_points.specs.Table.{has_row, marks_at, row_at}
use Rattle.ec_parts.specs.Initials.{HaveFirstIntervals}
use Rattle.ec_parts.proofs.initials.initial_rows.Goals as goal

pub begin_intervals-requires-clause-rows : goal.begin_intervals-requires-clause-rows
begin_intervals-requires-clause-rows g c n =
    let same : c.deref.result.now ≡ c.in_ok-with_initials.field-0 = cc (c.in_ok-points.ensures) in
    ap (has_row n) same ∙ (c.in_ok-with_initials.ensures.rows n ∙ ap (has_number n) (c.as_slice.ensures.items ∙ sym c.as_slice-2.ensures.items))

pub begin_intervals-requires-clause-marks : goal.begin_intervals-requires-clause-marks
begin_intervals-requires-clause-marks g c n =
    let same : c.deref.result.now ≡ c.in_ok-with_initials.field-0 = cc (c.in_ok-points.ensures) in
    ap (marks_at n) same ∙ c.in_ok-with_initials.ensures.marks n

pub returns-clause-initials : goal.returns-clause-initials
returns-clause-initials g c = ap (λ points. points.initials) c.in_ok-points.ensures ∙ c.in_ok-with_initials.ensures.initials ∙ c.as_slice.ensures.items

pub returns-clause-marks : goal.returns-clause-marks
returns-clause-marks g c n = ap (marks_at n) c.in_ok-points.ensures ∙ c.in_ok-with_initials.ensures.marks n

pub returns-clause-initiations : goal.returns-clause-initiations
returns-clause-initiations g c n = ap (row_at n) c.in_ok-initiations.ensures ∙ c.in_ok-new.ensures.rows n

pub returns-clause-intervals : goal.returns-clause-intervals
returns-clause-intervals g c =
    subst (HaveFirstIntervals g.T.Moment.rank c.args.neighbours.now c.args.numbers.now.items) (sym c.in_ok-boxed.ensures)
    (subst (λ ns. HaveFirstIntervals g.T.Moment.rank c.args.neighbours.now ns c.begin_intervals.new.intervals) c.as_slice-2.ensures.items c.in_ok-begin_intervals.ensures)
