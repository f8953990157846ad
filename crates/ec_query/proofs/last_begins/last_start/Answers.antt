-- Behind the last start that is left, none of the initiations starts the property.
use Rattle.std.proofs.Common.{◌≡◌, ◌+◌, ◌-◌, None, option_map, take, sym, ap, ◌∙◌, arith}
use Rattle.std.proofs.lemmas.Grind.{common_steps}
use Rattle.std.specs.Prelude.{int_lt}
use Rattle.std.specs.List.{last_or}
use Rattle.ec_lists.proofs.Filters.{length-filter_le}
use Rattle.ec_axioms.specs.Calculus.{timeline_of}
use Rattle.ec_points.specs.Table.{marks_at, marks_in}
use Rattle.ec_parts.specs.StandFor.{view_of}
use Rattle.ec_query.proofs.OnMarks.{at_first, starts-earlier, starts-first, starts-here, starts-none, starts_of, times_in}
use Rattle.ec_query.proofs.OnParts.{on-times}
use Rattle.ec_query.proofs.last_begins.last_start.Goals as goal

pub returns-in_err-row : goal.returns-in_err-row
returns-in_err-row g c = λ events p on breaks.
    let parts = c.args.parts.now in
    let rank = g.T.Moment.rank in
    ap (option_map rank) c.from_residual.ensures
    ∙ sym (ap (last_or None)
    (starts-none rank parts.checked events p (marks_at c.args.id.0 parts.initiations) (on-times rank parts.checked events (view_of parts) c.args.id p on breaks) (rank c.args.at)
    (ap marks_in c.in_err-row.ensures.none)))

pub loop-i-init : goal.loop-i-init
loop-i-init g c =
    let parts = c.args.parts.now in
    let rank = g.T.Moment.rank in
    let marks = g.M.MarkRow.marks c.in_ok-row.row.now in
    let few = length-filter_le (λ mark. int_lt (rank mark.at) (rank c.args.at)) marks in
    record {
      within = omega (arith, few, c.count_before-i.ensures.count);
      last = λ events p on breaks.
          ap (last_or None)
          (starts-first rank parts.checked events p marks (ap (times_in rank) (sym (ap marks_in c.in_ok-row.ensures.some)) ∙ on-times rank parts.checked events (view_of parts) c.args.id p on breaks) (rank c.args.at)
          c.count_before-i.result c.count_before-i.ensures.count c.count_before-i.ensures.row);
    }

pub returns-then-starts_at : goal.returns-then-starts_at
returns-then-starts_at g c = λ events p on breaks.
    let theory = c.args.parts.now.checked in
    let rank = g.T.Moment.rank in
    let marks = g.M.MarkRow.marks c.in_ok-row.row.now in
    let again : c.loop-i.i - 1 + 1 ≡ c.loop-i.i = omega (arith, c.loop-i-test.true) in
    sym (starts-here rank (timeline_of theory events p) marks (c.loop-i.i - 1) c.get-start.result c.get-start.ensures.mark (sym (c.starts_at.ensures events p on) ∙ c.if-starts_at.true))
    ∙ ap (λ n. last_or None (starts_of rank (timeline_of theory events p) (take n marks))) again
    ∙ c.loop-i.invariant.last events p on breaks

pub loop-i-preserved : goal.loop-i-preserved
loop-i-preserved g c =
    let theory = c.args.parts.now.checked in
    let rank = g.T.Moment.rank in
    let marks = g.M.MarkRow.marks c.in_ok-row.row.now in
    let again : c.loop-i.i - 1 + 1 ≡ c.loop-i.i = omega (arith, c.loop-i-test.true) in
    record {
      within = omega (arith, c.loop-i.invariant.within);
      last = λ events p on breaks.
          ap (last_or None)
          (sym (starts-earlier rank (timeline_of theory events p) marks (c.loop-i.i - 1) c.get-start.result c.get-start.ensures.mark (sym (c.starts_at.ensures events p on) ∙ c.if-starts_at.false)))
          ∙ ap (λ n. last_or None (starts_of rank (timeline_of theory events p) (take n marks))) again
          ∙ c.loop-i.invariant.last events p on breaks;
    }

pub returns : goal.returns
returns g c = λ events p on breaks.
    let theory = c.args.parts.now.checked in
    let rank = g.T.Moment.rank in
    let marks = g.M.MarkRow.marks c.in_ok-row.row.now in
    sym (ap (λ n. last_or None (starts_of rank (timeline_of theory events p) (take n marks))) (at_first c.loop-i.i c.loop-i-test.false)) ∙ c.loop-i.invariant.last events p on breaks

pub overflow_sub-i-in-loop-i : goal.overflow_sub-i-in-loop-i
overflow_sub-i-in-loop-i c = grind (arith, common_steps)

pub loop-i-smaller : goal.loop-i-smaller
loop-i-smaller c = grind (arith, common_steps)
