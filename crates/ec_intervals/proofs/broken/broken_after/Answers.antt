-- The first run with a mark that breaks a begin which passes gives it.
use Rattle.std.proofs.Common.{◌≡◌, ◌+◌, is_some, length, drop, option_map, ap, sym, subst, ◌∙◌, arith}
use Rattle.std.proofs.lemmas.Grind.{common_steps}
use Rattle.std.specs.Prelude.{IfNone}
use Rattle.ec_rows.specs.PlainMarks.{plain_marks}
use Rattle.ec_intervals.specs.Steps.{open_through}
use Rattle.ec_intervals.specs.Table.{plain_begin, plain_broken}
use Rattle.ec_intervals.proofs.FirstBroken.{first_of, first_of-here, first_of-later, first_of-none, first_of-row}
use Rattle.ec_intervals.proofs.Reading.{marks-run}
use Rattle.ec_intervals.proofs.Written.{marks-none}
use Rattle.ec_intervals.proofs.broken.broken_after.Goals as goal
use Rattle.ec_lists.proofs.Options.{is_some-option_map, None-from_is_some}

pub returns-then-is_some : goal.returns-then-is_some
returns-then-is_some g c =
    c.first_in_run-found.ensures.found
    ∙ sym (first_of-here c.args.strong (option_map (plain_begin g.T.Moment.rank) c.args.after) (option_map (plain_begin g.T.Moment.rank) c.loop-i.begun) (plain_marks g.T.Moment.rank c.run-run.result.now)
    (drop (c.loop-i.i + length c.run-run.result.now) (plain_marks g.T.Moment.rank (g.M.MarkRow.marks c.args.row.now)))
    (ap is_some (sym c.first_in_run-found.ensures.found) ∙ is_some-option_map (plain_broken g.T.Moment.rank) c.first_in_run-found.result ∙ sym c.is_some.ensures ∙ c.if-is_some.true))
    ∙ ap (first_of c.args.strong (option_map (plain_begin g.T.Moment.rank) c.args.after) (option_map (plain_begin g.T.Moment.rank) c.loop-i.begun))
    (sym (marks-run g.T.Moment.rank (g.M.MarkRow.marks c.args.row.now) c.run-run.result.now c.loop-i.i c.run-run.ensures.run))
    ∙ c.loop-i.invariant ∙ first_of-row g.T.Moment.rank (g.M.MarkRow.marks c.args.row.now) c.args.strong c.args.is_initial (option_map (plain_begin g.T.Moment.rank) c.args.after) c.len.ensures.row

pub loop-i-preserved : goal.loop-i-preserved
loop-i-preserved g c =
    let missed = sym c.is_some.ensures ∙ c.if-is_some.false in
    let behind = subst (λ o. IfNone o (option_map (plain_begin g.T.Moment.rank) c.first_in_run-found.new.begun
    ≡ open_through c.args.strong (option_map (plain_begin g.T.Moment.rank) c.loop-i.begun) (plain_marks g.T.Moment.rank c.run-run.result.now))) (None-from_is_some c.first_in_run-found.result missed) c.first_in_run-found.ensures.behind in
    ap (λ o. first_of c.args.strong (option_map (plain_begin g.T.Moment.rank) c.args.after) o (drop (c.loop-i.i + length c.run-run.result.now) (plain_marks g.T.Moment.rank (g.M.MarkRow.marks c.args.row.now)))) behind
    ∙ sym (first_of-later c.args.strong (option_map (plain_begin g.T.Moment.rank) c.args.after) (option_map (plain_begin g.T.Moment.rank) c.loop-i.begun) (plain_marks g.T.Moment.rank c.run-run.result.now)
    (drop (c.loop-i.i + length c.run-run.result.now) (plain_marks g.T.Moment.rank (g.M.MarkRow.marks c.args.row.now)))
    (ap is_some (sym c.first_in_run-found.ensures.found) ∙ is_some-option_map (plain_broken g.T.Moment.rank) c.first_in_run-found.result ∙ missed))
    ∙ ap (first_of c.args.strong (option_map (plain_begin g.T.Moment.rank) c.args.after) (option_map (plain_begin g.T.Moment.rank) c.loop-i.begun))
    (sym (marks-run g.T.Moment.rank (g.M.MarkRow.marks c.args.row.now) c.run-run.result.now c.loop-i.i c.run-run.ensures.run))
    ∙ c.loop-i.invariant

pub returns : goal.returns
returns g c =
    first_of-none c.args.strong (option_map (plain_begin g.T.Moment.rank) c.args.after) (option_map (plain_begin g.T.Moment.rank) c.loop-i.begun) (drop c.loop-i.i (plain_marks g.T.Moment.rank (g.M.MarkRow.marks c.args.row.now)))
    (marks-none g.T.Moment.rank (g.M.MarkRow.marks c.args.row.now) c.loop-i.i (omega (arith, c.len.ensures.len)))
    ∙ c.loop-i.invariant ∙ first_of-row g.T.Moment.rank (g.M.MarkRow.marks c.args.row.now) c.args.strong c.args.is_initial (option_map (plain_begin g.T.Moment.rank) c.args.after) c.len.ensures.row

pub overflow_add-i : goal.overflow_add-i
overflow_add-i c = grind (arith, common_steps)
