-- The first mark that breaks a begin which passes gives it.
use Rattle.std.proofs.Common.{◌+◌, is_some, length, take, drop, option_map, refl, ap, sym, ◌∙◌, arith}
use Rattle.std.proofs.lemmas.Grind.{common_steps}
use Rattle.std.proofs.lemmas.Option.{slice_get_read}
use Rattle.ec_rows.specs.PlainMarks.{plain_mark, plain_marks}
use Rattle.ec_intervals.specs.Steps.{open_through, broken_through}
use Rattle.ec_intervals.specs.Table.{plain_begin, plain_broken}
use Rattle.ec_intervals.proofs.FirstBroken.{first_of, first_of-found, first_of-missed, open_through-missed}
use Rattle.ec_intervals.proofs.Written.{marks-split, marks-taken}
use Rattle.ec_intervals.proofs.broken.first_in_run.Goals as goal
use Rattle.ec_lists.proofs.Options.{is_some-option_map}

pub loop-mark-init : goal.loop-mark-init
unfolding open_through broken_through
loop-mark-init g c = record { none = refl; opened = refl }

pub returns-then-is_some-clause-found : goal.returns-then-is_some-clause-found
returns-then-is_some-clause-found g c =
    first_of-found c.args.strong (option_map (plain_begin g.T.Moment.rank) c.args.after) (option_map (plain_begin g.T.Moment.rank) c.args.begun.now)
    (take c.loop-mark.mark-index (plain_marks g.T.Moment.rank c.args.marks.now)) (plain_mark g.T.Moment.rank c.mark-item.result) (drop (c.loop-mark.mark-index + 1) (plain_marks g.T.Moment.rank c.args.marks.now))
    (plain_marks g.T.Moment.rank c.args.marks.now)
    (marks-split g.T.Moment.rank c.args.marks.now c.loop-mark.mark-index c.mark-item.result (slice_get_read c.args.marks.now (length c.args.marks.now) c.loop-mark.mark-index c.mark-item.result refl (omega arith) c.mark-item.is))
    c.loop-mark.invariant.none (option_map (plain_begin g.T.Moment.rank) c.loop-mark.begun) c.loop-mark.invariant.opened
    (option_map (plain_broken g.T.Moment.rank) c.found_by-found.result) c.found_by-found.ensures
    (is_some-option_map (plain_broken g.T.Moment.rank) c.found_by-found.result ∙ sym c.is_some.ensures ∙ c.if-is_some.true)

pub loop-mark-preserved : goal.loop-mark-preserved
loop-mark-preserved g c =
    let taken = marks-taken g.T.Moment.rank c.args.marks.now c.loop-mark.mark-index c.mark-item.result
    (slice_get_read c.args.marks.now (length c.args.marks.now) c.loop-mark.mark-index c.mark-item.result refl (omega arith) c.mark-item.is) in
    record {
      none =
          ap (λ ms. is_some (first_of c.args.strong (option_map (plain_begin g.T.Moment.rank) c.args.after) (option_map (plain_begin g.T.Moment.rank) c.args.begun.now) ms)) taken
          ∙ first_of-missed c.args.strong (option_map (plain_begin g.T.Moment.rank) c.args.after) (option_map (plain_begin g.T.Moment.rank) c.args.begun.now)
          (take c.loop-mark.mark-index (plain_marks g.T.Moment.rank c.args.marks.now)) (plain_mark g.T.Moment.rank c.mark-item.result) (drop (c.loop-mark.mark-index + 1) (plain_marks g.T.Moment.rank c.args.marks.now))
          (plain_marks g.T.Moment.rank c.args.marks.now)
          (marks-split g.T.Moment.rank c.args.marks.now c.loop-mark.mark-index c.mark-item.result (slice_get_read c.args.marks.now (length c.args.marks.now) c.loop-mark.mark-index c.mark-item.result refl (omega arith) c.mark-item.is))
          c.loop-mark.invariant.none (option_map (plain_begin g.T.Moment.rank) c.loop-mark.begun) c.loop-mark.invariant.opened
          (option_map (plain_broken g.T.Moment.rank) c.found_by-found.result) c.found_by-found.ensures
          (is_some-option_map (plain_broken g.T.Moment.rank) c.found_by-found.result ∙ sym c.is_some.ensures ∙ c.if-is_some.false);
      opened =
          open_through-missed c.args.strong (option_map (plain_begin g.T.Moment.rank) c.args.after) (option_map (plain_begin g.T.Moment.rank) c.args.begun.now)
          (take c.loop-mark.mark-index (plain_marks g.T.Moment.rank c.args.marks.now)) (plain_mark g.T.Moment.rank c.mark-item.result) (drop (c.loop-mark.mark-index + 1) (plain_marks g.T.Moment.rank c.args.marks.now))
          (plain_marks g.T.Moment.rank c.args.marks.now)
          (marks-split g.T.Moment.rank c.args.marks.now c.loop-mark.mark-index c.mark-item.result (slice_get_read c.args.marks.now (length c.args.marks.now) c.loop-mark.mark-index c.mark-item.result refl (omega arith) c.mark-item.is))
          c.loop-mark.invariant.none (option_map (plain_begin g.T.Moment.rank) c.loop-mark.begun) c.loop-mark.invariant.opened
          (option_map (plain_broken g.T.Moment.rank) c.found_by-found.result) c.found_by-found.ensures
          (option_map (plain_begin g.T.Moment.rank) c.open_behind.result) c.open_behind.ensures
          ∙ sym (ap (open_through c.args.strong (option_map (plain_begin g.T.Moment.rank) c.args.begun.now)) taken);
    }

pub returns-clause-behind : goal.returns-clause-behind
returns-clause-behind c = grind (arith, common_steps)

pub returns-then-is_some-clause-behind : goal.returns-then-is_some-clause-behind
returns-then-is_some-clause-behind c = grind (arith, common_steps)

pub returns-clause-found : goal.returns-clause-found
returns-clause-found c = grind (arith, common_steps)
