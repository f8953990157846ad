-- The marks are read one after the other, up to the first one behind the time.
use Rattle.std.proofs.Common.{◌+◌, length, drop, option_map, refl, sym, subst, ◌∙◌, arith}
use Rattle.std.proofs.lemmas.Grind.{common_steps}
use Rattle.std.proofs.lemmas.Option.{slice_get_read}
use Rattle.ec_rows.specs.PlainMarks.{plain_mark, plain_marks}
use Rattle.ec_intervals.proofs.Written.{marks-next, marks-none}
use Rattle.ec_intervals.proofs.Reading.{IsReadUpTo, IsReadUpTo-none, IsReadUpTo-one, IsReadOver-one, first_behind-one, IsReadOver-all, first_behind-all}
use Rattle.ec_intervals.proofs.draft.Draft.read_run.Goals as goal

pub loop-mark-init : goal.loop-mark-init
loop-mark-init g c = record {
  read = IsReadUpTo-none g.T.Moment.rank c.args.strong (option_map g.T.Moment.rank c.args.until) (plain_marks g.T.Moment.rank c.args.marks.now) c.args.self.now c.requires.fresh;
}

pub returns-then-is_behind-clause-read : goal.returns-then-is_behind-clause-read
returns-then-is_behind-clause-read g c =
    let rank = g.T.Moment.rank in
    let whole = plain_marks rank c.args.marks.now in
    let until = option_map rank c.args.until in
    let next = marks-next rank c.args.marks.now c.loop-mark.mark-index c.mark-item.result
    (slice_get_read c.args.marks.now (length c.args.marks.now) c.loop-mark.mark-index c.mark-item.result refl (omega arith) c.mark-item.is) in
    IsReadOver-one rank c.args.strong until whole (plain_mark rank c.mark-item.result) (drop (c.loop-mark.mark-index + 1) whole) c.args.self.now c.loop-mark.self c.read.new.self
    (subst (λ left. IsReadUpTo rank c.args.strong until whole left c.args.self.now c.loop-mark.self) next c.loop-mark.invariant.read) c.read.ensures
    (sym c.is_behind.ensures ∙ c.if-is_behind.true)

pub returns-then-is_behind-clause-last : goal.returns-then-is_behind-clause-last
returns-then-is_behind-clause-last g c =
    let rank = g.T.Moment.rank in
    let whole = plain_marks rank c.args.marks.now in
    let until = option_map rank c.args.until in
    let next = marks-next rank c.args.marks.now c.loop-mark.mark-index c.mark-item.result
    (slice_get_read c.args.marks.now (length c.args.marks.now) c.loop-mark.mark-index c.mark-item.result refl (omega arith) c.mark-item.is) in
    first_behind-one rank c.args.strong until whole (plain_mark rank c.mark-item.result) (drop (c.loop-mark.mark-index + 1) whole) c.args.self.now c.loop-mark.self c.read.new.self
    (subst (λ left. IsReadUpTo rank c.args.strong until whole left c.args.self.now c.loop-mark.self) next c.loop-mark.invariant.read) c.read.ensures
    (sym c.is_behind.ensures ∙ c.if-is_behind.true)

pub loop-mark-preserved : goal.loop-mark-preserved
loop-mark-preserved g c =
    let rank = g.T.Moment.rank in
    let whole = plain_marks rank c.args.marks.now in
    let until = option_map rank c.args.until in
    let next = marks-next rank c.args.marks.now c.loop-mark.mark-index c.mark-item.result
    (slice_get_read c.args.marks.now (length c.args.marks.now) c.loop-mark.mark-index c.mark-item.result refl (omega arith) c.mark-item.is) in
    record {
      read = IsReadUpTo-one rank c.args.strong until whole (plain_mark rank c.mark-item.result) (drop (c.loop-mark.mark-index + 1) whole) c.args.self.now c.loop-mark.self c.read.new.self
          (subst (λ left. IsReadUpTo rank c.args.strong until whole left c.args.self.now c.loop-mark.self) next c.loop-mark.invariant.read) c.read.ensures
          (sym c.is_behind.ensures ∙ c.if-is_behind.false);
    }

pub returns-clause-read : goal.returns-clause-read
returns-clause-read g c =
    let rank = g.T.Moment.rank in
    IsReadOver-all rank c.args.strong (option_map rank c.args.until) (plain_marks rank c.args.marks.now) c.args.self.now c.loop-mark.self (drop c.loop-mark.mark-index (plain_marks rank c.args.marks.now))
    (marks-none rank c.args.marks.now c.loop-mark.mark-index (omega arith)) c.loop-mark.invariant.read

pub returns-clause-last : goal.returns-clause-last
returns-clause-last g c =
    let rank = g.T.Moment.rank in
    first_behind-all rank c.args.strong (option_map rank c.args.until) (plain_marks rank c.args.marks.now) c.args.self.now c.loop-mark.self (drop c.loop-mark.mark-index (plain_marks rank c.args.marks.now))
    (marks-none rank c.args.marks.now c.loop-mark.mark-index (omega arith)) c.loop-mark.invariant.read

pub read-requires-clause-room : goal.read-requires-clause-room
read-requires-clause-room c = grind (arith, common_steps)
