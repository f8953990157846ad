-- The marks are read run after run.
use Rattle.std.proofs.Common.{◌+◌, length, drop, option_map, is_some, sym, ap, subst, ◌∙◌, arith}
use Rattle.std.proofs.lemmas.List.{length-map, length-drop, length-append}
use Rattle.ec_rows.specs.PlainMarks.{plain_mark, plain_marks}
use Rattle.ec_intervals.proofs.Written.{marks-none}
use Rattle.ec_intervals.proofs.Reading.{marks-run, IsReadUpTo, IsReadUpTo-none, IsReadUpTo-count, IsReadUpTo-run, IsReadOver-run, first_behind-run, IsReadOver-all, first_behind-all}
use Rattle.ec_intervals.proofs.draft.Draft.read_row.Goals as goal
use Rattle.ec_lists.proofs.Options.{is_some-option_map, None-from_is_some}

pub loop-i-init : goal.loop-i-init
loop-i-init g c = record {
  read = IsReadUpTo-none g.T.Moment.rank c.args.strong (option_map g.T.Moment.rank c.args.until) (drop c.args.first (plain_marks g.T.Moment.rank (g.M.MarkRow.marks c.args.row.now))) c.args.self.now c.requires.fresh;
}

pub read_run-last-requires-clause-room : goal.read_run-last-requires-clause-room
read_run-last-requires-clause-room g c =
    let rank = g.T.Moment.rank in
    let all = plain_marks rank (g.M.MarkRow.marks c.args.row.now) in
    let count = IsReadUpTo-count rank c.args.strong (option_map rank c.args.until) (drop c.args.first all) (drop c.loop-i.i all) c.args.self.now c.loop-i.self c.loop-i.invariant.read in
    let next = ap length (marks-run rank (g.M.MarkRow.marks c.args.row.now) c.run-run.result.now c.loop-i.i c.run-run.ensures.run) in
    let parts = length-append (plain_marks rank c.run-run.result.now) (drop (c.loop-i.i + length c.run-run.result.now) all) in
    let run = length-map c.run-run.result.now (plain_mark rank) in
    let marks = length-map (g.M.MarkRow.marks c.args.row.now) (plain_mark rank) in
    let front = length-drop c.args.first all in
    omega (arith, count, next, parts, run, marks, front, c.requires.room, c.loop-i.invariant.read.read.capacity)

pub returns-then-is_some-clause-read : goal.returns-then-is_some-clause-read
returns-then-is_some-clause-read g c =
    let rank = g.T.Moment.rank in
    let all = plain_marks rank (g.M.MarkRow.marks c.args.row.now) in
    let until = option_map rank c.args.until in
    let next = marks-run rank (g.M.MarkRow.marks c.args.row.now) c.run-run.result.now c.loop-i.i c.run-run.ensures.run in
    IsReadOver-run rank c.args.strong until (drop c.args.first all) (plain_marks rank c.run-run.result.now) (drop (c.loop-i.i + length c.run-run.result.now) all) c.args.self.now c.loop-i.self c.read_run-last.new.self
    (subst (λ left. IsReadUpTo rank c.args.strong until (drop c.args.first all) left c.args.self.now c.loop-i.self) next c.loop-i.invariant.read) c.read_run-last.ensures.read
    (ap is_some (sym c.read_run-last.ensures.last) ∙ is_some-option_map rank c.read_run-last.result ∙ sym c.is_some.ensures ∙ c.if-is_some.true)

pub returns-then-is_some-clause-last : goal.returns-then-is_some-clause-last
returns-then-is_some-clause-last g c =
    let rank = g.T.Moment.rank in
    let all = plain_marks rank (g.M.MarkRow.marks c.args.row.now) in
    let until = option_map rank c.args.until in
    let next = marks-run rank (g.M.MarkRow.marks c.args.row.now) c.run-run.result.now c.loop-i.i c.run-run.ensures.run in
    c.read_run-last.ensures.last ∙ first_behind-run rank c.args.strong until (drop c.args.first all) (plain_marks rank c.run-run.result.now) (drop (c.loop-i.i + length c.run-run.result.now) all) c.args.self.now c.loop-i.self c.read_run-last.new.self
    (subst (λ left. IsReadUpTo rank c.args.strong until (drop c.args.first all) left c.args.self.now c.loop-i.self) next c.loop-i.invariant.read) c.read_run-last.ensures.read
    (ap is_some (sym c.read_run-last.ensures.last) ∙ is_some-option_map rank c.read_run-last.result ∙ sym c.is_some.ensures ∙ c.if-is_some.true)

pub loop-i-preserved : goal.loop-i-preserved
loop-i-preserved g c =
    let rank = g.T.Moment.rank in
    let all = plain_marks rank (g.M.MarkRow.marks c.args.row.now) in
    let until = option_map rank c.args.until in
    let next = marks-run rank (g.M.MarkRow.marks c.args.row.now) c.run-run.result.now c.loop-i.i c.run-run.ensures.run in
    record {
      read = IsReadUpTo-run rank c.args.strong until (drop c.args.first all) (plain_marks rank c.run-run.result.now) (drop (c.loop-i.i + length c.run-run.result.now) all) c.args.self.now c.loop-i.self c.read_run-last.new.self
          (subst (λ left. IsReadUpTo rank c.args.strong until (drop c.args.first all) left c.args.self.now c.loop-i.self) next c.loop-i.invariant.read) c.read_run-last.ensures.read
          (sym c.read_run-last.ensures.last ∙ ap (option_map rank) (None-from_is_some c.read_run-last.result (sym c.is_some.ensures ∙ c.if-is_some.false)));
    }

pub returns-clause-read : goal.returns-clause-read
returns-clause-read g c =
    let rank = g.T.Moment.rank in
    let all = plain_marks rank (g.M.MarkRow.marks c.args.row.now) in
    IsReadOver-all rank c.args.strong (option_map rank c.args.until) (drop c.args.first all) c.args.self.now c.loop-i.self (drop c.loop-i.i all)
    (marks-none rank (g.M.MarkRow.marks c.args.row.now) c.loop-i.i (omega (arith, c.len.ensures.len))) c.loop-i.invariant.read

pub returns-clause-last : goal.returns-clause-last
returns-clause-last g c =
    let rank = g.T.Moment.rank in
    let all = plain_marks rank (g.M.MarkRow.marks c.args.row.now) in
    first_behind-all rank c.args.strong (option_map rank c.args.until) (drop c.args.first all) c.args.self.now c.loop-i.self (drop c.loop-i.i all)
    (marks-none rank (g.M.MarkRow.marks c.args.row.now) c.loop-i.i (omega (arith, c.len.ensures.len))) c.loop-i.invariant.read
