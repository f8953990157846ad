-- What is drafted of the whole row is what it spells, and it stands in place of all spans.
use Rattle.std.proofs.Common.{◌≡◌, ◌++◌, None, length, map, option_map, drop, ap, sym, subst, ◌∙◌, arith}
use Rattle.std.proofs.lemmas.Grind.{common_steps}
use Rattle.std.proofs.lemmas.List.{length-map, append-nil}
use Rattle.std.proofs.Math.ListN.{drop_of_length-le}
use Rattle.ec_rows.specs.PlainMarks.{plain_mark, plain_marks}
use Rattle.ec_rows.specs.Spans.{IsSpanRow}
use Rattle.ec_intervals.specs.Table.{front_members, plain_begin, plain_intervals, span_interval}
use Rattle.ec_intervals.proofs.Reading.{length-up_to}
use Rattle.ec_intervals.proofs.Spliced.{rebuilt, IsSpanRow-spelt, length-spelt}
use Rattle.ec_intervals.proofs.write.rebuild_row.Goals as goal

pub close-requires-clause-room : goal.close-requires-clause-room
close-requires-clause-room g c =
    let read = c.read_row.ensures.read in
    let some = length-up_to None (plain_marks g.T.Moment.rank (g.M.MarkRow.marks c.args.row.now)) in
    let all = length-map (g.M.MarkRow.marks c.args.row.now) (plain_mark g.T.Moment.rank) in
    omega (arith, read.count, read.capacity, some, all, c.requires.buffer, c.start.ensures.len, c.start.ensures.capacity)

pub splice-requires-clause-spans : goal.splice-requires-clause-spans
splice-requires-clause-spans g c =
    let rest = drop_of_length-le (g.I.SpanRow.spans c.args.kept.now.spans) (omega (arith, c.len-len.ensures.len)) in
    let written : c.deref.result.now ++ drop c.len-len.result (g.I.SpanRow.spans c.args.kept.now.spans) ≡ c.close.new.self.spans.items =
    ap (λ xs. c.deref.result.now ++ xs) rest ∙ append-nil c.deref.result.now ∙ c.deref.ensures.value in
    subst (IsSpanRow g.T.Moment.rank) (sym written)
    (IsSpanRow-spelt g.T.Moment.rank (g.M.MarkRow.marks c.args.row.now) c.read_row.ensures.row c.args.strong c.args.initial c.close.new.self.front c.close.new.self.spans.items
    (rebuilt g.T.Moment.rank (g.M.MarkRow.marks c.args.row.now) c.read_row.ensures.row c.args.strong c.args.initial c.start.new.self c.read_row.new.self c.close.new.self c.start.ensures.intervals
    (ap (option_map (plain_begin g.T.Moment.rank)) c.start.ensures.begun ∙ c.first_open.ensures) c.read_row.ensures.read c.close.ensures.intervals))

pub splice-requires-clause-room : goal.splice-requires-clause-room
splice-requires-clause-room g c =
    let most = length-spelt g.T.Moment.rank (g.M.MarkRow.marks c.args.row.now) c.read_row.ensures.row c.args.strong c.args.initial c.close.new.self.front c.close.new.self.spans.items
    (rebuilt g.T.Moment.rank (g.M.MarkRow.marks c.args.row.now) c.read_row.ensures.row c.args.strong c.args.initial c.start.new.self c.read_row.new.self c.close.new.self c.start.ensures.intervals
    (ap (option_map (plain_begin g.T.Moment.rank)) c.start.ensures.begun ∙ c.first_open.ensures) c.read_row.ensures.read c.close.ensures.intervals) in
    let count = ap length c.deref.ensures.value in
    omega (arith, most, count, c.len-len.ensures.len, c.requires.room)

pub returns-clause-intervals : goal.returns-clause-intervals
returns-clause-intervals g c =
    let rest = drop_of_length-le (g.I.SpanRow.spans c.args.kept.now.spans) (omega (arith, c.len-len.ensures.len)) in
    let written : c.deref.result.now ++ drop c.len-len.result (g.I.SpanRow.spans c.args.kept.now.spans) ≡ c.close.new.self.spans.items =
    ap (λ xs. c.deref.result.now ++ xs) rest ∙ append-nil c.deref.result.now ∙ c.deref.ensures.value in
    ap (λ spans. plain_intervals g.T.Moment.rank (front_members c.close.new.self.front ++ map span_interval spans)) (c.splice.ensures.spans ∙ written)
    ∙ rebuilt g.T.Moment.rank (g.M.MarkRow.marks c.args.row.now) c.read_row.ensures.row c.args.strong c.args.initial c.start.new.self c.read_row.new.self c.close.new.self c.start.ensures.intervals
    (ap (option_map (plain_begin g.T.Moment.rank)) c.start.ensures.begun ∙ c.first_open.ensures) c.read_row.ensures.read c.close.ensures.intervals

pub returns-clause-room : goal.returns-clause-room
returns-clause-room c = grind (arith, common_steps)
