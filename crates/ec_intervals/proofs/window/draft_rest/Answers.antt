-- What is read and what is closed is what the rest of the row spells up to the first mark behind the window.
use Rattle.std.proofs.Common.{◌++◌, Some, None, option_map, map, take, drop, arith}
use Rattle.std.proofs.lemmas.List.{length-map, length-drop}
use Rattle.ec_axioms.proofs.Ranks.{le_int_le}
use Rattle.ec_rows.specs.PlainMarks.{plain_mark, plain_marks}
use Rattle.ec_intervals.specs.Steps.{end_behind}
use Rattle.ec_intervals.specs.Table.{front_members, plain_intervals, span_interval}
use Rattle.ec_intervals.proofs.Reading.{length-up_to}
use Rattle.ec_intervals.proofs.Spliced.{draft-starts, spelt-behind, later-behind, spelt-all, later-all}
use Rattle.ec_intervals.proofs.window.draft_rest.Goals as goal

pub close_behind-requires-clause-room : goal.close_behind-requires-clause-room
close_behind-requires-clause-room g c =
    let rank = g.T.Moment.rank in
    let old = c.requires.old in
    let read = c.read_row.ensures.read in
    let some = length-up_to (option_map rank (Some c.args.until)) (drop c.args.first (plain_marks rank (g.M.MarkRow.marks c.args.row.now))) in
    let front = length-drop c.args.first (plain_marks rank (g.M.MarkRow.marks c.args.row.now)) in
    let all = length-map (g.M.MarkRow.marks c.args.row.now) (plain_mark rank) in
    omega (arith, read.count, read.capacity, some, front, all, c.requires.room, c.requires.none)

pub close-requires-clause-room : goal.close-requires-clause-room
close-requires-clause-room g c =
    let rank = g.T.Moment.rank in
    let old = c.requires.old in
    let read = c.read_row.ensures.read in
    let some = length-up_to (option_map rank (Some c.args.until)) (drop c.args.first (plain_marks rank (g.M.MarkRow.marks c.args.row.now))) in
    let front = length-drop c.args.first (plain_marks rank (g.M.MarkRow.marks c.args.row.now)) in
    let all = length-map (g.M.MarkRow.marks c.args.row.now) (plain_mark rank) in
    omega (arith, read.count, read.capacity, some, front, all, c.requires.room, c.requires.none)

pub returns-in-Some-clause-spelt : goal.returns-in-Some-clause-spelt
returns-in-Some-clause-spelt g c =
    let rank = g.T.Moment.rank in
    let old = c.requires.old in
    spelt-behind rank old.0 (rank c.args.until) c.args.strong old.1 (g.M.MarkRow.marks c.args.row.now) c.args.kept.now.front (g.I.SpanRow.spans c.args.kept.now.spans) old.5 c.requires.row (le_int_le old.0 (rank c.args.until) old.2)
    c.args.first old.3 c.args.draft.now c.read_row.new.self c.close_behind.new.draft c.requires.empty old.4 c.read_row.ensures.read
    (rank c.in-Some.at) c.in-Some.ensures.last c.close_behind.result c.close_behind.ensures.count c.close_behind.ensures.intervals

pub returns-in-Some-clause-starts : goal.returns-in-Some-clause-starts
returns-in-Some-clause-starts g c =
    let rank = g.T.Moment.rank in
    let old = c.requires.old in
    draft-starts rank old.0 (rank c.args.until) c.args.strong old.1 (g.M.MarkRow.marks c.args.row.now) c.args.kept.now.front (g.I.SpanRow.spans c.args.kept.now.spans) old.5 c.requires.row (le_int_le old.0 (rank c.args.until) old.2)
    c.args.first old.3 c.args.draft.now c.read_row.new.self c.close_behind.new.draft c.requires.empty old.4 c.read_row.ensures.read
    (end_behind (rank c.in-Some.at) (plain_intervals rank (front_members c.args.kept.now.front ++ map span_interval (take c.close_behind.result (g.I.SpanRow.spans c.args.kept.now.spans))))) c.close_behind.ensures.intervals

pub returns-in-Some-clause-later : goal.returns-in-Some-clause-later
returns-in-Some-clause-later g c =
    let rank = g.T.Moment.rank in
    let old = c.requires.old in
    later-behind rank old.0 (rank c.args.until) c.args.strong old.1 (g.M.MarkRow.marks c.args.row.now) c.args.kept.now.front (g.I.SpanRow.spans c.args.kept.now.spans) old.5 c.requires.row (le_int_le old.0 (rank c.args.until) old.2)
    c.args.first old.3 c.args.draft.now c.read_row.new.self c.close_behind.new.draft c.requires.empty old.4 c.read_row.ensures.read
    (rank c.in-Some.at) c.in-Some.ensures.last c.close_behind.result c.close_behind.ensures.count

pub returns-in-None-clause-spelt : goal.returns-in-None-clause-spelt
returns-in-None-clause-spelt g c =
    let rank = g.T.Moment.rank in
    let old = c.requires.old in
    spelt-all rank old.0 (rank c.args.until) c.args.strong old.1 (g.M.MarkRow.marks c.args.row.now) c.args.kept.now.front (g.I.SpanRow.spans c.args.kept.now.spans) old.5 c.requires.row (le_int_le old.0 (rank c.args.until) old.2)
    c.args.first old.3 c.args.draft.now c.read_row.new.self c.close.new.self c.requires.empty old.4 c.read_row.ensures.read
    c.in-None.ensures.last c.len.result c.len.ensures.len c.close.ensures.intervals

pub returns-in-None-clause-starts : goal.returns-in-None-clause-starts
returns-in-None-clause-starts g c =
    let rank = g.T.Moment.rank in
    let old = c.requires.old in
    draft-starts rank old.0 (rank c.args.until) c.args.strong old.1 (g.M.MarkRow.marks c.args.row.now) c.args.kept.now.front (g.I.SpanRow.spans c.args.kept.now.spans) old.5 c.requires.row (le_int_le old.0 (rank c.args.until) old.2)
    c.args.first old.3 c.args.draft.now c.read_row.new.self c.close.new.self c.requires.empty old.4 c.read_row.ensures.read
    (Some None) c.close.ensures.intervals

pub returns-in-None-clause-later : goal.returns-in-None-clause-later
returns-in-None-clause-later g c =
    let rank = g.T.Moment.rank in
    let old = c.requires.old in
    later-all rank old.0 (rank c.args.until) c.args.strong old.1 (g.M.MarkRow.marks c.args.row.now) c.args.kept.now.front (g.I.SpanRow.spans c.args.kept.now.spans) old.5 c.requires.row (le_int_le old.0 (rank c.args.until) old.2)
    c.args.first old.3 c.args.draft.now c.read_row.new.self c.close.new.self c.requires.empty old.4 c.read_row.ensures.read
    c.in-None.ensures.last c.len.result c.len.ensures.len
