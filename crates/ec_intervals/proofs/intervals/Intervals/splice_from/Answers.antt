-- The row that is written is that of the table, and what is written is few.
use Rattle.std.proofs.Common.{◌+◌, ◌≤◌, subst, is_some, length, sym, ap, ◌∙◌, arith}
use Rattle.std.proofs.lemmas.Grind.{common_steps}
use Rattle.std.proofs.lemmas.Bool.{false≢true}
use Rattle.ec_axioms.specs.Marks.{spans_of}
use Rattle.ec_rows.specs.PlainMarks.{plain_marks}
use Rattle.ec_intervals.specs.OldMarks.{AreOfOldMarks}
use Rattle.ec_intervals.specs.Table.{spans_in, members_in, plain_intervals, room_in}
use Rattle.ec_intervals.proofs.KeptRows.{written-row, written-others, written-old, row_at-absent, row_at-kept, AreFew-rewritten}
use Rattle.ec_intervals.proofs.ReachLemmas.{AreKept-rewritten, has_place}
use Rattle.ec_intervals.proofs.intervals.Intervals.splice_from.Goals as goal

pub invariant_of-self : goal.invariant_of-self
invariant_of-self g c =
    AreKept-rewritten g.I.SpanRow.spans g.I.SpanRow.spare g.T.Moment.rank c.self.inside.reaches c.set.new.self c.self.inside.rows c.args.p.0 c.self.invariant c.in-Some.kept.now c.splice_row-differs.new.kept c.in-Some.ensures.kept c.reach_of.result
    (AreFew-rewritten g.I.SpanRow.spans g.I.SpanRow.spare c.self.inside.rows c.args.self.now (ap (λ t. t.rows) c.self.view_is) c.args.p.0 c.in-Some.kept.now c.splice_row-differs.new.kept c.in-Some.ensures.kept g.T.Moment.rank (g.M.MarkRow.marks c.args.row.now) c.args.strong c.args.initial _ c.self.invariant.few
    c.splice_row-differs.ensures.row c.splice_row-differs.ensures.intervals c.requires.buffer
    (let small = c.self.inside.draft.spans.small in let same = ap (λ t. t.buffer) c.self.view_is in omega (arith, small, same)))
    c.set.ensures.here c.set.ensures.others c.set.ensures.places c.reach_of.ensures

pub unreachable-requires : goal.unreachable-requires
unreachable-requires g c =
    false≢true (sym (ap is_some (row_at-absent g.I.SpanRow.spans g.I.SpanRow.spare c.self.inside.rows c.args.self.now (ap (λ t. t.rows) c.self.view_is) c.args.p.0 c.in_default.ensures.kept)) ∙ c.requires.row)

pub splice_row-differs-requires-clause-room : goal.splice_row-differs-requires-clause-room
splice_row-differs-requires-clause-room g c =
    subst (λ row. length (spans_of (plain_marks g.T.Moment.rank (g.M.MarkRow.marks c.args.row.now)) c.args.strong c.args.initial) ≤ length (spans_in row) + room_in row)
    (row_at-kept g.I.SpanRow.spans g.I.SpanRow.spare c.self.inside.rows c.args.self.now (ap (λ t. t.rows) c.self.view_is) c.args.p.0 c.in-Some.kept.now c.in-Some.ensures.kept) c.requires.room

pub splice_row-differs-requires-clause-buffer : goal.splice_row-differs-requires-clause-buffer
splice_row-differs-requires-clause-buffer g c = let same = ap (λ t. t.buffer) c.self.view_is in let buffer = c.requires.buffer in omega arith

pub splice_row-differs-requires-clause-old : goal.splice_row-differs-requires-clause-old
splice_row-differs-requires-clause-old g c =
    subst (λ row. AreOfOldMarks g.T.Moment.rank (g.T.Moment.rank c.args.from) (g.T.Moment.rank c.args.until) c.args.strong c.args.initial (g.M.MarkRow.marks c.args.row.now) (plain_intervals g.T.Moment.rank (members_in row)))
    (row_at-kept g.I.SpanRow.spans g.I.SpanRow.spare c.self.inside.rows c.args.self.now (ap (λ t. t.rows) c.self.view_is) c.args.p.0 c.in-Some.kept.now c.in-Some.ensures.kept) c.requires.old

pub set-requires : goal.set-requires
set-requires g c =
    has_place g.I.SpanRow.spans g.I.SpanRow.spare g.T.Moment.rank c.self.inside.reaches c.self.inside.reaches c.self.inside.rows c.args.p.0 c.self.invariant c.in-Some.kept.now c.splice_row-differs.new.kept c.in-Some.ensures.kept

pub returns-clause-intervals : goal.returns-clause-intervals
returns-clause-intervals g c = ap (λ row. plain_intervals g.T.Moment.rank (members_in row)) (written-row g.I.SpanRow.spans g.I.SpanRow.spare c.self.inside.rows c.args.self.now (ap (λ t. t.rows) c.self.view_is) c.args.p.0 c.in-Some.kept.now c.splice_row-differs.new.kept c.in-Some.ensures.kept) ∙ c.splice_row-differs.ensures.intervals

pub returns-clause-room : goal.returns-clause-room
returns-clause-room g c =
    let old = written-old g.I.SpanRow.spans g.I.SpanRow.spare c.self.inside.rows c.args.self.now (ap (λ t. t.rows) c.self.view_is) c.args.p.0 c.in-Some.kept.now c.splice_row-differs.new.kept c.in-Some.ensures.kept in
    let new = written-row g.I.SpanRow.spans g.I.SpanRow.spare c.self.inside.rows c.args.self.now (ap (λ t. t.rows) c.self.view_is) c.args.p.0 c.in-Some.kept.now c.splice_row-differs.new.kept c.in-Some.ensures.kept in
    let room = c.splice_row-differs.ensures.room in
    let old_room = ap room_in old in
    let old_count = ap (λ row. length (spans_in row)) old in
    let new_room = ap room_in new in
    let new_count = ap (λ row. length (spans_in row)) new in
    omega (arith, room, old_room, old_count, new_room, new_count)

pub returns-clause-row : goal.returns-clause-row
returns-clause-row g c = ap is_some (written-row g.I.SpanRow.spans g.I.SpanRow.spare c.self.inside.rows c.args.self.now (ap (λ t. t.rows) c.self.view_is) c.args.p.0 c.in-Some.kept.now c.splice_row-differs.new.kept c.in-Some.ensures.kept)

pub returns-clause-others : goal.returns-clause-others
returns-clause-others g c = written-others g.I.SpanRow.spans g.I.SpanRow.spare c.self.inside.rows c.args.self.now (ap (λ t. t.rows) c.self.view_is) c.args.p.0 c.in-Some.kept.now c.splice_row-differs.new.kept c.in-Some.ensures.kept

pub returns-clause-differs : goal.returns-clause-differs
returns-clause-differs g c =
    let old = ap (λ row. plain_intervals g.T.Moment.rank (members_in row)) (written-old g.I.SpanRow.spans g.I.SpanRow.spare c.self.inside.rows c.args.self.now (ap (λ t. t.rows) c.self.view_is) c.args.p.0 c.in-Some.kept.now c.splice_row-differs.new.kept c.in-Some.ensures.kept) in
    let new = ap (λ row. plain_intervals g.T.Moment.rank (members_in row)) (written-row g.I.SpanRow.spans g.I.SpanRow.spare c.self.inside.rows c.args.self.now (ap (λ t. t.rows) c.self.view_is) c.args.p.0 c.in-Some.kept.now c.splice_row-differs.new.kept c.in-Some.ensures.kept) in (
      λ differ same. c.splice_row-differs.ensures.differs.0 differ (sym old ∙ same ∙ new),
      λ differ. c.splice_row-differs.ensures.differs.1 (λ same. differ (old ∙ same ∙ sym new)),
    )

pub returns-clause-buffer : goal.returns-clause-buffer
returns-clause-buffer c = grind (arith, common_steps)
