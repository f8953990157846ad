-- The row that is cleared is that of the table.
use Rattle.std.proofs.Common.{is_some, sym, ap, ◌∙◌, arith}
use Rattle.std.proofs.lemmas.Grind.{common_steps}
use Rattle.ec_intervals.specs.Table.{front_in, spans_in, room_in, room_at, has_row, row_at}
use Rattle.ec_intervals.proofs.KeptRows.{kept_at-absent, written-row, written-others, written-old, AreFew-emptied}
use Rattle.std.specs.Prelude.{None, Some}
use Rattle.ec_intervals.specs.RowViews.{seen}
use Rattle.ec_intervals.proofs.ReachLemmas.{AreKept-rewritten, IsReachOf-emptied, has_place}
use Rattle.ec_intervals.proofs.intervals.Intervals.clear.Goals as goal

pub invariant_of-self-2 : goal.invariant_of-self-2
invariant_of-self-2 g c =
    AreKept-rewritten g.I.SpanRow.spans g.I.SpanRow.spare g.T.Moment.rank c.self.inside.reaches c.set.new.self c.self.inside.rows c.args.p.0 c.self.invariant c.in-Some.kept.now c.clear_row.new.kept c.in-Some.ensures.kept None
    (AreFew-emptied g.I.SpanRow.spans g.I.SpanRow.spare c.self.inside.rows c.args.self.now (ap (λ t. t.rows) c.self.view_is) c.args.p.0 c.in-Some.kept.now c.clear_row.new.kept c.in-Some.ensures.kept c.self.invariant.few c.clear_row.ensures.front c.clear_row.ensures.spans)
    c.set.ensures.here c.set.ensures.others c.set.ensures.places (IsReachOf-emptied g.T.Moment.rank (Some (seen g.I.SpanRow.spans g.I.SpanRow.spare c.clear_row.new.kept)) None c.clear_row.ensures.front c.clear_row.ensures.spans)

pub set-requires : goal.set-requires
set-requires g c =
    has_place g.I.SpanRow.spans g.I.SpanRow.spare g.T.Moment.rank c.self.inside.reaches c.self.inside.reaches c.self.inside.rows c.args.p.0 c.self.invariant c.in-Some.kept.now c.clear_row.new.kept c.in-Some.ensures.kept

pub returns-in_default-clause-front : goal.returns-in_default-clause-front
returns-in_default-clause-front g c = ap front_in (kept_at-absent g.I.SpanRow.spans g.I.SpanRow.spare c.self.inside.rows c.args.p.0 c.in_default.ensures.kept)

pub returns-in_default-clause-spans : goal.returns-in_default-clause-spans
returns-in_default-clause-spans g c = ap spans_in (kept_at-absent g.I.SpanRow.spans g.I.SpanRow.spare c.self.inside.rows c.args.p.0 c.in_default.ensures.kept)

pub returns-in_default-clause-room : goal.returns-in_default-clause-room
returns-in_default-clause-room g c = let same = ap (room_at c.args.p.0) c.self.view_is in omega arith

pub returns-in_default-clause-buffer : goal.returns-in_default-clause-buffer
returns-in_default-clause-buffer g c = ap (λ t. t.buffer) c.self.view_is

pub returns-in_default-clause-row : goal.returns-in_default-clause-row
returns-in_default-clause-row g c = ap (has_row c.args.p.0) c.self.view_is

pub returns-in_default-clause-others : goal.returns-in_default-clause-others
returns-in_default-clause-others g c = λ n other. ap (row_at n) c.self.view_is

pub returns-clause-front : goal.returns-clause-front
returns-clause-front g c = ap front_in (written-row g.I.SpanRow.spans g.I.SpanRow.spare c.self.inside.rows c.args.self.now (ap (λ t. t.rows) c.self.view_is) c.args.p.0 c.in-Some.kept.now c.clear_row.new.kept c.in-Some.ensures.kept) ∙ c.clear_row.ensures.front

pub returns-clause-spans : goal.returns-clause-spans
returns-clause-spans g c = ap spans_in (written-row g.I.SpanRow.spans g.I.SpanRow.spare c.self.inside.rows c.args.self.now (ap (λ t. t.rows) c.self.view_is) c.args.p.0 c.in-Some.kept.now c.clear_row.new.kept c.in-Some.ensures.kept) ∙ c.clear_row.ensures.spans

pub returns-clause-room : goal.returns-clause-room
returns-clause-room g c =
    let old = ap room_in (written-old g.I.SpanRow.spans g.I.SpanRow.spare c.self.inside.rows c.args.self.now (ap (λ t. t.rows) c.self.view_is) c.args.p.0 c.in-Some.kept.now c.clear_row.new.kept c.in-Some.ensures.kept) in
    let new = ap room_in (written-row g.I.SpanRow.spans g.I.SpanRow.spare c.self.inside.rows c.args.self.now (ap (λ t. t.rows) c.self.view_is) c.args.p.0 c.in-Some.kept.now c.clear_row.new.kept c.in-Some.ensures.kept) in
    let room = c.clear_row.ensures.room in
    omega (arith, old, new, room)

pub returns-clause-row : goal.returns-clause-row
returns-clause-row g c = ap is_some (written-row g.I.SpanRow.spans g.I.SpanRow.spare c.self.inside.rows c.args.self.now (ap (λ t. t.rows) c.self.view_is) c.args.p.0 c.in-Some.kept.now c.clear_row.new.kept c.in-Some.ensures.kept) ∙ sym (ap is_some (written-old g.I.SpanRow.spans g.I.SpanRow.spare c.self.inside.rows c.args.self.now (ap (λ t. t.rows) c.self.view_is) c.args.p.0 c.in-Some.kept.now c.clear_row.new.kept c.in-Some.ensures.kept))

pub returns-clause-others : goal.returns-clause-others
returns-clause-others g c = written-others g.I.SpanRow.spans g.I.SpanRow.spare c.self.inside.rows c.args.self.now (ap (λ t. t.rows) c.self.view_is) c.args.p.0 c.in-Some.kept.now c.clear_row.new.kept c.in-Some.ensures.kept

pub returns-clause-buffer : goal.returns-clause-buffer
returns-clause-buffer c = grind (arith, common_steps)
