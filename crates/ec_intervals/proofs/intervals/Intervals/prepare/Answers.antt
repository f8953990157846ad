-- The row that grows is that of the table.
use Rattle.std.proofs.Common.{◌≤◌, IsTrue, is_some, OnOk, refl, sym, ap, subst, ◌∙◌, arith}
use Rattle.std.proofs.lemmas.Grind.{common_steps}
use Rattle.std.proofs.lemmas.Result.{on_err_weaker, on_ok_weaker}
use Rattle.ec_numbered.specs.ByNumber.{kept_at}
use Rattle.ec_intervals.specs.Reach.{IsReachOf}
use Rattle.ec_intervals.specs.RowViews.{rows_seen}
use Rattle.ec_intervals.specs.Table.{members_in, room_in}
use Rattle.ec_intervals.proofs.KeptRows.{has_row-same, kept_at-seen, is_some-seen, row_at-same, IsGrown-kept, IsGrown-table}
use Rattle.ec_intervals.proofs.ReachLemmas.{AreKept-grown}
use Rattle.ec_intervals.proofs.intervals.Intervals.prepare.Goals as goal

pub invariant_of-self-in_err-place : goal.invariant_of-self-in_err-place
invariant_of-self-in_err-place g c = record {
  few = c.self.invariant.few;
  reached = λ n. subst (λ reach. IsReachOf g.T.Moment.rank reach (members_in (kept_at n (rows_seen g.I.SpanRow.spans g.I.SpanRow.spare c.self.inside.rows)))) (sym (c.place.ensures.same n)) (c.self.invariant.reached n);
  placed = λ n there. let within = c.self.invariant.placed n there in let grown = c.place.ensures.grown in omega arith;
}

pub returns-in_err-make_room-clause-grown : goal.returns-in_err-make_room-clause-grown
returns-in_err-make_room-clause-grown g c =
    IsGrown-table g.I.SpanRow.spans g.I.SpanRow.spare c.self.inside.rows c.self.inside.rows c.args.self.now (ap (λ t. t.rows) c.self.view_is) c.args.p.0 (IsGrown-kept g.I.SpanRow.spans g.I.SpanRow.spare c.self.inside.rows c.self.inside.rows c.args.p.0 refl)

pub returns-in_err-make_room-clause-others : goal.returns-in_err-make_room-clause-others
returns-in_err-make_room-clause-others g c = λ n other. row_at-same g.I.SpanRow.spans g.I.SpanRow.spare c.self.inside.rows c.self.inside.rows c.args.self.now (ap (λ t. t.rows) c.self.view_is) n refl

pub returns-in_err-place-clause-grown : goal.returns-in_err-place-clause-grown
returns-in_err-place-clause-grown g c =
    IsGrown-table g.I.SpanRow.spans g.I.SpanRow.spare c.self.inside.rows c.self.inside.rows c.args.self.now (ap (λ t. t.rows) c.self.view_is) c.args.p.0 (IsGrown-kept g.I.SpanRow.spans g.I.SpanRow.spare c.self.inside.rows c.self.inside.rows c.args.p.0 refl)

pub returns-in_err-place-clause-others : goal.returns-in_err-place-clause-others
returns-in_err-place-clause-others g c = λ n other. row_at-same g.I.SpanRow.spans g.I.SpanRow.spare c.self.inside.rows c.self.inside.rows c.args.self.now (ap (λ t. t.rows) c.self.view_is) n refl

pub invariant_of-self-2 : goal.invariant_of-self-2
invariant_of-self-2 g c =
    AreKept-grown g.I.SpanRow.spans g.I.SpanRow.spare g.T.Moment.rank c.self.inside.reaches c.place.new.self c.self.inside.rows c.args.p.0 c.self.invariant c.prepare_row.new.rows
    c.place.ensures.same c.place.ensures.grown c.in_ok-place.ensures.place c.prepare_row.ensures.others c.prepare_row.ensures.grown

pub returns-clause-room : goal.returns-clause-room
returns-clause-room g c =
    subst (λ row. OnOk c.prepare_row.result (c.args.spans ≤ room_in row)) (sym (kept_at-seen g.I.SpanRow.spans g.I.SpanRow.spare c.prepare_row.new.rows c.args.p.0))
    c.prepare_row.ensures.room

pub returns-clause-row : goal.returns-clause-row
returns-clause-row g c =
    subst (λ there. OnOk c.prepare_row.result (IsTrue there))
    (sym (ap is_some (kept_at-seen g.I.SpanRow.spans g.I.SpanRow.spare c.prepare_row.new.rows c.args.p.0)
    ∙ is_some-seen g.I.SpanRow.spans g.I.SpanRow.spare (kept_at c.args.p.0 c.prepare_row.new.rows)))
    c.prepare_row.ensures.there

pub returns-clause-grown : goal.returns-clause-grown
returns-clause-grown g c = IsGrown-table g.I.SpanRow.spans g.I.SpanRow.spare c.self.inside.rows c.prepare_row.new.rows c.args.self.now (ap (λ t. t.rows) c.self.view_is) c.args.p.0 c.prepare_row.ensures.grown

pub returns-clause-others : goal.returns-clause-others
returns-clause-others g c = λ n other. row_at-same g.I.SpanRow.spans g.I.SpanRow.spare c.self.inside.rows c.prepare_row.new.rows c.args.self.now (ap (λ t. t.rows) c.self.view_is) n (c.prepare_row.ensures.others n other)

pub returns-clause-kept : goal.returns-clause-kept
returns-clause-kept c = grind (arith, common_steps)

pub returns-clause-err : goal.returns-clause-err
returns-clause-err g c =
    on_err_weaker c.prepare_row.result (λ same. has_row-same g.I.SpanRow.spans g.I.SpanRow.spare c.self.inside.rows c.prepare_row.new.rows c.args.self.now (ap (λ t. t.rows) c.self.view_is) c.args.p.0 same)
    c.prepare_row.ensures.err

pub returns-clause-buffer : goal.returns-clause-buffer
returns-clause-buffer g c = on_ok_weaker c.prepare_row.result (λ there. c.in_ok-make_room.ensures.room) c.prepare_row.ensures.there
