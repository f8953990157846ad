-- What stands at the cut is at the time, or nothing is.
use Rattle.std.proofs.Common.{arith, sym, ◌∙◌}
use Rattle.std.proofs.lemmas.Grind.{common_steps}
use Rattle.ec_rows.proofs.TimedLemmas.{drop-after_at, IsFreeAt-end, IsFreeAt-other, drop-after_free, has_member-free}
use Rattle.ec_rows.proofs.search.place_of.Goals as goal

pub returns-then-is_at-clause-after : goal.returns-then-is_at-clause-after
returns-then-is_at-clause-after g c =
    drop-after_at g.T.Moment.rank g.X.Timed.time (g.T.Moment.rank c.args.at) c.args.row.now _ c.index-row-place.result c.requires c.count_before-place.ensures.cut (omega arith) c.index-row-place.is (sym c.is_at.ensures ∙ c.if-is_at.true)

pub returns-then-place-row-clause-absent : goal.returns-then-place-row-clause-absent
returns-then-place-row-clause-absent g c =
    has_member-free g.T.Moment.rank g.X.Timed.time (g.T.Moment.rank c.args.at) c.args.row.now _ c.requires c.count_before-place.ensures.cut (IsFreeAt-end g.T.Moment.rank g.X.Timed.time (g.T.Moment.rank c.args.at) c.args.row.now _ c.if-place-row.true)

pub returns-then-place-row-clause-behind : goal.returns-then-place-row-clause-behind
returns-then-place-row-clause-behind g c =
    drop-after_free g.T.Moment.rank g.X.Timed.time (g.T.Moment.rank c.args.at) c.args.row.now _ c.requires c.count_before-place.ensures.cut (IsFreeAt-end g.T.Moment.rank g.X.Timed.time (g.T.Moment.rank c.args.at) c.args.row.now _ c.if-place-row.true)

pub returns-else-is_at-clause-absent : goal.returns-else-is_at-clause-absent
returns-else-is_at-clause-absent g c =
    has_member-free g.T.Moment.rank g.X.Timed.time (g.T.Moment.rank c.args.at) c.args.row.now _ c.requires c.count_before-place.ensures.cut
    (IsFreeAt-other g.T.Moment.rank g.X.Timed.time (g.T.Moment.rank c.args.at) c.args.row.now _ c.index-row-place.result c.index-row-place.is (sym c.is_at.ensures ∙ c.if-is_at.false))

pub returns-else-is_at-clause-behind : goal.returns-else-is_at-clause-behind
returns-else-is_at-clause-behind g c =
    drop-after_free g.T.Moment.rank g.X.Timed.time (g.T.Moment.rank c.args.at) c.args.row.now _ c.requires c.count_before-place.ensures.cut
    (IsFreeAt-other g.T.Moment.rank g.X.Timed.time (g.T.Moment.rank c.args.at) c.args.row.now _ c.index-row-place.result c.index-row-place.is (sym c.is_at.ensures ∙ c.if-is_at.false))

pub returns-then-is_at-clause-present : goal.returns-then-is_at-clause-present
returns-then-is_at-clause-present g c = grind (arith, common_steps)
