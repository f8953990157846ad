-- What stands at the cut is at the time, or nothing is.
use Rattle.std.proofs.Common.{arith, sym, ap, ◌∙◌}
use Rattle.std.proofs.lemmas.Grind.{common_steps}
use Rattle.std.specs.Ordering.{int_eq}
use Rattle.std.proofs.lemmas.Option.{get_or_from_slice_get, slice_get_within}
use Rattle.std.proofs.lemmas.List.Folds.{list_any_at}
use Rattle.ec_rows.proofs.TimedLemmas.{drop-after_at, IsFreeAt-end, IsFreeAt-other, drop-after_free, has_member-free}
use Rattle.ec_block_rows.proofs.search.place_of.Goals as goal

pub returns-then-is_at-clause-after : goal.returns-then-is_at-clause-after
returns-then-is_at-clause-after g c =
    drop-after_at g.T.Moment.rank g.X.Timed.time (g.T.Moment.rank c.args.at) c.args.row.now.items _ c.get.result.now c.requires c.count_before-place.ensures.cut (omega arith) (sym (get_or_from_slice_get c.args.row.now.items _ c.get.result.now c.get.result.now c.get.ensures)) (sym c.is_at.ensures ∙ c.if-is_at.true)

pub returns-then-place-len-clause-absent : goal.returns-then-place-len-clause-absent
returns-then-place-len-clause-absent g c =
    has_member-free g.T.Moment.rank g.X.Timed.time (g.T.Moment.rank c.args.at) c.args.row.now.items _ c.requires c.count_before-place.ensures.cut (IsFreeAt-end g.T.Moment.rank g.X.Timed.time (g.T.Moment.rank c.args.at) c.args.row.now.items _ (c.if-place-len.true ∙ c.len.ensures))

pub returns-then-place-len-clause-behind : goal.returns-then-place-len-clause-behind
returns-then-place-len-clause-behind g c =
    drop-after_free g.T.Moment.rank g.X.Timed.time (g.T.Moment.rank c.args.at) c.args.row.now.items _ c.requires c.count_before-place.ensures.cut (IsFreeAt-end g.T.Moment.rank g.X.Timed.time (g.T.Moment.rank c.args.at) c.args.row.now.items _ (c.if-place-len.true ∙ c.len.ensures))

pub returns-else-is_at-clause-absent : goal.returns-else-is_at-clause-absent
returns-else-is_at-clause-absent g c =
    has_member-free g.T.Moment.rank g.X.Timed.time (g.T.Moment.rank c.args.at) c.args.row.now.items _ c.requires c.count_before-place.ensures.cut
    (IsFreeAt-other g.T.Moment.rank g.X.Timed.time (g.T.Moment.rank c.args.at) c.args.row.now.items _ c.get.result.now (sym (get_or_from_slice_get c.args.row.now.items _ c.get.result.now c.get.result.now c.get.ensures)) (sym c.is_at.ensures ∙ c.if-is_at.false))

pub returns-else-is_at-clause-behind : goal.returns-else-is_at-clause-behind
returns-else-is_at-clause-behind g c =
    drop-after_free g.T.Moment.rank g.X.Timed.time (g.T.Moment.rank c.args.at) c.args.row.now.items _ c.requires c.count_before-place.ensures.cut
    (IsFreeAt-other g.T.Moment.rank g.X.Timed.time (g.T.Moment.rank c.args.at) c.args.row.now.items _ c.get.result.now (sym (get_or_from_slice_get c.args.row.now.items _ c.get.result.now c.get.result.now c.get.ensures)) (sym c.is_at.ensures ∙ c.if-is_at.false))

pub returns-then-is_at-clause-at : goal.returns-then-is_at-clause-at
returns-then-is_at-clause-at g c d =
    ap (λ x. int_eq (g.T.Moment.rank (g.X.Timed.time x)) (g.T.Moment.rank c.args.at)) (get_or_from_slice_get c.args.row.now.items c.count_before-place.result c.get.result.now d c.get.ensures)
    ∙ sym c.is_at.ensures ∙ c.if-is_at.true

pub returns-then-is_at-clause-present : goal.returns-then-is_at-clause-present
returns-then-is_at-clause-present g c =
    list_any_at (λ x. int_eq (g.T.Moment.rank (g.X.Timed.time x)) (g.T.Moment.rank c.args.at)) c.args.row.now.items c.count_before-place.result c.get.result.now
    (slice_get_within c.args.row.now.items c.count_before-place.result c.get.result.now c.get.ensures) (returns-then-is_at-clause-at g c c.get.result.now)

pub returns-then-is_at-clause-found : goal.returns-then-is_at-clause-found
returns-then-is_at-clause-found c = grind (arith, common_steps)
