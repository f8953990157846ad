-- The place that the search found is the entry's.
use Rattle.std.proofs.Common.{◌≡◌, false, sym, subst, ◌∙◌}
use Rattle.ec_rows.specs.Times.{IsTimeRow, has_entry}
use Rattle.ec_rows.proofs.TimeLemmas.{with_entry-free, IsTimeRow-with_entry}
use Rattle.ec_rows.proofs.vec_times.put_entry.Goals as goal

pub returns-clause-times : goal.returns-clause-times
returns-clause-times g c =
    c.insert_within.ensures.items
    ∙ with_entry-free g.T.Moment.rank (c.args.at, c.args.id, c.args.slot) c.args.times.now.items c.deref.result.now c.place_in-place.result c.deref.ensures.value
    (subst (IsTimeRow g.T.Moment.rank) (sym c.deref.ensures.value) c.requires.row) c.place_in-place.ensures.cut
    (subst (λ xs. has_entry g.T.Moment.rank (g.T.Moment.rank c.args.at) c.args.id xs ≡ false) (sym c.deref.ensures.value) c.requires.absent)

pub returns-clause-row : goal.returns-clause-row
returns-clause-row g c =
    IsTimeRow-with_entry g.T.Moment.rank (c.args.at, c.args.id, c.args.slot) c.args.times.now.items _ c.requires.row (returns-clause-times g c)
