-- The place that the search found is the entry's.
use Rattle.std.proofs.Common.{refl, ◌∙◌}
use Rattle.ec_rows.proofs.TimeLemmas.{with_entry-free, IsTimeRow-with_entry}
use Rattle.ec_block_rows.proofs.block_times.put_entry.Goals as goal

pub returns-clause-times : goal.returns-clause-times
returns-clause-times g c =
    c.insert.ensures.items
    ∙ with_entry-free g.T.Moment.rank (c.args.at, c.args.id, c.args.slot) c.args.times.now.items c.args.times.now.items c.place_in-place.result refl
    c.requires.row c.place_in-place.ensures.cut c.requires.absent

pub returns-clause-row : goal.returns-clause-row
returns-clause-row g c =
    IsTimeRow-with_entry g.T.Moment.rank (c.args.at, c.args.id, c.args.slot) c.args.times.now.items _ c.requires.row (returns-clause-times g c)
