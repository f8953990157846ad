-- The entry is there, so that the search finds it.
use Rattle.std.proofs.Common.{sym, ◌∙◌}
use Rattle.std.proofs.lemmas.Option.{get_or_from_slice_get}
use Rattle.ec_rows.proofs.TimeLemmas.{found, remove-without_entry, IsTimeRow-remove, Contains-found}
use Rattle.ec_block_rows.proofs.block_times.take_out_entry.Goals as goal

pub remove-requires : goal.remove-requires
remove-requires g c =
    let there = found g.T.Moment.rank (g.T.Moment.rank c.args.at) c.args.id.now c.args.times.now.items c.place_in-place.result c.requires.row c.place_in-place.ensures.cut
    c.requires.present in
    there.0

pub returns-clause-times : goal.returns-clause-times
returns-clause-times g c =
    c.remove.ensures.items
    ∙ remove-without_entry g.T.Moment.rank (g.T.Moment.rank c.args.at) c.args.id.now c.args.times.now.items c.place_in-place.result c.remove.result
    c.requires.row c.place_in-place.ensures.cut c.requires.present

pub returns-clause-row : goal.returns-clause-row
returns-clause-row g c = IsTimeRow-remove g.T.Moment.rank c.args.times.now.items _ c.place_in-place.result c.requires.row c.remove.ensures.items

pub returns-clause-slot : goal.returns-clause-slot
returns-clause-slot g c =
    Contains-found g.T.Moment.rank g.met.T.Moment.same_moment c.args.at c.args.id.now c.args.times.now.items c.place_in-place.result c.remove.result
    c.requires.row c.place_in-place.ensures.cut c.requires.present
    (sym (get_or_from_slice_get c.args.times.now.items c.place_in-place.result c.remove.result c.remove.result c.remove.ensures.member))
