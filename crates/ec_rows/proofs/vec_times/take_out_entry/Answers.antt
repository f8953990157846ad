-- The entry is there, so that the search finds it.
use Rattle.std.proofs.Common.{subst, ◌∙◌, arith}
use Rattle.ec_rows.proofs.TimeLemmas.{IsCutAt, found, remove-without_entry, IsTimeRow-remove, Contains-found}
use Rattle.ec_rows.proofs.vec_times.take_out_entry.Goals as goal
use Rattle.ec_rows.proofs.vec_times.take_out_entry.Goals.{After-place_in-place}

-- the cut of the entries themselves
cut : (g : _) (c : After-place_in-place g) → IsCutAt g.T.Moment.rank (g.T.Moment.rank c.args.at, c.args.id.now) c.args.times.now.items c.place_in-place.result
cut g c =
    subst (λ xs. IsCutAt g.T.Moment.rank (g.T.Moment.rank c.args.at, c.args.id.now) xs c.place_in-place.result) c.deref.ensures.value c.place_in-place.ensures.cut

pub remove-requires : goal.remove-requires
remove-requires g c =
    let there = found g.T.Moment.rank (g.T.Moment.rank c.args.at) c.args.id.now c.args.times.now.items c.place_in-place.result c.requires.row (cut g (goal.at.remove-requires g c).After-place_in-place)
    c.requires.present in
    omega (arith, there.0, c.args.times.now.ok.0)

pub returns-clause-times : goal.returns-clause-times
returns-clause-times g c =
    c.remove.ensures.items
    ∙ remove-without_entry g.T.Moment.rank (g.T.Moment.rank c.args.at) c.args.id.now c.args.times.now.items c.place_in-place.result c.remove.result
    c.requires.row (cut g (goal.at.returns-clause-times g c).After-place_in-place) c.requires.present

pub returns-clause-row : goal.returns-clause-row
returns-clause-row g c = IsTimeRow-remove g.T.Moment.rank c.args.times.now.items _ c.place_in-place.result c.requires.row c.remove.ensures.items

pub returns-clause-slot : goal.returns-clause-slot
returns-clause-slot g c =
    Contains-found g.T.Moment.rank g.met.T.Moment.same_moment c.args.at c.args.id.now c.args.times.now.items c.place_in-place.result c.remove.result
    c.requires.row (cut g (goal.at.returns-clause-slot g c).After-place_in-place) c.requires.present c.remove.ensures.value
