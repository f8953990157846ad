-- One entry more is noted.
use Rattle.std.proofs.Common.{◌≡◌, ◌≤◌, cond, [], sym, subst, arith}
use Rattle.std.proofs.lemmas.Grind.{common_steps}
use Rattle.ec_entries.specs.declared.event_entries.Dependent.{Dependent}
use Rattle.ec_entries.specs.Dependents.{any_on, dependents_of, from_place, room_of}
use Rattle.ec_entries.specs.Noting.{IsNoted}
use Rattle.ec_entries.proofs.NotedLists.{AreNoted-more, AreNoted-next, room-next}
use Rattle.ec_entries.proofs.noting.note_all.Goals as goal

pub note_entry-requires-clause-room : goal.note_entry-requires-clause-room
note_entry-requires-clause-room g c q =
    subst (λ ls. cond (any_on q ls) 1 0 ≤ room_of q c.loop-place.rows) (sym c.as_slice.ensures.items)
    (room-next q c.args.list.now c.loop-place.place c.index-list-place.result c.loop-place-test.true c.index-list-place.is (room_of q c.args.rows.now) (room_of q c.loop-place.rows)
    (c.requires.room q) (c.loop-place.invariant.room q))

pub note_entry-requires-clause-absent : goal.note_entry-requires-clause-absent
note_entry-requires-clause-absent g c q =
    subst (λ (d : Dependent g.row.T.Denot). from_place d.slot.0 d.place (dependents_of q c.loop-place.rows) ≡ []) (sym c.dependent_at.ensures)
    (AreNoted-next g.T.Moment.rank c.args.at c.args.slot.0 c.args.list.now c.loop-place.place c.args.rows.now c.loop-place.rows c.loop-place.invariant q)

pub loop-place-preserved : goal.loop-place-preserved
loop-place-preserved g c =
    AreNoted-more g.T.Moment.rank c.args.at c.args.slot.0 c.args.list.now c.loop-place.place c.index-list-place.result c.loop-place-test.true c.index-list-place.is
    c.args.rows.now c.loop-place.rows c.note_entry.new.rows c.loop-place.invariant
    (subst (λ ls. IsNoted g.T.Moment.rank c.args.at c.args.slot.0 c.loop-place.place (λ q. any_on q ls) c.loop-place.rows c.note_entry.new.rows) c.as_slice.ensures.items
    (subst (λ (d : Dependent g.row.T.Denot). IsNoted g.T.Moment.rank d.at d.slot.0 d.place (λ q. any_on q c.as_slice.result.now) c.loop-place.rows c.note_entry.new.rows)
    c.dependent_at.ensures c.note_entry.ensures))

pub returns : goal.returns
returns c = grind (arith, common_steps)

pub loop-place-init : goal.loop-place-init
loop-place-init c = grind (arith, common_steps)
