-- The entries of the slot were noted in all rows.
use Rattle.std.proofs.Common.{◌+◌, ◌<◌, ◌≤◌, length, None, get_or-set_same, sym, subst, ap, ◌∙◌, arith}
use Rattle.std.proofs.lemmas.Grind.{common_steps}
use Rattle.ec_entries.specs.Dependents.{Entered, count_on, dependents_of, room_of}
use Rattle.ec_entries.specs.Noting.{AreNoted}
use Rattle.ec_entries.proofs.States.{AreDependents-in, from_place-none, kept_at-set_other}
use Rattle.ec_numbered.specs.ByNumber.{kept_at}
use Rattle.ec_entries.proofs.entries.Entries.insert.Goals as goal

pub note_all-requires-clause-order : goal.note_all-requires-clause-order
note_all-requires-clause-order g c = λ q. (c.self.invariant q).order

pub note_all-requires-clause-absent : goal.note_all-requires-clause-absent
note_all-requires-clause-absent g c = λ q place.
    from_place-none g.T.Moment.rank c.self.inside.slots.items c.args.slot.0 (ap (λ (e : Entered g.row.T.Denot). kept_at c.args.slot.0 e.slots) c.self.view_is ∙ c.requires.absent)
    q (dependents_of q c.self.inside.rows) (c.self.invariant q) place

pub note_all-requires-clause-room : goal.note_all-requires-clause-room
note_all-requires-clause-room g c = λ q.
    subst (λ ls. count_on q ls ≤ room_of q c.self.inside.rows) (sym c.as_slice.ensures.items)
    (subst (λ (e : Entered g.row.T.Denot). count_on q c.args.list ≤ room_of q e.rows) (sym c.self.view_is) (c.requires.room q))

pub invariant_of-self : goal.invariant_of-self
invariant_of-self g c =
    AreDependents-in g.T.Moment.rank c.self.inside.slots.items c.args.slot.0 c.args.at c.args.list _
    (subst (λ (e : Entered g.row.T.Denot). c.args.slot.0 < length e.slots) (sym c.self.view_is) c.requires.place) c.self.inside.rows c.note_all.new.rows c.self.invariant
    (subst (λ ls. AreNoted g.T.Moment.rank c.args.at c.args.slot.0 ls c.self.inside.rows c.note_all.new.rows) c.as_slice.ensures.items c.note_all.ensures)

pub returns-clause-kept : goal.returns-clause-kept
returns-clause-kept g c =
    get_or-set_same c.self.inside.slots.items c.args.slot.0 _ None (subst (λ (e : Entered g.row.T.Denot). c.args.slot.0 < length e.slots) (sym c.self.view_is) c.requires.place)

pub returns-clause-others : goal.returns-clause-others
returns-clause-others g c = λ other apart.
    kept_at-set_other c.self.inside.slots.items c.args.slot.0 other _ apart ∙ ap (λ (e : Entered g.row.T.Denot). kept_at other e.slots) c.self.view_is

pub returns-clause-kept_room : goal.returns-clause-kept_room
returns-clause-kept_room g c = λ q.
    subst (λ (e : Entered g.row.T.Denot). room_of q e.rows ≤ room_of q c.note_all.new.rows + count_on q c.args.list) c.self.view_is
    (subst (λ ls. room_of q c.self.inside.rows ≤ room_of q c.note_all.new.rows + count_on q ls) c.as_slice.ensures.items (c.note_all.ensures.room q))

pub index_mut-requires : goal.index_mut-requires
index_mut-requires c = grind (arith, common_steps)

pub note_all-requires-clause-few : goal.note_all-requires-clause-few
note_all-requires-clause-few c = grind (arith, common_steps)

pub returns-clause-places : goal.returns-clause-places
returns-clause-places c = grind (arith, common_steps)
