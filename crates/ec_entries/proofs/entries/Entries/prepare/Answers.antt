-- Each slot keeps what it kept, and each row its dependents.
use Rattle.std.proofs.Common.{◌≤◌, ℕ, OnOk, refl, ap, subst, ◌∙◌, arith}
use Rattle.std.proofs.lemmas.Grind.{common_steps}
use Rattle.ec_entries.specs.Dependents.{Entered, count_on_all, dependents_of, room_of}
use Rattle.ec_entries.proofs.States.{AreDependents-same}
use Rattle.ec_entries.proofs.entries.Entries.prepare.Goals as goal

pub invariant_of-self : goal.invariant_of-self
invariant_of-self g c q =
    AreDependents-same g.T.Moment.rank q c.self.inside.slots.items c.widen.new.slots.items (dependents_of q c.self.inside.rows) (dependents_of q c.self.inside.rows)
    c.widen.ensures.kept refl (c.self.invariant q)

pub invariant_of-self-2 : goal.invariant_of-self-2
invariant_of-self-2 g c q =
    AreDependents-same g.T.Moment.rank q c.self.inside.slots.items c.widen.new.slots.items (dependents_of q c.self.inside.rows) (dependents_of q c.reserve_all.new.rows)
    c.widen.ensures.kept (c.reserve_all.ensures.wider.same q) (c.self.invariant q)

pub returns-clause-kept_room : goal.returns-clause-kept_room
returns-clause-kept_room g c q = subst (λ (e : Entered g.row.T.Denot). room_of q e.rows ≤ room_of q c.reserve_all.new.rows) c.self.view_is (c.reserve_all.ensures.wider.room q)

pub returns-clause-dependents : goal.returns-clause-dependents
returns-clause-dependents g c q = c.reserve_all.ensures.wider.same q ∙ ap (λ (e : Entered g.row.T.Denot). dependents_of q e.rows) c.self.view_is

pub returns-clause-kept : goal.returns-clause-kept
returns-clause-kept c = grind (arith, common_steps)

pub returns-clause-room : goal.returns-clause-room
returns-clause-room g c =
    subst (λ ls. OnOk c.reserve_all.result ((q : ℕ) → count_on_all q ls ≤ room_of q c.reserve_all.new.rows)) c.as_slice.ensures c.reserve_all.ensures.ok

pub returns-clause-kept_places : goal.returns-clause-kept_places
returns-clause-kept_places c = grind (arith, common_steps)
