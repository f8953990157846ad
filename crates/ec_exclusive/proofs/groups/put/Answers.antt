-- The group that is written to, or opened, has the property, and all others are what they were.
use Rattle.std.proofs.Common.{◌≡◌, ◌≢◌, ℕ, [], None, Some, ◌||◌, cond, sym, ap, ap₂, ◌∙◌, arith}
use Rattle.std.proofs.lemmas.Grind.{common_steps}
use Rattle.std.specs.Prelude.{◌==◌, bytes_eq, option_map, Result, Ok, Err, OnOk}
use Rattle.std.specs.List.{insert}
use Rattle.slab.specs.Slab.{Slab}
use Rattle.ec_exclusive.specs.declared.group.Group.{Group}
use Rattle.ec_exclusive.specs.Groups.{in_group, grouped, group_at, with_member, hash_of}
use Rattle.ec_exclusive.proofs.GroupLemmas.{in_group-put, in_group-opened, AreFoundByKey-opened}
use Rattle.ec_exclusive.proofs.groups.put.Goals as goal
use Rattle.ec_exclusive.proofs.groups.put.Goals.{After-insert}

-- what follows from what holds where all went well
on_ok : {A E P Q : Type 0} (r : Result A E) → OnOk r P → (P → Q) → OnOk r Q
on_ok (Ok x) holds gives = gives holds
on_ok (Err e) holds gives = tt

pub returns-in-Ok-clause-ok : goal.returns-in-Ok-clause-ok
returns-in-Ok-clause-ok c =
    on_ok c.put_under.result c.put_under.ensures.ok
    (λ more k n.
    in_group-put (group_at c.groups.inside.records) c.groups.inside.slots.items c.groups.invariant (group_at c.put_under.new.records) c.in-Ok.slot c.put_under.ensures.others
    c.args.key.now c.in-Ok.ensures.found c.put_under.ensures.keys c.args.p more k n
    ∙ ap (λ gs. cond (bytes_eq c.args.key.now k) ((c.args.p.0 == n) || in_group gs k n) (in_group gs k n)) c.groups.view_is)

-- room alone changes before a group is opened
with_room : (c : After-insert) (n : ℕ) → group_at c.reserve.new.self n ≡ group_at c.groups.inside.records n
with_room c n = ap (λ (s : Slab Group). group_at s n) c.reserve.ensures.rest_kept

others : (c : After-insert) (n : ℕ) → n ≢ c.insert_reserved-slot.result → group_at c.insert_reserved-slot.new.self n ≡ group_at c.groups.inside.records n
others c n other = ap (option_map grouped) (c.insert_reserved-slot.ensures.updates.others n other) ∙ with_room c n

free : (c : After-insert) → group_at c.groups.inside.records c.insert_reserved-slot.result ≡ None
free c = sym (with_room c c.insert_reserved-slot.result) ∙ ap (option_map grouped) c.insert_reserved-slot.ensures.was_vacant

there : (c : After-insert) → group_at c.insert_reserved-slot.new.self c.insert_reserved-slot.result ≡ Some (with_member c.args.p (record { key = c.args.key.now; members = [] }))
there c = ap (option_map grouped) c.insert_reserved-slot.ensures.updates.changed ∙ ap Some c.in_ok-group-in-Err.ensures

inserted : (c : After-insert) → c.insert.new.self.items ≡ insert c.groups.inside.slots.items c.in-Err.place (record { key = hash_of c.args.key.now; slot = c.insert_reserved-slot.result })
inserted c =
    c.insert.ensures.items ∙ ap₂ (λ ms hash. insert ms c.in-Err.place (record { key = hash; slot = c.insert_reserved-slot.result })) c.reserve-in-Err.ensures.same c.hash_of.ensures

pub invariant_of-groups-in-Err : goal.invariant_of-groups-in-Err
invariant_of-groups-in-Err c =
    let d = (goal.at.invariant_of-groups-in-Err c).After-insert in
    AreFoundByKey-opened (group_at c.groups.inside.records) c.groups.inside.slots.items c.groups.invariant (group_at c.insert_reserved-slot.new.self) c.insert_reserved-slot.result (others d)
    c.args.key.now c.insert.new.self.items c.in-Err.place c.in-Err.ensures.within c.in-Err.ensures.cut c.in-Err.ensures.absent (free d) c.args.p (there d) (inserted d)

pub returns-in_ok-group-in-Err-clause-ok : goal.returns-in_ok-group-in-Err-clause-ok
returns-in_ok-group-in-Err-clause-ok c =
    let d = (goal.at.returns-in_ok-group-in-Err-clause-ok c).After-insert in λ k n.
    in_group-opened (group_at c.groups.inside.records) c.groups.inside.slots.items c.groups.invariant (group_at c.insert_reserved-slot.new.self) c.insert_reserved-slot.result (others d)
    c.args.key.now c.insert.new.self.items c.in-Err.place c.in-Err.ensures.within c.in-Err.ensures.cut c.in-Err.ensures.absent (free d) c.args.p (there d) (inserted d) k n
    ∙ ap (λ gs. cond (bytes_eq c.args.key.now k) ((c.args.p.0 == n) || in_group gs k n) (in_group gs k n)) c.groups.view_is

pub insert-requires-clause-within : goal.insert-requires-clause-within
insert-requires-clause-within c = grind (arith, common_steps)

pub insert-requires-clause-room : goal.insert-requires-clause-room
insert-requires-clause-room c = grind (arith, common_steps)
