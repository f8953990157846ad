-- A group that goes has no properties.
use Rattle.std.proofs.Common.{refl, ap, ◌∙◌}
use Rattle.std.specs.Prelude.{option_map}
use Rattle.ec_exclusive.specs.Groups.{in_group, grouped, group_at}
use Rattle.ec_exclusive.proofs.GroupLemmas.{closed-within, AreFoundByKey-closed, in_group-closed}
use Rattle.ec_exclusive.proofs.groups.close.Goals as goal

pub remove-requires : goal.remove-requires
remove-requires c =
    closed-within (group_at c.groups.inside.records) c.groups.inside.slots.items c.groups.invariant (group_at c.try_remove.new.self) c.in-Ok.slot
    (λ n other. ap (option_map grouped) (c.try_remove.ensures.updates.others n other))
    c.args.key.now c.groups.inside.slots.items c.place_of-place.result c.place_of-place.ensures.within c.place_of-place.ensures.cut c.in-Ok.ensures.found

pub invariant_of-groups : goal.invariant_of-groups
invariant_of-groups c =
    AreFoundByKey-closed (group_at c.groups.inside.records) c.groups.inside.slots.items c.groups.invariant (group_at c.try_remove.new.self) c.in-Ok.slot
    (λ n other. ap (option_map grouped) (c.try_remove.ensures.updates.others n other))
    c.args.key.now c.remove.new.self.items c.place_of-place.result c.place_of-place.ensures.within c.place_of-place.ensures.cut c.in-Ok.ensures.found c.remove.ensures.items

pub returns-then-is_empty_under : goal.returns-then-is_empty_under
returns-then-is_empty_under c = λ k n.
    in_group-closed (group_at c.groups.inside.records) c.groups.inside.slots.items c.groups.invariant (group_at c.try_remove.new.self) c.in-Ok.slot
    (λ m other. ap (option_map grouped) (c.try_remove.ensures.updates.others m other))
    c.args.key.now c.remove.new.self.items c.place_of-place.result c.place_of-place.ensures.within c.place_of-place.ensures.cut c.in-Ok.ensures.found c.remove.ensures.items
    (c.if-is_empty_under.ensures refl) k n
    ∙ ap (λ gs. in_group gs k n) c.groups.view_is
