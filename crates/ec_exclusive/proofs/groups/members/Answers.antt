-- The group of a key is the one whose slot is found.
use Rattle.std.proofs.Common.{sym, ap, ◌∙◌}
use Rattle.std.specs.Prelude.{option_map}
use Rattle.ec_numbered.specs.PropSet.{has_number}
use Rattle.ec_exclusive.specs.Groups.{in_group, is_member, grouped, group_at}
use Rattle.ec_exclusive.proofs.GroupLemmas.{in_group-at, in_group-absent_key}
use Rattle.ec_exclusive.proofs.groups.members.Goals as goal

pub returns-in-Some : goal.returns-in-Some
returns-in-Some c = λ n.
    ap (has_number n) c.as_slice.ensures.items ∙ ap (λ o. is_member n (option_map grouped o)) c.in-Some.ensures
    ∙ sym (in_group-at (group_at c.groups.inside.records) c.args.key.now n c.groups.inside.slots.items c.in-Ok.slot c.in-Ok.ensures.found)
    ∙ ap (λ gs. in_group gs c.args.key.now n) c.groups.view_is

pub returns-in-None : goal.returns-in-None
returns-in-None c = λ n.
    ap (λ o. is_member n (option_map grouped o)) c.in-None.ensures
    ∙ sym (in_group-at (group_at c.groups.inside.records) c.args.key.now n c.groups.inside.slots.items c.in-Ok.slot c.in-Ok.ensures.found)
    ∙ ap (λ gs. in_group gs c.args.key.now n) c.groups.view_is

pub returns-in-Err : goal.returns-in-Err
returns-in-Err c = λ n.
    sym (in_group-absent_key (group_at c.groups.inside.records) c.args.key.now n c.groups.inside.slots.items c.in-Err.ensures.absent)
    ∙ ap (λ gs. in_group gs c.args.key.now n) c.groups.view_is
