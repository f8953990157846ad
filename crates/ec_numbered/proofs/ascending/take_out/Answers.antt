-- The number goes out at its place, or is not there.
use Rattle.std.proofs.Common.{◌≡◌, sym, ap, subst, ◌∙◌}
use Rattle.std.specs.List.{remove}
use Rattle.ec_numbered.specs.PropSet.{are_ascending, has_number, without_number}
use Rattle.ec_numbered.proofs.Numbers.{are_ascending-without_number, without_number-absent}
use Rattle.ec_numbered.proofs.ascending.take_out.Goals as goal

pub returns-in-Ok-clause-items : goal.returns-in-Ok-clause-items
returns-in-Ok-clause-items c =
    let removed = subst (λ ps. remove ps c.in-Ok.place ≡ without_number c.args.p ps) c.deref.ensures.value c.in-Ok.ensures.removed in
    c.remove.ensures.items ∙ removed

pub returns-in-Ok-clause-ascends : goal.returns-in-Ok-clause-ascends
returns-in-Ok-clause-ascends c = ap are_ascending (returns-in-Ok-clause-items c) ∙ are_ascending-without_number c.args.p c.args.list.now.items c.requires

pub returns-in_default-clause-items : goal.returns-in_default-clause-items
returns-in_default-clause-items c =
    sym (without_number-absent c.args.p c.args.list.now.items (sym (c.in_default.ensures.there ∙ ap (has_number c.args.p.0) c.deref.ensures.value)))
