-- The number goes in at its place, or is there.
use Rattle.std.proofs.Common.{◌≡◌, sym, ap, subst, ◌∙◌, arith}
use Rattle.std.proofs.lemmas.Grind.{common_steps}
use Rattle.std.specs.List.{insert}
use Rattle.ec_numbered.specs.PropSet.{are_ascending, has_number, with_number}
use Rattle.ec_numbered.proofs.Numbers.{are_ascending-with_number, with_number-there}
use Rattle.ec_numbered.proofs.ascending.put.Goals as goal

pub returns-in-Ok-clause-items : goal.returns-in-Ok-clause-items
returns-in-Ok-clause-items c =
    let inserted = subst (λ ps. insert ps c.in-Err.place c.args.p ≡ with_number c.args.p ps) c.deref.ensures.value c.in-Err.ensures.inserted in
    c.in-Ok.ensures.items ∙ inserted

pub returns-in-Ok-clause-ascends : goal.returns-in-Ok-clause-ascends
returns-in-Ok-clause-ascends c = ap are_ascending (returns-in-Ok-clause-items c) ∙ are_ascending-with_number c.args.p c.args.list.now.items c.requires.ascends

pub returns-in_default-clause-items : goal.returns-in_default-clause-items
returns-in_default-clause-items c =
    sym (with_number-there c.args.p c.args.list.now.items c.requires.ascends (sym (c.in_default.ensures.there ∙ ap (has_number c.args.p.0) c.deref.ensures.value)))

pub returns-in-Ok-clause-capacity : goal.returns-in-Ok-clause-capacity
returns-in-Ok-clause-capacity c = grind (arith, common_steps)
