-- The number goes into the lists of all that stand in its own, and then it has its own.
use Rattle.std.proofs.Common.{IsTrue, sym, ap, subst, ◌∙◌, arith}
use Rattle.std.proofs.lemmas.Grind.{common_steps}
use Rattle.ec_numbered.specs.PropSet.{has_number}
use Rattle.ec_exclusive.proofs.FieldLists.{list_with-set}
use Rattle.ec_exclusive.proofs.rows.add_row.Goals as goal

pub returns : goal.returns
returns c =
    let own = c.as_slice.ensures.items in
    list_with-set c.args.rows.now c.put_each.new.rows c.set.new.self c.args.p c.args.row c.set.ensures.row c.set.ensures.others
    (λ q there. c.put_each.ensures.put q (subst (λ ps. IsTrue (has_number q.0 ps)) (sym own) there))
    (λ q not_there. c.put_each.ensures.others q (ap (has_number q.0) own ∙ not_there))

pub put_each-requires-clause-room : goal.put_each-requires-clause-room
put_each-requires-clause-room c = grind (arith, common_steps)
