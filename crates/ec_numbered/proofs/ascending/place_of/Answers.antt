-- The number stands at the cut, or it would go in there.
use Rattle.std.proofs.Common.{◌≡◌, true, false, sym, ◌∙◌, arith, get_or}
use Rattle.std.specs.Prelude.{◌==◌}
use Rattle.ec_numbered.proofs.Numbers.{has_number-at, has_number-end, insert-with_number, remove-without_number}
use Rattle.ec_numbered.proofs.ascending.place_of.Goals as goal

pub returns-then-place-list-clause-there : goal.returns-then-place-list-clause-there
returns-then-place-list-clause-there c =
    sym (has_number-end c.args.p c.args.list.now c.count_before-place.result c.requires c.count_before-place.ensures.cut (omega (arith, c.if-place-list.true)))

pub returns-then-place-list-clause-inserted : goal.returns-then-place-list-clause-inserted
returns-then-place-list-clause-inserted c =
    insert-with_number c.args.p c.args.list.now c.count_before-place.result c.requires c.count_before-place.ensures.cut
    (has_number-end c.args.p c.args.list.now c.count_before-place.result c.requires c.count_before-place.ensures.cut (omega (arith, c.if-place-list.true)))

pub returns-then-list-place-clause-there : goal.returns-then-list-place-clause-there
returns-then-list-place-clause-there c =
    let here : ((get_or c.args.list.now c.count_before-place.result (record { 0 = 0 })).0 == c.args.p.0) ≡ true = grind arith in
    sym here ∙ has_number-at c.args.p c.args.list.now c.count_before-place.result (record { 0 = 0 }) c.requires c.count_before-place.ensures.cut (omega (arith, c.count_before-place.ensures.within, c.if-place-list.false))

pub returns-then-list-place-clause-removed : goal.returns-then-list-place-clause-removed
returns-then-list-place-clause-removed c =
    remove-without_number c.args.p c.args.list.now c.count_before-place.result c.requires c.count_before-place.ensures.cut
    (sym (returns-then-list-place-clause-there c))

pub returns-else-list-place-clause-there : goal.returns-else-list-place-clause-there
returns-else-list-place-clause-there c =
    let other : ((get_or c.args.list.now c.count_before-place.result (record { 0 = 0 })).0 == c.args.p.0) ≡ false = grind arith in
    sym other ∙ has_number-at c.args.p c.args.list.now c.count_before-place.result (record { 0 = 0 }) c.requires c.count_before-place.ensures.cut (omega (arith, c.count_before-place.ensures.within, c.if-place-list.false))

pub returns-else-list-place-clause-inserted : goal.returns-else-list-place-clause-inserted
returns-else-list-place-clause-inserted c =
    insert-with_number c.args.p c.args.list.now c.count_before-place.result c.requires c.count_before-place.ensures.cut
    (sym (returns-else-list-place-clause-there c))
