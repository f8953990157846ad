use Rattle.std.proofs.Common.{ap, sym, ◌∙◌, arith}
use Rattle.std.proofs.lemmas.Grind.{common_steps}
use Rattle.std.specs.Prelude.{◌==◌}
use Rattle.std.specs.List.{list_any}
use Rattle.std.proofs.lemmas.List.{take_all}
use Rattle.ec_store.specs.Table.{KeptProp}
use Rattle.ec_numbered.specs.PropSet.{with_number}
use Rattle.ec_parts.proofs.InitialTables.{kept-any, number-more}
use Rattle.ec_parts.proofs.initials.numbers_of.Goals as goal

pub loop-i-preserved : goal.loop-i-preserved
loop-i-preserved c =
    number-more c.args.props.now c.loop-i.i c.nth_in_order.result c.loop-i.numbers.items c.insert.new.self.items (omega (arith, c.loop-i-test.true, c.len-i-end.ensures.len)) c.nth_in_order.ensures.number
    (c.insert.ensures.items ∙ ap (with_number c.nth_in_order.result) c.reserve.ensures.same) c.loop-i.invariant

pub returns : goal.returns
returns c id =
    c.loop-i.invariant id ∙ ap (list_any (λ (kept : KeptProp). kept.id == id)) (take_all c.loop-i.i c.args.props.now (omega (arith, c.loop-i-test.false, c.len-i-end.ensures.len))) ∙ sym (kept-any c.args.props.now id)

pub insert-requires : goal.insert-requires
insert-requires c = grind (arith, common_steps)
