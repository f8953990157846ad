-- The row of an added property is there.
use Rattle.std.proofs.Common.{Some, sym, ap, ◌∙◌, is_some}
use Rattle.std.proofs.lemmas.Bool.{false≢true}
use Rattle.ec_numbered.specs.PropSet.{are_ascending}
use Rattle.ec_exclusive.specs.Neighbours.{Neighbourhoods}
use Rattle.ec_exclusive.proofs.RowLemmas.{is_some-row, neighbours_of-row, neighbours-exclusive, neighbours-kept}
use Rattle.ec_exclusive.proofs.neighbours.Neighbours.of.Goals as goal

pub unreachable-requires : goal.unreachable-requires
unreachable-requires c =
    false≢true (ap is_some c.in-None.ensures ∙ is_some-row c.self.inside.rows c.args.self.now.rows c.args.p (ap (λ (v : Neighbourhoods). v.rows) c.self.view_is) ∙ c.requires)

pub returns-clause-list : goal.returns-clause-list
returns-clause-list c =
    neighbours_of-row c.self.inside.rows c.args.self.now.rows c.args.p c.in-Some.row.now (ap (λ (v : Neighbourhoods). v.rows) c.self.view_is) (sym c.in-Some.ensures)
    ∙ sym (ap Some c.as_slice.ensures.items)

pub returns-clause-order : goal.returns-clause-order
returns-clause-order c = ap are_ascending c.as_slice.ensures.items ∙ c.as_slice.ensures.order

pub returns-clause-exclusive : goal.returns-clause-exclusive
returns-clause-exclusive c = λ theory table are. neighbours-exclusive theory table c.args.self.now c.args.p c.as_slice.result.now are (returns-clause-list c)

pub returns-clause-kept : goal.returns-clause-kept
returns-clause-kept c = λ theory table are. neighbours-kept theory table c.args.self.now c.args.p c.as_slice.result.now are (returns-clause-list c)
