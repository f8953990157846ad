-- The property goes from the lists of all that have it, and from the groups of its keys.
use Rattle.std.proofs.Common.{◌≡◌, ◌&&◌, not, true, sym, ap, ◌∙◌, is_some}
use Rattle.std.specs.Prelude.{◌==◌}
use Rattle.std.proofs.lemmas.Bool.{false≢true}
use Rattle.ec_lists.proofs.Options.{Some-from_is_some}
use Rattle.ec_exclusive.specs.Groups.{in_group, is_among}
use Rattle.ec_exclusive.specs.Kept.{list_at}
use Rattle.ec_exclusive.specs.Neighbours.{Neighbourhoods}
use Rattle.ec_exclusive.proofs.RowLemmas.{not_itself, is_some-rows, rows-left, AreMutual-left, AreNeighbours-left}
use Rattle.ec_exclusive.proofs.Grouped.{form_kept-there, AreKept-less}
use Rattle.ec_exclusive.proofs.neighbours.Neighbours.drop_prop.Goals as goal
use Rattle.ec_exclusive.proofs.neighbours.Neighbours.drop_prop.Goals.{After-take}

pub remove_row-requires : goal.remove_row-requires
remove_row-requires c = not_itself c.self.inside.rows c.args.p c.self.invariant.lists

pub returns-in-Some-clause-rows : goal.returns-in-Some-clause-rows
returns-in-Some-clause-rows c =
    rows-left c.self.inside.rows c.args.p c.self.invariant.lists c.remove_row.new.rows c.args.self.now.rows (ap (λ (v : Neighbourhoods). v.rows) c.self.view_is) c.requires
    c.remove_row.ensures.len c.remove_row.ensures.lists

pub returns-in-Some-clause-neighbours : goal.returns-in-Some-clause-neighbours
returns-in-Some-clause-neighbours c = λ theory table are.
    AreNeighbours-left c.self.inside.rows c.remove_row.new.rows c.self.inside.forms c.take.new.self c.args.self.now c.args.p theory table c.self.view_is (returns-in-Some-clause-rows c)
    c.take.ensures.others are

-- the property has a form
has_form : (c : After-take) → is_some c.take.result ≡ true
has_form c = ap is_some c.take.ensures.row ∙ form_kept-there c.self.inside.rows c.self.inside.forms c.self.inside.groups c.self.invariant c.args.self.now c.self.view_is c.args.p ∙ c.requires

pub returns-in_default-clause-rows : goal.returns-in_default-clause-rows
returns-in_default-clause-rows c =
    rows-left c.self.inside.rows c.args.p c.self.invariant.lists c.remove_row.new.rows c.args.self.now.rows (ap (λ (v : Neighbourhoods). v.rows) c.self.view_is) c.requires
    c.remove_row.ensures.len c.remove_row.ensures.lists

pub returns-in_default-clause-neighbours : goal.returns-in_default-clause-neighbours
returns-in_default-clause-neighbours c = λ theory table are.
    AreNeighbours-left c.self.inside.rows c.remove_row.new.rows c.self.inside.forms c.take.new.self c.args.self.now c.args.p theory table c.self.view_is (returns-in_default-clause-rows c)
    c.take.ensures.others are

pub invariant_of-self-in_default : goal.invariant_of-self-in_default
invariant_of-self-in_default c = absurd (false≢true (sym (ap is_some c.in_default.is) ∙ has_form (goal.at.invariant_of-self-in_default c).After-take))

pub invariant_of-self : goal.invariant_of-self
invariant_of-self c =
    let own = Some-from_is_some (list_at c.args.p c.self.inside.rows) (is_some-rows c.self.inside.rows c.args.self.now.rows c.args.p (ap (λ (v : Neighbourhoods). v.rows) c.self.view_is) ∙ c.requires) in
    AreKept-less c.self.inside.rows c.self.inside.forms c.self.inside.groups c.self.invariant c.args.p own.0 c.remove_row.new.rows c.take.new.self c.in-Some.form c.leave.new.groups
    (AreMutual-left c.self.inside.rows c.args.p c.self.invariant.lists c.remove_row.new.rows c.args.self.now.rows (ap (λ (v : Neighbourhoods). v.rows) c.self.view_is) c.requires
    c.remove_row.ensures.len c.remove_row.ensures.lists)
    (c.remove_row.ensures.lists own.0 own.1) (sym c.take.ensures.row ∙ c.in-Some.is) c.take.ensures.gone c.take.ensures.others
    (λ key n. c.leave.ensures key n ∙ ap (λ keys. not ((c.args.p.0 == n) && is_among keys key) && in_group c.self.inside.groups key n) c.as_slice.ensures.value)
