-- The search finds the neighbours, and the row of the property makes it one of theirs; its form is that of its term, and it
-- stands in the groups of its keys.
use Rattle.std.proofs.Common.{◌≡◌, ◌&&◌, ◌||◌, Some, filter, sym, ap, subst, IsTrue, ◌∙◌, arith}
use Rattle.std.proofs.lemmas.Grind.{common_steps}
use Rattle.std.specs.Prelude.{◌==◌, option_map}
use Rattle.ec_lists.proofs.Results.{OnErr-anyway}
use Rattle.ec_terms.specs.declared.ids.PropId.{PropId}
use Rattle.ec_terms.specs.Term.{ground_of}
use Rattle.ec_numbered.specs.PropSet.{has_number}
use Rattle.ec_exclusive.specs.Added.{added_props}
use Rattle.ec_exclusive.specs.Forms.{form_in}
use Rattle.ec_exclusive.specs.Groups.{in_group, is_among}
use Rattle.ec_exclusive.specs.Kept.{list_at, list_with}
use Rattle.ec_exclusive.specs.Neighbours.{exclusive_at}
use Rattle.ec_exclusive.proofs.FormLemmas.{form_at-term}
use Rattle.ec_exclusive.proofs.RowLemmas.{view-same}
use Rattle.ec_exclusive.proofs.Grouped.{in_group-absent, in_group-kept, own-found, AreKept-with}
use Rattle.ec_exclusive.proofs.NewRow.{added-own, added_props-with, AreMutual-with, AreNeighbours-with}
use Rattle.ec_exclusive.proofs.neighbours.Neighbours.add.Goals as goal
use Rattle.ec_exclusive.proofs.neighbours.Neighbours.add.Goals.{After-as_slice, After-add_row}

pub find_neighbours-requires-clause-kept : goal.find_neighbours-requires-clause-kept
find_neighbours-requires-clause-kept c =
    in_group-kept c.self.inside.rows c.self.inside.forms c.self.inside.groups c.self.invariant c.args.self.now c.self.view_is c.args.theory.now c.args.props.now c.requires.neighbours

-- what is found is the neighbours
own : (c : After-as_slice) → c.in_ok-neighbours.neighbours.items ≡ filter (exclusive_at c.args.theory.now c.args.props.now c.args.p) (added_props c.args.self.now.rows)
own c =
    own-found c.self.inside.rows c.self.inside.forms c.self.inside.groups c.self.invariant c.args.self.now c.self.view_is c.args.theory.now c.args.props.now c.requires.neighbours
    (ground_of c.ground-term.result) c.args.p c.in_ok-neighbours.neighbours.items c.ground-term.ensures.term c.as_slice.ensures.order c.in_ok-neighbours.ensures

pub make_room-requires : goal.make_room-requires
make_room-requires c = λ q there.
    added-own c.args.theory.now c.args.props.now c.self.inside.rows c.self.inside.forms c.args.self.now c.args.p c.in_ok-neighbours.neighbours.items
    c.self.view_is c.requires.neighbours c.requires.absent (own (goal.at.make_room-requires c).After-as_slice) q (subst (λ ps. IsTrue (has_number q.0 ps)) c.as_slice.ensures.items there)

pub enter-requires : goal.enter-requires
enter-requires c = in_group-absent c.self.inside.rows c.self.inside.forms c.self.inside.groups c.self.invariant c.args.self.now c.self.view_is c.args.p c.requires.absent

-- the lists once the property has its row
with_own : (c : After-add_row) (q : PropId) → list_at q c.add_row.new.rows ≡ list_with c.args.p c.in_ok-neighbours.neighbours.items q (list_at q c.self.inside.rows)
with_own c q = c.add_row.ensures q ∙ ap (list_with c.args.p c.in_ok-neighbours.neighbours.items q) (c.in_ok-make_room.ensures.lists q)

pub returns-in_err-place-clause-err : goal.returns-in_err-place-clause-err
returns-in_err-place-clause-err c =
    OnErr-anyway c.from_residual-in_err-place.result
    (view-same c.self.inside.rows c.make_room.new.rows c.self.inside.forms c.place.new.self c.in_ok-make_room.ensures.same c.place.ensures.same ∙ c.self.view_is)

pub returns-in_err-form-clause-err : goal.returns-in_err-form-clause-err
returns-in_err-form-clause-err c =
    OnErr-anyway c.from_residual-in_err-form.result
    (view-same c.self.inside.rows c.make_room.new.rows c.self.inside.forms c.place.new.self c.in_ok-make_room.ensures.same c.place.ensures.same ∙ c.self.view_is)

pub returns-in_err-enter-clause-err : goal.returns-in_err-enter-clause-err
returns-in_err-enter-clause-err c =
    OnErr-anyway c.from_residual-in_err-enter.result
    (view-same c.self.inside.rows c.make_room.new.rows c.self.inside.forms c.place.new.self c.in_ok-make_room.ensures.same c.place.ensures.same ∙ c.self.view_is)

pub returns-clause-added : goal.returns-clause-added
returns-clause-added c =
    added_props-with c.args.theory.now c.args.props.now c.self.inside.rows c.self.inside.forms c.args.self.now c.args.p c.in_ok-neighbours.neighbours.items
    c.self.view_is c.requires.neighbours c.requires.absent (own (goal.at.returns-clause-added c).After-as_slice) c.add_row.new.rows (with_own (goal.at.returns-clause-added c).After-add_row)

pub returns-clause-neighbours : goal.returns-clause-neighbours
returns-clause-neighbours c =
    AreNeighbours-with c.args.theory.now c.args.props.now c.self.inside.rows c.self.inside.forms c.args.self.now c.args.p c.in_ok-neighbours.neighbours.items
    c.self.view_is c.requires.neighbours c.requires.absent (own (goal.at.returns-clause-neighbours c).After-as_slice) c.add_row.new.rows (with_own (goal.at.returns-clause-neighbours c).After-add_row)
    c.requires.kept c.set.new.self
    (ap (λ o. option_map form_in o) c.set.ensures.row ∙ ap Some c.in_ok-form.ensures ∙ sym (form_at-term c.args.theory.now c.args.props.now c.args.p _ c.ground-term.ensures.term))
    (λ n other. c.set.ensures.others n other ∙ c.place.ensures.same n)

pub invariant_of-self-2 : goal.invariant_of-self-2
invariant_of-self-2 c =
    AreKept-with c.self.inside.rows c.self.inside.forms c.self.inside.groups c.self.invariant c.args.p c.in_ok-neighbours.neighbours.items c.add_row.new.rows c.set.new.self c.in_ok-form.form
    c.enter.new.groups
    (AreMutual-with c.args.theory.now c.args.props.now c.self.inside.rows c.self.inside.forms c.args.self.now c.args.p c.in_ok-neighbours.neighbours.items
    c.self.view_is c.requires.neighbours c.requires.absent (own (goal.at.invariant_of-self-2 c).After-as_slice) c.add_row.new.rows (with_own (goal.at.invariant_of-self-2 c).After-add_row))
    (in_group-absent c.self.inside.rows c.self.inside.forms c.self.inside.groups c.self.invariant c.args.self.now c.self.view_is c.args.p c.requires.absent)
    (with_own (goal.at.invariant_of-self-2 c).After-add_row) c.set.ensures.row (λ n other. c.set.ensures.others n other ∙ c.place.ensures.same n)
    (λ key n. c.in_ok-enter.ensures.ok key n ∙ ap (λ keys. ((c.args.p.0 == n) && is_among keys key) || in_group c.self.inside.groups key n) c.as_slice-2.ensures.value)

pub add_row-requires-clause-place : goal.add_row-requires-clause-place
add_row-requires-clause-place c = grind (arith, common_steps)

pub same-neighbours : goal.same-neighbours
same-neighbours c = grind (arith, common_steps)

pub add_row-requires-clause-room : goal.add_row-requires-clause-room
add_row-requires-clause-room c = grind (arith, common_steps)
