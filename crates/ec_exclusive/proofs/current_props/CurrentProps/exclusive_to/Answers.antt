-- What stands in the groups is kept, and what is found there are the members that are exclusive to the property.
use Rattle.std.proofs.Common.{◌&&◌, is_some, sym, ap, subst, ◌∙◌}
use Rattle.std.proofs.lemmas.Result.{IfOk-weaker}
use Rattle.ec_terms.specs.Term.{ground_of}
use Rattle.ec_numbered.specs.ByNumber.{kept_at}
use Rattle.ec_exclusive.specs.CurrentProps.{HasForms}
use Rattle.ec_exclusive.specs.Neighbours.{exclusive_at}
use Rattle.ec_exclusive.proofs.Grouping.{kept_at-forms_in, in_group-known, exclusive-found}
use Rattle.ec_exclusive.proofs.current_props.CurrentProps.exclusive_to.Goals as goal

pub find_neighbours-requires-clause-kept : goal.find_neighbours-requires-clause-kept
find_neighbours-requires-clause-kept c =
    in_group-known c.self.inside.forms c.self.inside.groups c.self.invariant c.args.theory.now c.args.props.now
    (subst (HasForms c.args.theory.now c.args.props.now) (sym c.self.view_is) c.requires.forms)

pub returns : goal.returns
returns c =
    IfOk-weaker c.find_neighbours.result _ _
    (λ found members q. members q
    ∙ exclusive-found c.self.inside.forms c.self.inside.groups c.self.invariant c.args.theory.now c.args.props.now
    (subst (HasForms c.args.theory.now c.args.props.now) (sym c.self.view_is) c.requires.forms) (ground_of c.ground.result) c.args.p q c.ground.ensures.term
    ∙ ap (λ o. exclusive_at c.args.theory.now c.args.props.now c.args.p q && is_some o) (sym (kept_at-forms_in q.0 c.self.inside.forms) ∙ ap (kept_at q.0) c.self.view_is))
    c.find_neighbours.ensures
