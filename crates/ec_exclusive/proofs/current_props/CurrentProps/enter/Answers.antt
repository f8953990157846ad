-- The form that is kept is that of the property's term, and the number stands in the groups of its keys.
use Rattle.std.proofs.Common.{◌&&◌, ◌||◌, Some, is_some, sym, ap, ◌∙◌}
use Rattle.std.specs.Prelude.{◌==◌, option_map}
use Rattle.ec_lists.proofs.Results.{OnErr-anyway}
use Rattle.ec_numbered.specs.ByNumber.{kept_at}
use Rattle.ec_exclusive.specs.Forms.{form_in}
use Rattle.ec_exclusive.specs.Groups.{in_group, is_among}
use Rattle.ec_exclusive.proofs.FormLemmas.{form_at-term}
use Rattle.ec_exclusive.proofs.Grouping.{kept_at-forms_in, forms_in-same, forms_in-other, in_group-formless, AreGrouped-with}
use Rattle.ec_exclusive.proofs.current_props.CurrentProps.enter.Goals as goal

pub returns-in_err-place-clause-err : goal.returns-in_err-place-clause-err
returns-in_err-place-clause-err c =
    OnErr-anyway c.from_residual.result (forms_in-same c.self.inside.forms c.place.new.self c.args.self.now c.self.view_is c.place.ensures.same)

pub returns-in_err-form-clause-err : goal.returns-in_err-form-clause-err
returns-in_err-form-clause-err c =
    OnErr-anyway c.from_residual-in_err-form.result (forms_in-same c.self.inside.forms c.place.new.self c.args.self.now c.self.view_is c.place.ensures.same)

pub returns-in_err-enter-clause-err : goal.returns-in_err-enter-clause-err
returns-in_err-enter-clause-err c =
    OnErr-anyway c.from_residual-in_err-enter.result (forms_in-same c.self.inside.forms c.place.new.self c.args.self.now c.self.view_is c.place.ensures.same)

pub enter-requires : goal.enter-requires
enter-requires c =
    in_group-formless c.self.inside.forms c.self.inside.groups c.self.invariant c.args.p.0
    (ap is_some (sym (kept_at-forms_in c.args.p.0 c.self.inside.forms) ∙ ap (kept_at c.args.p.0) c.self.view_is) ∙ c.requires.absent)

pub invariant_of-self-2 : goal.invariant_of-self-2
invariant_of-self-2 c =
    AreGrouped-with c.self.inside.forms c.self.inside.groups c.self.invariant c.args.p c.set.new.self c.in_ok-form.form c.enter.new.groups
    (in_group-formless c.self.inside.forms c.self.inside.groups c.self.invariant c.args.p.0
    (ap is_some (sym (kept_at-forms_in c.args.p.0 c.self.inside.forms) ∙ ap (kept_at c.args.p.0) c.self.view_is) ∙ c.requires.absent))
    c.set.ensures.row (λ n other. c.set.ensures.others n other ∙ c.place.ensures.same n)
    (λ key n. c.in_ok-enter.ensures.ok key n ∙ ap (λ keys. ((c.args.p.0 == n) && is_among keys key) || in_group c.self.inside.groups key n) c.as_slice.ensures.value)

pub returns-clause-entered : goal.returns-clause-entered
returns-clause-entered c =
    forms_in-other c.self.inside.forms c.set.new.self c.args.self.now c.args.p _ c.self.view_is
    (ap (λ o. option_map form_in o) c.set.ensures.row ∙ ap Some c.in_ok-form.ensures ∙ sym (form_at-term c.args.theory.now c.args.props.now c.args.p _ c.ground-term.ensures.term))
    (λ n other. c.set.ensures.others n other ∙ c.place.ensures.same n)
