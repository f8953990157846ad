-- The form goes, and with it the number from the groups of its keys.
use Rattle.std.proofs.Common.{◌&&◌, not, None, sym, ap, ◌∙◌}
use Rattle.std.specs.Prelude.{◌==◌, option_map}
use Rattle.ec_exclusive.specs.Forms.{form_in}
use Rattle.ec_exclusive.specs.Groups.{in_group, is_among}
use Rattle.ec_exclusive.proofs.Grouping.{forms_in-other, AreGrouped-less}
use Rattle.ec_exclusive.proofs.current_props.CurrentProps.leave.Goals as goal

pub invariant_of-self : goal.invariant_of-self
invariant_of-self c =
    AreGrouped-less c.self.inside.forms c.self.inside.groups c.self.invariant c.args.p c.take.new.self c.in-Some.form c.leave.new.groups
    (sym c.take.ensures.row ∙ c.in-Some.is) c.take.ensures.gone c.take.ensures.others
    (λ key n. c.leave.ensures key n ∙ ap (λ keys. not ((c.args.p.0 == n) && is_among keys key) && in_group c.self.inside.groups key n) c.as_slice.ensures.value)

pub returns-in-Some : goal.returns-in-Some
returns-in-Some c =
    forms_in-other c.self.inside.forms c.take.new.self c.args.self.now c.args.p None c.self.view_is (ap (option_map form_in) c.take.ensures.gone) c.take.ensures.others

pub returns-in_default : goal.returns-in_default
returns-in_default c =
    forms_in-other c.self.inside.forms c.take.new.self c.args.self.now c.args.p None c.self.view_is (ap (option_map form_in) c.take.ensures.gone) c.take.ensures.others
