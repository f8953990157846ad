-- The form that is kept is that of the property's term.
use Rattle.std.proofs.Common.{Some, not, length, sym, ap, ◌||◌, ◌∙◌, is_some}
use Rattle.std.specs.Prelude.{◌==◌, option_map}
use Rattle.std.proofs.lemmas.Bool.{false≢true}
use Rattle.ec_exclusive.specs.Forms.{form_in}
use Rattle.ec_exclusive.proofs.FormLemmas.{breaks_by_initiation-read}
use Rattle.ec_exclusive.proofs.RowLemmas.{form-added}
use Rattle.ec_exclusive.proofs.Grouped.{form_kept-there}
use Rattle.ec_exclusive.proofs.neighbours.Neighbours.breaks_by_initiation.Goals as goal

pub returns-then-form : goal.returns-then-form
returns-then-form c = λ theory table are.
    breaks_by_initiation-read theory table c.args.p c.in-Some.form.now
    (sym (form-added c.self.inside.rows c.self.inside.forms c.args.self.now c.args.p theory table c.self.view_is are c.requires) ∙ ap (option_map form_in) (sym c.in-Some.ensures))
    ∙ ap (λ b. Some (b || not (length c.in-Some.form.now.keys.items == 0))) c.if-form.true ∙ ap Some (sym c.if-form.true)

pub returns-else-form : goal.returns-else-form
returns-else-form c = λ theory table are.
    breaks_by_initiation-read theory table c.args.p c.in-Some.form.now
    (sym (form-added c.self.inside.rows c.self.inside.forms c.args.self.now c.args.p theory table c.self.view_is are c.requires) ∙ ap (option_map form_in) (sym c.in-Some.ensures))
    ∙ ap (λ b. Some (b || not (length c.in-Some.form.now.keys.items == 0))) c.if-form.false
    ∙ ap (λ b. Some (not b)) (ap (λ keys. length keys == 0) (sym c.as_slice.ensures.value) ∙ sym c.is_empty.ensures)

pub unreachable-requires : goal.unreachable-requires
unreachable-requires c =
    false≢true (ap is_some c.in-None.ensures ∙ form_kept-there c.self.inside.rows c.self.inside.forms c.self.inside.groups c.self.invariant c.args.self.now c.self.view_is c.args.p ∙ c.requires)
