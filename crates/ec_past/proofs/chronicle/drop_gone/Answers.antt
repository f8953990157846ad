-- What is still kept stays.
use Rattle.std.specs.Global.{Box}
use Rattle.std.proofs.Common.{sym, ap, ◌∙◌, arith}
use Rattle.ec_past.specs.Chronicles.{kept_view}
use Rattle.ec_past.specs.Viewing.{PlainView}
use Rattle.ec_past.proofs.Kept.{kept_view-kept}
use Rattle.ec_past.proofs.chronicle.drop_gone.Goals as goal

pub returns-else-at-first : goal.returns-else-at-first
returns-else-at-first g c =
    let at = λ (v : Box PlainView). v.value.at in
    let read = c.at.ensures ∙ ap (λ (v : PlainView). v.at) c.deref.ensures in
    c.in-Some.is ∙ sym (ap (kept_view at c.args.first) c.in-Some.is ∙ kept_view-kept at c.args.first c.in-Some.view (omega (arith, read, c.if-at-first.false)))
