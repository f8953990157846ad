-- Some hinted mark is of the property at the time exactly when some new mark is.
use Rattle.std.proofs.Common.{◌&&◌, sym, ap, ◌∙◌}
use Rattle.std.specs.Prelude.{◌==◌}
use Rattle.std.specs.List.{list_any}
use Rattle.std.specs.Ordering.{int_eq}
use Rattle.ec_lists.proofs.Tests.{list_any-map}
use Rattle.ec_points.specs.Changes.{has_change}
use Rattle.ec_points.specs.declared.change.Hinted.{Hinted}
use Rattle.ec_points.proofs.change.MarkChange.has.Goals as goal

pub returns : goal.returns
returns g c =
    c.is_any_of.ensures
    ∙ ap (λ hinted. list_any (λ (h : Hinted _). h.change.0.0 == c.args.p.0 && int_eq (g.T.Moment.rank h.change.1.at) (g.T.Moment.rank c.args.at)) hinted) c.deref.ensures.value
    ∙ sym (list_any-map (λ change. change.0.0 == c.args.p.0 && int_eq (g.T.Moment.rank change.1.at) (g.T.Moment.rank c.args.at)) (λ (h : Hinted _). h.change) c.self.inside.changes.items)
    ∙ ap (has_change g.T.Moment.rank c.args.p.0 (g.T.Moment.rank c.args.at)) c.self.view_is
