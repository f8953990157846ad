-- As many hinted marks are of a property as new marks are.
use Rattle.std.proofs.Common.{length, filter, sym, ap, ◌∙◌}
use Rattle.std.specs.Prelude.{◌==◌}
use Rattle.std.proofs.lemmas.List.{length-map}
use Rattle.ec_lists.proofs.Filters.{filter-map}
use Rattle.ec_points.specs.Changes.{count_of}
use Rattle.ec_points.specs.declared.change.Hinted.{Hinted}
use Rattle.ec_points.proofs.change.MarkChange.count_of.Goals as goal

pub returns : goal.returns
returns g c =
    c.count_in.ensures ∙ ap (λ hinted. length (filter (λ (h : Hinted _). h.change.0.0 == c.args.p.0) hinted)) c.deref.ensures.value
    ∙ sym (length-map (filter (λ (h : Hinted _). h.change.0.0 == c.args.p.0) c.self.inside.changes.items) (λ (h : Hinted _). h.change))
    ∙ sym (ap length (filter-map (λ change. change.0.0 == c.args.p.0) (λ (h : Hinted _). h.change) c.self.inside.changes.items))
    ∙ ap (count_of c.args.p.0) c.self.view_is
