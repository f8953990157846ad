-- The new change is of another property or time than each before.
use Rattle.std.proofs.Common.{◌&&◌, IsTrue, [], ◌∷◌, map, subst, sym, ap, ◌∙◌, arith}
use Rattle.std.proofs.lemmas.Grind.{common_steps}
use Rattle.std.specs.Prelude.{◌==◌}
use Rattle.std.specs.Ordering.{int_eq}
use Rattle.std.proofs.lemmas.List.{map-append}
use Rattle.ec_lists.proofs.Tests.{list_all-none}
use Rattle.ec_rows.proofs.OrderedLemmas.{is_ascending-append_one}
use Rattle.ec_points.specs.Changes.{are_apart, are_all_apart, has_change}
use Rattle.ec_points.specs.declared.change.Hinted.{Hinted}
use Rattle.ec_points.proofs.change.MarkChange.push.Goals as goal

pub invariant_of-self-2 : goal.invariant_of-self-2
invariant_of-self-2 g c =
    subst (λ changes. IsTrue (are_all_apart g.T.Moment.rank changes))
    (sym (ap (map (λ (hinted : Hinted _). hinted.change)) c.in_ok-push.ensures.items
    ∙ map-append (λ (hinted : Hinted _). hinted.change) c.self.inside.changes.items (record { change = (c.args.p, c.args.mark); near = c.args.near } ∷ [])))
    (is_ascending-append_one (are_apart g.T.Moment.rank) (map (λ hinted. hinted.change) c.self.inside.changes.items) (c.args.p, c.args.mark) c.self.invariant
    (list_all-none (λ change. change.0.0 == c.args.p.0 && int_eq (g.T.Moment.rank change.1.at) (g.T.Moment.rank c.args.mark.at)) (map (λ hinted. hinted.change) c.self.inside.changes.items)
    (ap (has_change g.T.Moment.rank c.args.p.0 (g.T.Moment.rank c.args.mark.at)) c.self.view_is ∙ c.requires)))

pub returns-clause-ok : goal.returns-clause-ok
returns-clause-ok c = grind (arith, common_steps)
