-- The draft stands in its place among the others.
use Rattle.std.proofs.Common.{[], Some, List, map, ap, sym, ◌∙◌, ◌≤◌, subst, arith}
use Rattle.std.proofs.lemmas.List.{map-set}
use Rattle.std.specs.Prelude.{slice_set}
use Rattle.ec_commands.specs.declared.limits.TheConstants.{MOST_DRAFTED}
use Rattle.ec_axioms.specs.declared.event.Update.{Update}
use Rattle.ec_replies.specs.State.{Draft}
use Rattle.ec_replies.specs.RunLaws.{held_count}
use Rattle.ec_sessions.specs.Drafts.{plain_draft}
use Rattle.ec_axioms.specs.Events.{plain_update}
use Rattle.ec_sessions.proofs.DraftLists.{AreDrafts-put}
use Rattle.ec_sessions.proofs.drafts.Drafts.open.Goals as goal

pub invariant_of-self : goal.invariant_of-self
invariant_of-self g c = AreDrafts-put g.T.Moment.rank c.self.inside.places.items c.args.session (Some c.new.result) c.self.invariant c.requires
    (subst (λ (us : List (Update g.row.T.Denot)). held_count (plain_draft g.T.Moment.rank (Some us)) ≤ MOST_DRAFTED) (sym c.new.ensures) (omega arith))

pub returns : goal.returns
returns g c =
    map-set (plain_draft g.T.Moment.rank) c.self.inside.places.items c.args.session (Some c.new.result)
    ∙ ap (λ us. slice_set (map (plain_draft g.T.Moment.rank) c.self.inside.places.items) c.args.session (Some (map (plain_update g.T.Moment.rank) us))) c.new.ensures
    ∙ ap (λ (ds : List Draft). slice_set ds c.args.session (Some [])) c.self.view_is
