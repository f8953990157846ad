-- The draft stands in its place among the others.
use Rattle.std.proofs.Common.{None, List, ap, ◌∙◌, arith}
use Rattle.std.proofs.lemmas.List.{map-set}
use Rattle.std.specs.Prelude.{slice_set}
use Rattle.ec_replies.specs.State.{Draft}
use Rattle.ec_sessions.specs.Drafts.{plain_draft}
use Rattle.ec_sessions.proofs.DraftLists.{AreDrafts-put}
use Rattle.ec_sessions.proofs.drafts.Drafts.close.Goals as goal

pub invariant_of-self : goal.invariant_of-self
invariant_of-self g c = AreDrafts-put g.T.Moment.rank c.self.inside.places.items c.args.session None c.self.invariant c.requires (omega arith)

pub returns : goal.returns
returns g c =
    map-set (plain_draft g.T.Moment.rank) c.self.inside.places.items c.args.session None
    ∙ ap (λ (ds : List Draft). slice_set ds c.args.session None) c.self.view_is
