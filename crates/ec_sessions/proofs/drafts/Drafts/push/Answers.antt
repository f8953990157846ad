-- The update stands behind those that the draft held.
use Rattle.std.proofs.Common.{Some, List, sym, ap, ◌∙◌, subst}
use Rattle.std.specs.Prelude.{◌++◌, ◌∷◌, [], slice_set}
use Rattle.ec_axioms.specs.Events.{plain_update}
use Rattle.ec_replies.specs.State.{Draft}
use Rattle.ec_sessions.specs.Drafts.{IsOpenWithRoom, draft_in}
use Rattle.ec_sessions.proofs.DraftLists.{pushed-few, shown-pushed}
use Rattle.ec_sessions.proofs.drafts.Drafts.push.Goals as goal

pub invariant_of-self-2 : goal.invariant_of-self-2
invariant_of-self-2 g c =
    pushed-few g.T.Moment.rank c.self.inside.places.items c.args.session c.index_mut.result.now c.in-Some.held c.push.new.self c.args.update
    c.self.invariant c.requires.session c.index_mut.ensures.value c.in-Some.is c.in_ok-push-in-Some.ensures.ok
    (subst (λ (ds : List Draft). IsOpenWithRoom (draft_in ds c.args.session)) (sym c.self.view_is) c.requires.room)

pub returns-clause-ok : goal.returns-clause-ok
returns-clause-ok g c = λ held opened.
    let pushed = shown-pushed g.T.Moment.rank c.self.inside.places.items c.args.session c.index_mut.result.now c.in-Some.held c.push.new.self c.args.update held
    c.self.invariant c.requires.session c.index_mut.ensures.value c.in-Some.is c.in_ok-push-in-Some.ensures.ok (ap (λ (ds : List Draft). draft_in ds c.args.session) c.self.view_is ∙ opened) in (
      pushed.0 ∙ ap (λ (ds : List Draft). slice_set ds c.args.session (Some (held ++ plain_update g.T.Moment.rank c.args.update ∷ []))) c.self.view_is,
      c.len.ensures ∙ pushed.1,
    )
