-- Where the property would have its row none is its own, so no session watches it.
use Rattle.std.proofs.Common.{subst, ◌∙◌, ap, sym}
use Rattle.ec_terms.specs.Term.{ground_of}
use Rattle.ec_watch.specs.Watched.{IsFree, has_property, watched_by}
use Rattle.ec_watch.proofs.Cuts.{has_property-free}
use Rattle.ec_watch.proofs.watches.Watches.find.Goals as goal

pub returns-in-Err-clause-unwatched : goal.returns-in-Err-clause-unwatched
returns-in-Err-clause-unwatched c =
    let free = subst (λ rows. IsFree (ground_of c.args.p.now) rows c.in-Err.field-0) c.deref.ensures.value c.in-Err.ensures.free in
    λ session. sym (ap (λ rows. has_property (ground_of c.args.p.now) (watched_by session rows)) c.self.view_is) ∙ has_property-free (ground_of c.args.p.now) session c.self.inside.rows.items c.in-Err.field-0 free
