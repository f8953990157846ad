-- The row of the property is left, or there is none.
use Rattle.std.proofs.Common.{subst, sym, ◌∙◌, ap}
use Rattle.ec_terms.specs.Term.{ground_of}
use Rattle.ec_watch.specs.Watched.{HasUnwatched, IsFree, IsThere, has_property, watched_by}
use Rattle.ec_watch.proofs.Cuts.{has_property-free}
use Rattle.ec_watch.proofs.Lists.{told_watched}
use Rattle.ec_watch.proofs.watches.Watches.unwatch.Goals as goal

-- the row that was found is the property's
there : (c : goal.After-leave) → IsThere (ground_of c.args.p.now) c.self.inside.rows.items c.in-Ok.place
there c = subst (λ rows. IsThere (ground_of c.args.p.now) rows c.in-Ok.place) c.deref.ensures.value c.in-Ok.ensures.there

pub returns-in-Ok-clause-watched : goal.returns-in-Ok-clause-watched
returns-in-Ok-clause-watched c =
    told_watched c.leave.result (ground_of c.args.p.now) c.args.session c.self.inside.rows.items c.leave.new.rows.items
    (λ is. c.leave.ensures.left is (ground_of c.args.p.now) (there c)) (λ is. c.leave.ensures.unwatched is (ground_of c.args.p.now) (there c))
    ∙ ap (λ rows. has_property (ground_of c.args.p.now) (watched_by c.args.session rows)) c.self.view_is

pub returns-in-Ok-clause-left : goal.returns-in-Ok-clause-left
returns-in-Ok-clause-left c = λ is.
    subst (λ old. HasUnwatched (ground_of c.args.p.now) c.args.session old c.leave.new.rows.items) c.self.view_is (c.leave.ensures.left is (ground_of c.args.p.now) (there c))

pub returns-in-Err-clause-watched : goal.returns-in-Err-clause-watched
returns-in-Err-clause-watched c =
    let free = subst (λ rows. IsFree (ground_of c.args.p.now) rows c.in-Err.field-0) c.deref.ensures.value c.in-Err.ensures.free in
    sym (has_property-free (ground_of c.args.p.now) c.args.session c.self.inside.rows.items c.in-Err.field-0 free)
    ∙ ap (λ rows. has_property (ground_of c.args.p.now) (watched_by c.args.session rows)) c.self.view_is
