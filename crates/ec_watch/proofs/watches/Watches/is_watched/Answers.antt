-- The row of the property tells.
use Rattle.std.proofs.Common.{subst, sym, ◌∙◌, ap}
use Rattle.ec_terms.specs.Term.{ground_of}
use Rattle.ec_watch.specs.Watched.{IsFree, IsThere, has_property, watched_by}
use Rattle.ec_watch.proofs.Cuts.{has_property-at, has_property-free}
use Rattle.ec_watch.proofs.watches.Watches.is_watched.Goals as goal

pub returns-in-Ok : goal.returns-in-Ok
returns-in-Ok c =
    let there = subst (λ rows. IsThere (ground_of c.args.p.now) rows c.in-Ok.place) c.deref.ensures.value c.in-Ok.ensures.there in
    c.is_watched_by.ensures
    ∙ sym (has_property-at (ground_of c.args.p.now) c.args.session c.self.inside.rows.items c.in-Ok.place c.index.result.now there c.index.ensures)
    ∙ ap (λ rows. has_property (ground_of c.args.p.now) (watched_by c.args.session rows)) c.self.view_is

pub returns-in-Err : goal.returns-in-Err
returns-in-Err c =
    let free = subst (λ rows. IsFree (ground_of c.args.p.now) rows c.in-Err.field-0) c.deref.ensures.value c.in-Err.ensures.free in
    sym (has_property-free (ground_of c.args.p.now) c.args.session c.self.inside.rows.items c.in-Err.field-0 free)
    ∙ ap (λ rows. has_property (ground_of c.args.p.now) (watched_by c.args.session rows)) c.self.view_is
