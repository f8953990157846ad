-- The row of the property is joined or comes in.
use Rattle.std.proofs.Common.{subst, OnOk, IfErr}
use Rattle.ec_terms.specs.Term.{ground_of}
use Rattle.ec_watch.specs.Watched.{HasWatched, IsRefusedWatch, IsThere, watched_by}
use Rattle.ec_watch.proofs.Lists.{refused_of, told_of}
use Rattle.ec_watch.proofs.watches.Watches.watch.Goals as goal

-- the row that was found is the property's
there : (c : goal.After-join) → IsThere (ground_of c.args.p.now) c.self.inside.rows.items c.in-Ok.place
there c = subst (λ rows. IsThere (ground_of c.args.p.now) rows c.in-Ok.place) c.deref.ensures.value c.in-Ok.ensures.there

pub returns-in-Ok-clause-ok : goal.returns-in-Ok-clause-ok
returns-in-Ok-clause-ok c =
    subst (λ old. OnOk c.join.result (HasWatched (ground_of c.args.p.now) c.args.session old c.join.new.rows.items)) c.self.view_is
    (told_of c.join.result (λ q. IsThere q c.self.inside.rows.items c.in-Ok.place) (λ q. HasWatched q c.args.session c.self.inside.rows.items c.join.new.rows.items)
    (ground_of c.args.p.now) (there c) c.join.ensures.ok)

pub returns-in-Ok-clause-refused : goal.returns-in-Ok-clause-refused
returns-in-Ok-clause-refused c =
    subst (λ old. IfErr c.join.result (λ refusal. IsRefusedWatch refusal (ground_of c.args.p.now) (watched_by c.args.session old))) c.self.view_is
    (refused_of c.join.result (λ q. IsThere q c.self.inside.rows.items c.in-Ok.place) (λ refusal q. IsRefusedWatch refusal q (watched_by c.args.session c.self.inside.rows.items))
    (ground_of c.args.p.now) (there c) c.join.ensures.refused)

pub returns-in-Err-clause-ok : goal.returns-in-Err-clause-ok
returns-in-Err-clause-ok c =
    subst (λ old. OnOk c.enter.result (HasWatched (ground_of c.args.p.now) c.args.session old c.enter.new.rows.items)) c.self.view_is c.enter.ensures.ok

pub returns-in-Err-clause-refused : goal.returns-in-Err-clause-refused
returns-in-Err-clause-refused c =
    subst (λ old. IfErr c.enter.result (λ refusal. IsRefusedWatch refusal (ground_of c.args.p.now) (watched_by c.args.session old))) c.self.view_is c.enter.ensures.refused
