-- Dependents are taken in one by one, but for those of events that are to be taken out.
use Rattle.std.proofs.Common.{◌&&◌, ◌||◌, not, sym, ap, subst, ◌∙◌, arith}
use Rattle.std.proofs.lemmas.Grind.{common_steps}
use Rattle.std.specs.List.{IsDistinct, list_any}
use Rattle.ec_entries.specs.Dependents.{dependents_at, dependents_of, is_from}
use Rattle.ec_revise.specs.Change.{has_slot}
use Rattle.ec_sweep.specs.Hits.{has_hit, same_hit}
use Rattle.ec_sweep.proofs.Gathering.{depends_at-any, gather_in, gather_over, taken_all}
use Rattle.ec_sweep.proofs.hits.gather_each.Goals as goal
use Rattle.ec_sweep.proofs.hits.gather_each.Goals.{then-not-is_removed+in_ok-note, else-not-is_removed}

pub returns-in_default-clause-hits : goal.returns-in_default-clause-hits
returns-in_default-clause-hits g c = λ slot place.
    c.each.invariant.hit slot place
    ∙ ap (λ ds. has_hit slot place c.args.hits.now || (not (has_slot (record { 0 = slot }) c.args.removals.now) && list_any (is_from slot place) ds))
    (taken_all (dependents_at g.T.Moment.rank (g.T.Moment.rank c.args.at) (dependents_of c.args.p.0 c.args.entries.now.rows)) c.each.k c.in_default.ensures.nth)
    ∙ ap (λ b. has_hit slot place c.args.hits.now || (not (has_slot (record { 0 = slot }) c.args.removals.now) && b))
    (depends_at-any g.T.Moment.rank c.args.p.0 c.args.entries.now.slots (dependents_of c.args.p.0 c.args.entries.now.rows) c.in_default.ensures.dependents (g.T.Moment.rank c.args.at) slot place)

pub each-preserved : goal.each-preserved
each-preserved g c =
    elim c.if-not-is_removed.branch [
      | then-not-is_removed+in_ok-note w ↦ record {
        hit = λ slot place.
            ap (has_hit slot place) w.hits-is
            ∙ gather_in c.args.removals.now (dependents_at g.T.Moment.rank (g.T.Moment.rank c.args.at) (dependents_of c.args.p.0 c.args.entries.now.rows)) c.each.k c.in-Some.slot c.in-Some.place
            c.in-Some.ensures.nth c.args.hits.now c.each.hits c.each.invariant.hit w.note.new.self
            (sym c.is_removed.ensures ∙ w.if-not-is_removed.true) w.in_ok-note.ensures.noted slot place;
        once = λ before. subst (IsDistinct same_hit) (sym w.hits-is) w.in_ok-note.ensures.once;
      }
      | else-not-is_removed w ↦ record {
        hit = λ slot place.
            ap (has_hit slot place) w.hits-is
            ∙ gather_over c.args.removals.now (dependents_at g.T.Moment.rank (g.T.Moment.rank c.args.at) (dependents_of c.args.p.0 c.args.entries.now.rows)) c.each.k c.in-Some.slot c.in-Some.place
            c.in-Some.ensures.nth c.args.hits.now c.each.hits c.each.invariant.hit (sym c.is_removed.ensures ∙ w.if-not-is_removed.false) slot place;
        once = λ before. subst (IsDistinct same_hit) (sym w.hits-is) (c.each.invariant.once before);
      }
    ]

pub each-init : goal.each-init
each-init c = grind (arith, common_steps)
