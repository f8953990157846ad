-- Dependents are taken in one by one, but for those of events that are to be taken out.
use Rattle.std.proofs.Common.{length, refl, sym, ap, subst, ◌∙◌, arith}
use Rattle.std.proofs.lemmas.Grind.{common_steps}
use Rattle.std.specs.Prelude.{option_map}
use Rattle.std.specs.List.{IsDistinct}
use Rattle.std.proofs.lemmas.Option.{slice_get_read}
use Rattle.ec_entries.specs.declared.event_entries.Dependent.{Dependent}
use Rattle.ec_sweep.specs.Hits.{has_hit, same_hit}
use Rattle.ec_sweep.proofs.Gathering.{gather_in, gather_over}
use Rattle.ec_sweep.proofs.hits.gather_run.Goals as goal
use Rattle.ec_sweep.proofs.hits.gather_run.Goals.{then-not-is_removed+in_ok-note, else-not-is_removed}

pub loop-dependent-preserved : goal.loop-dependent-preserved
loop-dependent-preserved g c =
    let nth =
    sym (ap (option_map (λ (d : Dependent g.row.T.Denot). (d.slot, d.place)))
    (slice_get_read c.args.run.now (length c.args.run.now) c.loop-dependent.dependent-index c.dependent-item.result refl c.loop-dependent-test.true c.dependent-item.is)) in
    elim c.if-not-is_removed.branch [
      | then-not-is_removed+in_ok-note w ↦ record {
        hit = λ slot place.
            ap (has_hit slot place) w.hits-is
            ∙ gather_in c.args.removals.now c.args.run.now c.loop-dependent.dependent-index c.dependent-item.result.slot c.dependent-item.result.place
            nth c.args.hits.now c.loop-dependent.hits c.loop-dependent.invariant.hit w.note.new.self
            (sym c.is_removed.ensures ∙ w.if-not-is_removed.true) w.in_ok-note.ensures.noted slot place;
        once = λ before. subst (IsDistinct same_hit) (sym w.hits-is) w.in_ok-note.ensures.once;
      }
      | else-not-is_removed w ↦ record {
        hit = λ slot place.
            ap (has_hit slot place) w.hits-is
            ∙ gather_over c.args.removals.now c.args.run.now c.loop-dependent.dependent-index c.dependent-item.result.slot c.dependent-item.result.place
            nth c.args.hits.now c.loop-dependent.hits c.loop-dependent.invariant.hit (sym c.is_removed.ensures ∙ w.if-not-is_removed.false) slot place;
        once = λ before. subst (IsDistinct same_hit) (sym w.hits-is) (c.loop-dependent.invariant.once before);
      }
    ]

pub returns-clause-hits : goal.returns-clause-hits
returns-clause-hits c = grind (arith, common_steps)
