-- What the engine took one by one is within the limits.
use Rattle.std.proofs.Common.{◌≡◌, map, ap, subst, ◌∙◌}
use Rattle.ec_moment.specs.declared.tick.Tick.{Tick}
use Rattle.ec_axioms.specs.Events.{event_of}
use Rattle.ec_batch.specs.Build.{history_from}
use Rattle.ec_batch.specs.Limits.{IsWithinLimits}
use Rattle.ec_engine.specs.Standing.{Standing}
use Rattle.ec_caches.proofs.built.builds.Goals as goal

pub build-built-requires-clause-own : goal.build-built-requires-clause-own
build-built-requires-clause-own g c = c.requires.own

pub build-built-requires-clause-within : goal.build-built-requires-clause-within
build-built-requires-clause-within g c =
    let taken = c.assert_each.new.engine in
    let theory : taken.theory ≡ c.args.theories.1 = c.assert_each.ensures.theory ∙ ap (λ (s : Standing). s.theory) c.no_events-taken.ensures ∙ c.requires.same in
    subst (λ t. IsWithinLimits t (history_from (map (event_of (λ (t : Tick). t.0)) c.args.list.now))) theory
    (subst (λ events. IsWithinLimits taken.theory events) c.assert_each.ensures.taken c.parts.ensures.stand.within)
