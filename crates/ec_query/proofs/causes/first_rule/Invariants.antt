-- No effect before this place is what is sought and active.
use Rattle.std.proofs.Common.{◌≡◌, false, List, take}
use Rattle.std.specs.List.{list_any}
use Rattle.ec_terms.specs.declared.ground.Ground.{Ground}
use Rattle.ec_axioms.specs.Calculus.{Effect, PlainEvent}
use Rattle.ec_parts.specs.StandFor.{view_of}
use Rattle.ec_query.specs.Sought.{AreEffects, is_cause, is_sought}
use Rattle.ec_query.specs.Standing.{AreOn}
use Rattle.ec_query.proofs.causes.first_rule.Given as goal

abbrev pub invariant-loop-k : goal.invariant-loop-k
invariant-loop-k g l =
    (events : List PlainEvent) (p : Ground) (effects : List Effect) → AreOn g.T.Moment.rank l.parts.checked events (view_of l.parts) l.id.0 p
    → AreEffects l.parts.checked events l.parts.props l.list l.active effects
    → list_any (is_cause l.parts.checked events (is_sought l.parts.checked p l.sought)) (take l.k effects) ≡ false
