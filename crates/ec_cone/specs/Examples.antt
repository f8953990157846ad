-- A theory and events for worked cones.
use Rattle.std.specs.Prelude.{true, false, List, [], ◌∷◌, codes}
use Rattle.ec_terms.specs.declared.ground.Ground.{Ground}
use Rattle.ec_terms.specs.declared.pattern.PatArg.TheVariants.{Var, Any}
use Rattle.ec_terms.specs.declared.theory.Kind.TheVariants.{Initiates, Terminates}
use Rattle.ec_terms.specs.declared.theory.Theory.{Theory}
use Rattle.ec_axioms.specs.Calculus.{PlainEvent}
use Rattle.ec_axioms.specs.Examples.{bare, bare_pattern, event, literal, move_home, pattern, plug_a, push_a, rule, term}

-- A door that is pushed opens where it is not locked, and is then not shut. A shut door stops the alarm, and who listens to the
-- alarm is warned. Each rule stands before those that read its head. The last one has the name of a door that is open, without
-- the door.
unfoldable pub theory_of_doors : Theory
theory_of_doors = record {
  rules = rule 1 Initiates (bare_pattern (codes "turn")) (bare_pattern (codes "locked")) []
      ∷ rule 2 Initiates (pattern (codes "push") (Var 0 ∷ [])) (pattern (codes "open") (Var 0 ∷ [])) (literal false (bare_pattern (codes "locked")) ∷ [])
      ∷ rule 3 Terminates (bare_pattern (codes "wait")) (bare_pattern (codes "alarm")) (literal true (bare_pattern (codes "shut")) ∷ [])
      ∷ rule 4 Initiates (bare_pattern (codes "listen")) (bare_pattern (codes "warned")) (literal true (bare_pattern (codes "alarm")) ∷ [])
      ∷ rule 5 Initiates (bare_pattern (codes "listen")) (bare_pattern (codes "open")) []
      ∷ [];
  exclusives = record { clause = 6; left = pattern (codes "open") (Any ∷ []); right = bare_pattern (codes "shut") } ∷ [];
  strongs = [];
  initials = [];
  times = [];
}

-- properties of doors
abbrev pub locked : Ground
locked = bare (codes "locked")

abbrev pub open_front : Ground
open_front = term (codes "open") (codes "front" ∷ [])

abbrev pub shut : Ground
shut = bare (codes "shut")

abbrev pub alarm : Ground
alarm = bare (codes "alarm")

abbrev pub warned : Ground
warned = bare (codes "warned")

-- bob moves home at 3, and a lamp is plugged at 5 and pushed at 10
unfoldable pub moved_plugged_and_pushed : List PlainEvent
moved_plugged_and_pushed = event (codes "m1") 3 move_home ∷ event (codes "p") 5 plug_a ∷ event (codes "q") 10 push_a ∷ []

-- a wait at 1 with the door not shut, a turn at 2, and a push of the locked door and a listening at 3
unfoldable pub a_night : List PlainEvent
a_night =
    event (codes "a") 1 (bare (codes "wait")) ∷ event (codes "b") 2 (bare (codes "turn"))
    ∷ event (codes "c") 3 (term (codes "push") (codes "front" ∷ [])) ∷ event (codes "d") 3 (bare (codes "listen")) ∷ []
