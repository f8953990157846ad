-- Both sides compute to the same.
use Rattle.std.proofs.Common.{refl}
use Rattle.ec_cone.specs.Forms.{form_eq, readings_of}
use Rattle.ec_cone.specs.Cone.{reaches, cone_has, cone_effects}
use Rattle.ec_cone.specs.Examples.{theory_of_doors, moved_plugged_and_pushed, a_night}
use Rattle.ec_cone.proofs.worked_cones.warnings_rest_on_locks.Goals as goal

pub returns : goal.returns
unfolding form_eq readings_of reaches cone_has cone_effects theory_of_doors moved_plugged_and_pushed a_night
returns c = record { rules_of_warned = refl; shut_of_warned = refl; open_of_shut = refl; shut_of_open = refl; not_alarm_of_open = refl; other_arity = refl; rules_of_locked = refl; unknown = refl }
