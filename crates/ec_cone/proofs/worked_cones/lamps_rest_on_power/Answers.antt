-- Both sides compute to the same.
use Rattle.std.proofs.Common.{refl}
use Rattle.ec_axioms.specs.Examples.{lamp_rules, one_place, theory_a}
use Rattle.ec_cone.specs.Forms.{form_eq, readings_of}
use Rattle.ec_cone.specs.Cone.{reaches, cone_has, cone_effects}
use Rattle.ec_cone.proofs.worked_cones.lamps_rest_on_power.Goals as goal

pub returns : goal.returns
unfolding lamp_rules one_place theory_a form_eq readings_of reaches cone_has cone_effects
returns c = record { itself = refl; power = refl; not_back = refl; not_places = refl; rules_of_lit = refl; rules_of_places = refl }
