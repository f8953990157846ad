-- Both sides compute to the same.
use Rattle.std.proofs.Common.{refl}
use Rattle.ec_terms.specs.Term.{arg_eq, arg_cmp, term_eq, term_cmp, arg_text, args_text, term_text}
use Rattle.ec_terms.specs.Matching.{value_of, is_value, place_fits, places_fit, fits, first_value, fits_some, filled}
use Rattle.ec_terms.specs.Domain.{meets, entry_of, entries_from, both_fit, excludes, are_exclusive, is_strong, is_initial}
use Rattle.ec_axioms.specs.Calculus.{instants_of, effects_of, agrees, is_active, effects_at, is_initiating, is_terminating, is_clashing, has_effect, has_break, timeline_by, timeline_of, round_current, is_current, intervals_of, holds_at}
use Rattle.ec_axioms.specs.Examples.{lamp_rules, one_place, theory_a}
use Rattle.ec_cone.specs.Forms.{form_eq, readings_of}
use Rattle.ec_cone.specs.Closed.{has_entry_inside}
use Rattle.ec_cone.specs.Cone.{reaches, cone_has, cone_effects}
use Rattle.ec_cone.specs.Label.{event_line, label_text}
use Rattle.ec_cone.specs.Examples.{theory_of_doors, moved_plugged_and_pushed, a_night}
use Rattle.ec_cert.specs.Verdicts.{proof_text}
use Rattle.ec_cert.proofs.worked_verdicts.proofs_are_written.Goals as goal

pub returns : goal.returns
unfolding arg_eq arg_cmp term_eq term_cmp arg_text args_text term_text value_of is_value place_fits places_fit fits first_value fits_some filled meets entry_of entries_from both_fit excludes are_exclusive is_strong is_initial instants_of effects_of agrees is_active effects_at is_initiating is_terminating is_clashing has_effect has_break timeline_by timeline_of round_current is_current intervals_of holds_at lamp_rules one_place theory_a form_eq readings_of has_entry_inside reaches cone_has cone_effects event_line label_text proof_text theory_of_doors moved_plugged_and_pushed a_night
returns c = record { lit = refl; not_yet = refl }
