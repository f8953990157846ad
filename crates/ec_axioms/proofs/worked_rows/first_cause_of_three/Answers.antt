-- Both sides compute to the same.
use Rattle.std.proofs.Common.{refl}
use Rattle.ec_terms.specs.Term.{arg_eq, arg_cmp, term_eq, term_cmp}
use Rattle.ec_terms.specs.Matching.{value_of, is_value, place_fits, places_fit, fits, first_value, fits_some, filled}
use Rattle.ec_terms.specs.Domain.{meets, entry_of, entries_from, both_fit, excludes, are_exclusive}
use Rattle.ec_axioms.specs.Calculus.{instants_of, effects_of, agrees, is_active, effects_at, is_initiating, is_terminating, is_clashing, has_effect, has_break, timeline_by, timeline_of, round_current, is_current, first_cause}
use Rattle.ec_axioms.specs.Marks.{mark_at, marks_of}
use Rattle.ec_axioms.specs.Examples.{theory_of_ties, plugged_with_a_push}
use Rattle.ec_axioms.proofs.worked_rows.first_cause_of_three.Goals as goal

pub returns : goal.returns
unfolding arg_eq arg_cmp term_eq term_cmp value_of is_value place_fits places_fit fits first_value fits_some filled meets entry_of entries_from both_fit excludes are_exclusive instants_of effects_of agrees is_active effects_at is_initiating is_terminating is_clashing has_effect has_break timeline_by timeline_of round_current is_current first_cause mark_at marks_of theory_of_ties plugged_with_a_push
returns c = record { three = refl; first = refl }
