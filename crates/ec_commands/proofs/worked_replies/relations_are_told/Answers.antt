-- Both sides compute to the same.
use Rattle.std.proofs.Common.{refl}
use Rattle.ec_terms.specs.Term.{arg_eq, arg_cmp, term_eq, term_cmp, arg_text, args_text, term_text}
use Rattle.ec_terms.specs.Matching.{value_of, is_value, place_fits, places_fit, fits, first_value, fits_some, filled}
use Rattle.ec_terms.specs.Domain.{meets, entry_of, entries_from, both_fit, excludes, are_exclusive, is_strong, is_initial}
use Rattle.ec_axioms.specs.Calculus.{instants_of, effects_of, agrees, is_active, effects_at, is_initiating, is_terminating, is_clashing, has_effect, has_break, timeline_by, timeline_of, round_current, is_current, intervals_of, broken_of, holds_at, reason_of, first_cause, is_breaking, is_clash, clashes_of}
use Rattle.ec_axioms.specs.Links.{mentions_of, live_properties}
use Rattle.ec_commands.specs.QueryTexts.{reason_text, holding_at, intervals_reply, broken_reply, at_reply, clashes_reply, events_reply, why_reply, interval_at, pairs_reply, related_reply}
use Rattle.ec_axioms.specs.Examples.{lamp_rules, one_place, theory_a, theory_b, theory_powered, home_from_the_start, strong_home_from_the_start, plugged_and_pushed, four_pushes, plugged_at_the_unplug, two_moves, two_moves_and_a_leave, moved_home_twice, moved_to_two_places, moved_home_once}
use Rattle.ec_commands.proofs.worked_replies.relations_are_told.Goals as goal

pub returns : goal.returns
unfolding arg_eq arg_cmp term_eq term_cmp arg_text args_text term_text value_of is_value place_fits places_fit fits first_value fits_some filled meets entry_of entries_from both_fit excludes are_exclusive is_strong is_initial instants_of effects_of agrees is_active effects_at is_initiating is_terminating is_clashing has_effect has_break timeline_by timeline_of round_current is_current intervals_of broken_of holds_at reason_of first_cause is_breaking is_clash clashes_of mentions_of live_properties reason_text holding_at intervals_reply broken_reply at_reply clashes_reply events_reply why_reply interval_at pairs_reply related_reply lamp_rules one_place theory_a theory_b theory_powered home_from_the_start strong_home_from_the_start plugged_and_pushed four_pushes plugged_at_the_unplug two_moves two_moves_and_a_leave moved_home_twice moved_to_two_places moved_home_once
returns c = record { meets = refl; equals = refl; unknown = refl; all_along = refl; at_the_begin = refl; at_the_end = refl; no_other = refl }
