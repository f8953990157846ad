-- Both sides compute to the same.
use Rattle.std.proofs.Common.{refl}
use Rattle.ec_terms.specs.Term.{arg_eq, arg_cmp, term_eq, term_cmp}
use Rattle.ec_terms.specs.Matching.{value_of, is_value, place_fits, places_fit, fits, first_value, fits_some, filled}
use Rattle.ec_terms.specs.Domain.{meets, entry_of, entries_from, both_fit, excludes, are_exclusive, is_strong, is_initial}
use Rattle.ec_axioms.specs.Calculus.{instants_of, effects_of, agrees, is_active, effects_at, is_initiating, is_terminating, is_clashing, has_effect, has_break, timeline_by, timeline_of, round_current, is_current, intervals_of, broken_of, holds_at, holds_through, reason_of, first_cause, is_breaking, is_clash, clashes_of}
use Rattle.ec_axioms.specs.Marks.{mark_at, marks_of, row_timeline}
use Rattle.ec_axioms.specs.Links.{mentions_of, live_properties, link_count}
use Rattle.ec_axioms.specs.Changes.{without_event, event_eq, has_event, kept_events, events_only_in, kept_effects, sees_change, has_other_intervals, change_counts, entry_count, work_between}
use Rattle.ec_axioms.specs.Examples.{lamp_rules, one_place, theory_a, moved_to_two_places, three_linked_moves}
use Rattle.ec_axioms.proofs.worked_rows.clash_and_links.Goals as goal

pub returns : goal.returns
unfolding arg_eq arg_cmp term_eq term_cmp value_of is_value place_fits places_fit fits first_value fits_some filled meets entry_of entries_from both_fit excludes are_exclusive is_strong is_initial instants_of effects_of agrees is_active effects_at is_initiating is_terminating is_clashing has_effect has_break timeline_by timeline_of round_current is_current intervals_of broken_of holds_at holds_through reason_of first_cause is_breaking is_clash clashes_of mark_at marks_of row_timeline mentions_of live_properties link_count without_event event_eq has_event kept_events events_only_in kept_effects sees_change has_other_intervals change_counts entry_count work_between lamp_rules one_place theory_a moved_to_two_places three_linked_moves
returns c = record { at_home = refl; at_work = refl; clash = refl; in_term_order = refl; links = refl; live_after_the_retract = refl; links_after_the_retract = refl }
