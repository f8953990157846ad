-- Both sides compute to the same.
use Rattle.std.proofs.Common.{refl}
use Rattle.ec_terms.specs.Term.{arg_eq, arg_cmp, term_eq, term_cmp}
use Rattle.ec_terms.specs.Matching.{value_of, is_value, place_fits, places_fit, fits, first_value, fits_some, filled}
use Rattle.ec_terms.specs.Domain.{meets, entry_of, entries_from, both_fit, excludes, are_exclusive, is_strong, is_initial}
use Rattle.ec_axioms.specs.Calculus.{instants_of, effects_of, agrees, is_active, effects_at, is_initiating, is_terminating, is_clashing, has_effect, has_break, timeline_by, timeline_of, round_current, is_current, intervals_of, broken_of, holds_at, holds_through, reason_of, first_cause, is_breaking, is_clash, clashes_of}
use Rattle.ec_axioms.specs.Marks.{mark_at, marks_of, row_timeline}
use Rattle.ec_axioms.specs.Links.{mentions_of, live_properties, link_count}
use Rattle.ec_axioms.specs.Changes.{event_eq, has_event, kept_events, events_only_in, kept_effects, sees_change, has_other_intervals, change_counts, entry_count, work_between}
use Rattle.ec_axioms.specs.Examples.{lamp_rules, one_place, theory_a, theory_b, moved_home_twice}
use Rattle.ec_axioms.proofs.worked_rows.weak_and_strong_initiation.Goals as goal

pub returns : goal.returns
unfolding arg_eq arg_cmp term_eq term_cmp value_of is_value place_fits places_fit fits first_value fits_some filled meets entry_of entries_from both_fit excludes are_exclusive is_strong is_initial instants_of effects_of agrees is_active effects_at is_initiating is_terminating is_clashing has_effect has_break timeline_by timeline_of round_current is_current intervals_of broken_of holds_at holds_through reason_of first_cause is_breaking is_clash clashes_of mark_at marks_of row_timeline mentions_of live_properties link_count event_eq has_event kept_events events_only_in kept_effects sees_change has_other_intervals change_counts entry_count work_between lamp_rules one_place theory_a theory_b moved_home_twice
returns c = record { weak = refl; weak_broken = refl; strong = refl; strong_broken = refl; broken_at_12 = refl; yes_at_20 = refl; ended_at_21 = refl; never_at_10 = refl; cause_of_the_break = refl }
