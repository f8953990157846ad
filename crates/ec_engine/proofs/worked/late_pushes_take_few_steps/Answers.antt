-- Both sides compute to the same.
use Rattle.std.proofs.Common.{refl}
use Rattle.ec_terms.specs.Term.{arg_eq, arg_cmp, term_eq, term_cmp}
use Rattle.ec_terms.specs.Matching.{value_of, is_value, place_fits, places_fit, fits, first_value, fits_some, filled}
use Rattle.ec_terms.specs.Domain.{meets, entry_of, entries_from, both_fit, excludes, are_exclusive, is_strong, is_initial}
use Rattle.ec_axioms.specs.Calculus.{instants_of, effects_of, agrees, is_active, effects_at, is_initiating, is_terminating, is_clashing, has_effect, has_break, timeline_by, timeline_of, round_current, is_current}
use Rattle.ec_axioms.specs.Marks.{mark_at}
use Rattle.ec_axioms.specs.Links.{mentions_of, live_properties, link_count}
use Rattle.ec_axioms.specs.Changes.{event_eq, has_event, has_id, comes_before, with_event, without_event, kept_events, events_only_in, kept_effects, sees_change, has_other_intervals, change_counts, entry_count, work_between}
use Rattle.ec_axioms.specs.Examples.{lamp_rules, one_place, theory_a, three_pushes}
use Rattle.ec_replies.specs.Updates.{with_few_mentions, asserted, retracted, updated_from}
use Rattle.ec_engine.specs.Revise.{most_steps}
use Rattle.ec_engine.proofs.worked.late_pushes_take_few_steps.Goals as goal

pub returns : goal.returns
unfolding arg_eq arg_cmp term_eq term_cmp value_of is_value place_fits places_fit fits first_value fits_some filled meets entry_of entries_from both_fit excludes are_exclusive is_strong is_initial instants_of effects_of agrees is_active effects_at is_initiating is_terminating is_clashing has_effect has_break timeline_by timeline_of round_current is_current mark_at mentions_of live_properties link_count event_eq has_event has_id comes_before with_event without_event kept_events events_only_in kept_effects sees_change has_other_intervals change_counts entry_count work_between lamp_rules one_place theory_a three_pushes with_few_mentions asserted retracted updated_from most_steps
returns c = record { late = refl; taken_back = refl }
