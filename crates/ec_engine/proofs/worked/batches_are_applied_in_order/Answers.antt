-- Both sides compute to the same.
use Rattle.std.proofs.Common.{refl}
use Rattle.ec_terms.specs.Term.{arg_eq, arg_cmp, term_eq, term_cmp}
use Rattle.ec_terms.specs.Matching.{value_of, is_value, place_fits, places_fit, fits, first_value, fits_some, filled}
use Rattle.ec_terms.specs.Domain.{meets, entry_of, entries_from, both_fit, excludes, are_exclusive, is_strong, is_initial}
use Rattle.ec_axioms.specs.Changes.{has_id, comes_before, with_event, without_event}
use Rattle.ec_axioms.specs.Links.{mentions_of, live_properties, link_count}
use Rattle.ec_axioms.specs.Examples.{lamp_rules, one_place, theory_a, plugged_and_pushed}
use Rattle.ec_replies.specs.Updates.{with_few_mentions, asserted, retracted, updated_from}
use Rattle.ec_engine.proofs.worked.batches_are_applied_in_order.Goals as goal

pub returns : goal.returns
unfolding arg_eq arg_cmp term_eq term_cmp value_of is_value place_fits places_fit fits first_value fits_some filled meets entry_of entries_from both_fit excludes are_exclusive is_strong is_initial has_id comes_before with_event without_event mentions_of live_properties link_count lamp_rules one_place theory_a plugged_and_pushed with_few_mentions asserted retracted updated_from
returns c = record { none = refl; duplicate = refl; unknown = refl; back = refl; later = refl }
