-- Both sides compute to the same.
use Rattle.std.proofs.Common.{refl}
use Rattle.std.specs.Fmt.{digits}
use Rattle.ec_terms.specs.Term.{is_argument, names_are_names, arg_eq, term_eq, arg_cmp, term_cmp, arg_text, args_text, term_text, arg_value, args_value, args_within, inside_of, term_with_args, term_front, term_value}
use Rattle.ec_terms.specs.Matching.{value_of, is_value, place_fits, places_fit, fits, first_value, fits_some, filled, compares, values_compare, test_holds}
use Rattle.ec_terms.specs.Domain.{meets, entry_of, entries_from, both_fit, excludes, are_exclusive, is_strong, is_initial}
use Rattle.ec_terms.specs.Spelling.{is_lower, is_upper, is_name_byte, begins_with, is_name, is_variable, name_run}
use Rattle.ec_terms.specs.Pieces.{pieces_between}
use Rattle.ec_moment.specs.Number.{number_value}
use Rattle.ec_axioms.specs.Calculus.{instants_of, effects_of, agrees, is_active, effects_at, is_initiating, is_terminating, is_clashing, has_effect, has_break, timeline_by, round_current, is_current, timeline_of, intervals_of, broken_of, holds_at, holds_through, reason_of, first_cause, is_breaking, is_clash, clashes_of}
use Rattle.ec_axioms.specs.Changes.{has_id, comes_before, is_history, with_event, without_event, event_eq, has_event, kept_events, events_only_in, kept_effects, sees_change, has_other_intervals, change_counts, entry_count, work_between}
use Rattle.ec_commands.specs.Commands.{keywords, keyword_of, name_value, command_by, plain_of_words, past_of_words, command_of_words, digit_value_of, session_within, session_of_digits, prefixed_line, parsed_words, parsed_of}
use Rattle.ec_commands.specs.Answers.{cut_text, seen_text, answer_text, front_text, reply_text}
use Rattle.ec_commands.specs.Lines.{cut_of, without_return, whole_lines, last_line, lines_of, is_long, is_blank, words_of}
use Rattle.ec_commands.specs.Relations.{relation_words, relation_spelt}
use Rattle.ec_axioms.specs.Links.{mentions_of, is_live, live_properties, link_count}
use Rattle.ec_commands.specs.QueryTexts.{reason_text, holding_at, intervals_reply, broken_reply, at_reply, clashes_reply, events_reply, why_reply, interval_at, pairs_reply, related_reply}
use Rattle.ec_axioms.specs.Examples.{lamp_rules, one_place, theory_a}
use Rattle.ec_replies.specs.Notes.{note_between, session_notes, notes_from}
use Rattle.ec_replies.specs.Past.{empty_past, with_accepted, within_window}
use Rattle.ec_replies.specs.State.{empty_state}
use Rattle.ec_replies.specs.Updates.{with_few_mentions, asserted, retracted, updated_from}
use Rattle.ec_replies.specs.Replies.{reply_to_update, reply_to_begin, reply_to_commit, reply_to_abort, query_text, command_reply, reply_of}
use Rattle.ec_replies.specs.Examples.{lamps, replies_from, replies_to}
use Rattle.ec_replies.proofs.worked.two_sessions_do_not_see_each_other.Goals as goal

pub returns : goal.returns
unfolding digits is_argument names_are_names arg_eq term_eq arg_cmp term_cmp arg_text args_text term_text arg_value args_value args_within inside_of term_with_args term_front term_value value_of is_value place_fits places_fit fits first_value fits_some filled compares values_compare test_holds meets entry_of entries_from both_fit excludes are_exclusive is_strong is_initial is_lower is_upper is_name_byte begins_with is_name is_variable name_run pieces_between number_value instants_of effects_of agrees is_active effects_at is_initiating is_terminating is_clashing has_effect has_break timeline_by round_current is_current timeline_of intervals_of broken_of holds_at holds_through reason_of first_cause is_breaking is_clash clashes_of has_id comes_before is_history with_event without_event event_eq has_event kept_events events_only_in kept_effects sees_change has_other_intervals change_counts entry_count work_between keywords keyword_of name_value relation_words relation_spelt command_by plain_of_words past_of_words command_of_words digit_value_of session_within session_of_digits prefixed_line parsed_words parsed_of cut_text seen_text answer_text front_text reply_text cut_of without_return whole_lines last_line lines_of is_long is_blank words_of mentions_of is_live live_properties link_count reason_text holding_at intervals_reply broken_reply at_reply clashes_reply events_reply why_reply interval_at pairs_reply related_reply lamp_rules one_place theory_a note_between session_notes notes_from empty_past with_accepted within_window empty_state with_few_mentions asserted retracted updated_from reply_to_update reply_to_begin reply_to_commit reply_to_abort query_text command_reply reply_of lamps replies_from replies_to
returns c = refl
