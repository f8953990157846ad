-- Both sides compute to the same.
use Rattle.std.proofs.Common.{refl}
use Rattle.ec_terms.specs.Spelling.{is_lower, is_upper, is_name_byte, begins_with, is_name, is_variable, name_run}
use Rattle.ec_terms.specs.Pieces.{pieces_between}
use Rattle.ec_terms.specs.Term.{arg_eq, term_eq, arg_value, args_value, args_within, inside_of, term_with_args, term_front, term_value}
use Rattle.ec_moment.specs.Number.{number_value}
use Rattle.ec_commands.specs.Lines.{cut_of, without_return, whole_lines, last_line, lines_of, is_long, is_blank, words_of}
use Rattle.ec_commands.specs.Commands.{keywords, keyword_of, name_value, command_by, plain_of_words, past_of_words, command_of_words, digit_value_of, session_within, session_of_digits, prefixed_line, parsed_words, parsed_of}
use Rattle.ec_terms.specs.Term.{arg_cmp, term_cmp}
use Rattle.ec_terms.specs.Matching.{value_of, is_value, place_fits, places_fit, fits, first_value, fits_some, filled}
use Rattle.ec_terms.specs.Domain.{meets, entry_of, entries_from, both_fit, excludes, are_exclusive, is_strong, is_initial}
use Rattle.ec_axioms.specs.Changes.{has_id, comes_before, with_event}
use Rattle.ec_axioms.specs.Links.{mentions_of, live_properties, link_count}
use Rattle.ec_axioms.specs.Examples.{lamp_rules, one_place, theory_a}
use Rattle.ec_cert.specs.EventFile.{file_line_of, few_mentions, admitted, read_from}
use Rattle.ec_cert.proofs.worked_files.files_are_read.Goals as goal

pub returns : goal.returns
unfolding is_lower is_upper is_name_byte begins_with is_name is_variable name_run pieces_between arg_eq term_eq arg_value args_value args_within inside_of term_with_args term_front term_value number_value cut_of without_return whole_lines last_line lines_of is_long is_blank words_of keywords keyword_of name_value command_by plain_of_words past_of_words command_of_words digit_value_of session_within session_of_digits prefixed_line parsed_words parsed_of file_line_of arg_cmp term_cmp value_of is_value place_fits places_fit fits first_value fits_some filled meets entry_of entries_from both_fit excludes are_exclusive is_strong is_initial has_id comes_before with_event mentions_of live_properties link_count lamp_rules one_place theory_a few_mentions admitted read_from
returns c = record { empty = refl; in_order = refl; syntax = refl; duplicate = refl }
