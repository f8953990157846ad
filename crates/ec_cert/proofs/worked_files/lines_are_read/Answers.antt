-- Both sides compute to the same.
use Rattle.std.proofs.Common.{refl}
use Rattle.ec_terms.specs.Spelling.{is_lower, is_upper, is_name_byte, begins_with, is_name, is_variable, name_run}
use Rattle.ec_terms.specs.Pieces.{pieces_between}
use Rattle.ec_terms.specs.Term.{arg_eq, term_eq, arg_value, args_value, args_within, inside_of, term_with_args, term_front, term_value}
use Rattle.ec_moment.specs.Number.{number_value}
use Rattle.ec_commands.specs.Lines.{cut_of, without_return, whole_lines, last_line, lines_of, is_long, is_blank, words_of}
use Rattle.ec_commands.specs.Commands.{keywords, keyword_of, name_value, command_by, plain_of_words, past_of_words, command_of_words, digit_value_of, session_within, session_of_digits, prefixed_line, parsed_words, parsed_of}
use Rattle.ec_cert.specs.EventFile.{file_line_of}
use Rattle.ec_cert.proofs.worked_files.lines_are_read.Goals as goal

pub returns : goal.returns
unfolding is_lower is_upper is_name_byte begins_with is_name is_variable name_run pieces_between arg_eq term_eq arg_value args_value args_within inside_of term_with_args term_front term_value number_value cut_of without_return whole_lines last_line lines_of is_long is_blank words_of keywords keyword_of name_value command_by plain_of_words past_of_words command_of_words digit_value_of session_within session_of_digits prefixed_line parsed_words parsed_of file_line_of
returns c = record { event = refl; empty = refl; comment = refl; retract = refl; quit = refl; prefix = refl; no_term = refl }
