-- Dialogues with a lamp and with people who move, for the worked examples.
use Rattle.std.specs.Prelude.{ℕ, List, [], ◌∷◌, ◌++◌, Some, None}
use Rattle.ec_moment.specs.Number.{number_value}
use Rattle.ec_commands.specs.Answers.{front_text}
use Rattle.ec_commands.specs.Commands.{PlainCommand}
use Rattle.ec_axioms.specs.Examples.{theory_a, short_number}
use Rattle.ec_commands.specs.Lines.{line_feed}
use Rattle.ec_replies.specs.State.{State, empty_state}
use Rattle.ec_replies.specs.Replies.{Language, command_reply, reply_of}

-- the language of the examples: theory A, and times that are numbers
unfoldable pub lamps : Language
lamps = record { theory = theory_a; spelt = number_value; canon = short_number }

-- the replies to lines in turn, as long as memory is there
unfoldable pub replies_from : State → List (List ℕ) → List (List ℕ)
replies_from state [] = []
replies_from state (line ∷ lines) = (reply_of lamps state line).text ∷ replies_from (reply_of lamps state line).after lines

-- the replies to lines that come first
unfoldable pub replies_to : List (List ℕ) → List (List ℕ)
replies_to lines = replies_from empty_state lines

-- the replies to commands in turn, each of a session, that come first
unfoldable pub replies_by : State → List (ℕ × PlainCommand) → List (List ℕ)
replies_by state [] = []
replies_by state (asked ∷ rest) =
    (command_reply lamps None asked.0 state asked.1).text ∷ replies_by (command_reply lamps None asked.0 state asked.1).after rest

unfoldable pub commands_answered : List (ℕ × PlainCommand) → List (List ℕ)
commands_answered commands = replies_by empty_state commands

-- a reply without a prefix, and one to a session
abbrev pub told : List ℕ → List ℕ
told text = text ++ line_feed ∷ []

abbrev pub told_to : ℕ → List ℕ → List ℕ
told_to session text = front_text (Some session) ++ text ++ line_feed ∷ []
