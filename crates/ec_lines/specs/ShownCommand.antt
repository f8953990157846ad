-- What the code's queries and commands are among the plain ones: names by their bytes, times by their ranks, terms as kept terms.
use Rattle.std.specs.Prelude.{ℤ, Option, Some, None, IsTrue}
use Rattle.ec_terms.specs.Term.{ground_of, names_are_names}
use Rattle.ec_commands.specs.Commands.{PlainQuery, ask_holds, ask_through, ask_intervals, ask_broken, ask_at, ask_clashes, ask_events, ask_why}
use Rattle.ec_commands.specs.Commands.{PlainCommand, PlainParsed, silent, bad, assert_event, retract_event, begin_draft, commit_draft, abort_draft, ask, ask_past, ask_pairs, ask_related, watch_prop, unwatch_prop, ask_last, quit}
use Rattle.ec_lines.specs.declared.command.Command.{Command}
use Rattle.ec_lines.specs.declared.command.Command.TheVariants.{Silent, Bad, Assert, Retract, Begin, Commit, Abort, Ask, Past, Pairs, Related, Last, Quit}
use Rattle.ec_lines.specs.declared.command.Parsed.{Parsed}
use Rattle.ec_lines.specs.declared.command.Query.{Query}
use Rattle.ec_lines.specs.declared.command.Query.TheVariants.{Holds, Through, Intervals, Broken, At, Clashes, Events, Why}

-- the plain query that a query is
abbrev pub plain_query : {T : Type 0} → (T → ℤ) → Query T → PlainQuery
plain_query rank (Holds prop at) = ask_holds (ground_of prop) (rank at)
plain_query rank (Through prop from until) = ask_through (ground_of prop) (rank from) (rank until)
plain_query rank (Intervals prop) = ask_intervals (ground_of prop)
plain_query rank (Broken prop) = ask_broken (ground_of prop)
plain_query rank (At at) = ask_at (rank at)
plain_query rank Clashes = ask_clashes
plain_query rank Events = ask_events
plain_query rank (Why prop at) = ask_why (ground_of prop) (rank at)

-- the plain command that a command is
abbrev pub plain_command : {T : Type 0} → (T → ℤ) → Command T → PlainCommand
plain_command rank Silent = silent
plain_command rank Bad = bad
plain_command rank (Assert id at event) = assert_event id (rank at) (ground_of event)
plain_command rank (Retract id) = retract_event id
plain_command rank Begin = begin_draft
plain_command rank Commit = commit_draft
plain_command rank Abort = abort_draft
plain_command rank (Ask query) = ask (plain_query rank query)
plain_command rank (Past count query) = ask_past count (plain_query rank query)
plain_command rank (Pairs left relation right) = ask_pairs (ground_of left) relation (ground_of right)
plain_command rank (Related left at relation right) = ask_related (ground_of left) (rank at) relation (ground_of right)
plain_command rank Last = ask_last
plain_command rank Quit = quit

-- the plain command that was read, bad where none was
abbrev pub plain_or_bad : {T : Type 0} → (T → ℤ) → Option (Command T) → PlainCommand
plain_or_bad rank None = bad
plain_or_bad rank (Some command) = plain_command rank command

-- the plain form of a line
abbrev pub plain_parsed : {T : Type 0} → (T → ℤ) → Parsed T → PlainParsed
plain_parsed rank parsed = record { session = parsed.session; command = plain_command rank parsed.command }

-- the names in the term of a query are names, if it has a term
abbrev pub IsNamedQuery : PlainQuery → Type 0
IsNamedQuery (ask_holds prop t) = IsTrue (names_are_names prop)
IsNamedQuery (ask_through prop s e) = IsTrue (names_are_names prop)
IsNamedQuery (ask_intervals prop) = IsTrue (names_are_names prop)
IsNamedQuery (ask_broken prop) = IsTrue (names_are_names prop)
IsNamedQuery (ask_at t) = Unit {0}
IsNamedQuery ask_clashes = Unit {0}
IsNamedQuery ask_events = Unit {0}
IsNamedQuery (ask_why prop t) = IsTrue (names_are_names prop)

-- the names in the terms of a command are names
abbrev pub AreNamed : PlainCommand → Type 0
AreNamed silent = Unit {0}
AreNamed bad = Unit {0}
AreNamed (assert_event id t event) = IsTrue (names_are_names event)
AreNamed (retract_event id) = Unit {0}
AreNamed begin_draft = Unit {0}
AreNamed commit_draft = Unit {0}
AreNamed abort_draft = Unit {0}
AreNamed (ask query) = IsNamedQuery query
AreNamed (ask_past k query) = IsNamedQuery query
AreNamed (ask_pairs p r q) = IsTrue (names_are_names p) × IsTrue (names_are_names q)
AreNamed (ask_related p t r q) = IsTrue (names_are_names p) × IsTrue (names_are_names q)
AreNamed (watch_prop p) = IsTrue (names_are_names p)
AreNamed (unwatch_prop p) = IsTrue (names_are_names p)
AreNamed ask_last = Unit {0}
AreNamed quit = Unit {0}
