-- Event files: what each line of one says, the events that a whole file tells, and the fault of a file that is refused.
use Rattle.std.specs.Prelude.{ℕ, ◌+◌, Bool, nat_le, nat_lt, if◌then◌else◌, List, [], ◌∷◌, ◌++◌, ℤ, Option, Some, None, length, Result, Ok, Err, codes, decimal}
use Rattle.ec_terms.specs.declared.theory.Theory.{Theory}
use Rattle.ec_axioms.specs.Calculus.{PlainEvent}
use Rattle.ec_axioms.specs.Changes.{has_id, with_event}
use Rattle.ec_axioms.specs.Links.{link_count, mentions_of, most_events, most_links, most_mentions}
use Rattle.ec_commands.specs.Lines.{is_long, lines_of}
use Rattle.ec_commands.specs.Commands.{PlainCommand, silent, bad, assert_event, retract_event, begin_draft, commit_draft, abort_draft, ask, ask_past, ask_pairs, ask_related, watch_prop, unwatch_prop, ask_last, quit, parsed_of}
use Rattle.ec_replies.specs.Replies.{Language}
use Rattle.ec_cert.specs.declared.event_fault.EventName.{EventName}
use Rattle.ec_cert.specs.declared.event_fault.EventName.TheVariants.{Syntax, Duplicate, FullEvents, FullMentions, FullLinks}

-- ---- one line

-- what a line of an event file says: nothing, an event, or what has no place in such a file
pub data FileLine : Type 0 where
  nothing : FileLine
  one_event : PlainEvent → FileLine
  neither : FileLine

-- what a command says in an event file: only an event may be asserted there
abbrev pub file_command : PlainCommand → FileLine
file_command silent = nothing
file_command (assert_event id t event) = one_event (record { id = id; rank = t; term = event })
file_command bad = neither
file_command (retract_event id) = neither
file_command begin_draft = neither
file_command commit_draft = neither
file_command abort_draft = neither
file_command (ask query) = neither
file_command (ask_past k query) = neither
file_command (ask_pairs p r q) = neither
file_command (ask_related p t r q) = neither
file_command (watch_prop p) = neither
file_command (unwatch_prop p) = neither
file_command ask_last = neither
file_command quit = neither

-- a line with a prefix has no place in an event file
abbrev pub without_prefix : Option ℕ → PlainCommand → FileLine
without_prefix None command = file_command command
without_prefix (Some session) command = neither

-- what a line of an event file says; a long line has no place there
unfoldable pub file_line_of : (List ℕ → Option ℤ) → List ℕ → FileLine
file_line_of spelt line =
    if is_long line then neither else without_prefix (parsed_of spelt line).session (parsed_of spelt line).command

-- ---- the events of a file

-- a list of events, if it has no more mentions and links than there may be
unfoldable pub few_mentions : Theory → List PlainEvent → Result (List PlainEvent) EventName
few_mentions theory events =
    if nat_lt most_mentions (length (mentions_of theory events)) then Err FullMentions
    else (if nat_lt most_links (link_count theory events) then Err FullLinks else Ok events)

-- the same where all limits are kept; else mentions and links are not counted
abbrev pub within_limits : Theory → Bool → List PlainEvent → Result (List PlainEvent) EventName
within_limits theory all events = if all then few_mentions theory events else Ok events

-- the list with an event in its place, or what the event is refused for, as an update that asserts it would be
unfoldable pub admitted : Theory → Bool → List PlainEvent → PlainEvent → Result (List PlainEvent) EventName
admitted theory all events e =
    if has_id e.id events then Err Duplicate
    else (if nat_le most_events (length events) then Err FullEvents else within_limits theory all (with_event e events))

-- the list that a line leaves, or what the line is refused for
abbrev pub after_line : Theory → Bool → List PlainEvent → FileLine → Result (List PlainEvent) EventName
after_line theory all events nothing = Ok events
after_line theory all events (one_event e) = admitted theory all events e
after_line theory all events neither = Err Syntax

-- what a file is refused for, with the number of its line
abbrev pub PlacedName : Type 0
PlacedName = ℕ × EventName

-- what follows a line: the lines behind it on the list that it leaves, or its refusal with its number
abbrev pub going_on : ℕ → Result (List PlainEvent) EventName → (List PlainEvent → Result (List PlainEvent) PlacedName) → Result (List PlainEvent) PlacedName
going_on number (Ok events) rest = rest events
going_on number (Err name) rest = Err (number, name)

-- the list that lines leave which are numbered from `number` on, or the first refusal
unfoldable pub read_from : Language → Bool → ℕ → List PlainEvent → List (List ℕ) → Result (List PlainEvent) PlacedName
read_from language all number events [] = Ok events
read_from language all number events (line ∷ lines) =
    going_on number (after_line language.theory all events (file_line_of language.spelt line)) (λ after. read_from language all (number + 1) after lines)

-- the events of an event file, or the first of its lines, from 1, that is refused, and what it is refused for
abbrev pub event_file : Language → Bool → List ℕ → Result (List PlainEvent) PlacedName
event_file language all bytes = read_from language all 1 [] (lines_of bytes)

-- ---- the line about a file that is refused

-- the name of what a file is refused for
abbrev pub name_text : EventName → List ℕ
name_text Syntax = codes "syntax"
name_text Duplicate = codes "duplicate"
name_text FullEvents = codes "full-events"
name_text FullMentions = codes "full-mentions"
name_text FullLinks = codes "full-links"

-- `events`, the number of the line, and the name
abbrev pub events_line : ℕ → EventName → List ℕ
events_line number name = codes "events " ++ decimal number ++ 32 ∷ name_text name ++ 10 ∷ []
