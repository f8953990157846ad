-- The generated lines of a soak run: what is drawn of each, its text, and the bytes of all of them.
use Rattle.std.specs.Prelude.{ℕ, zero, suc, ◌+◌, ◌==◌, nat_lt, if◌then◌else◌, List, [], ◌∷◌, ◌++◌, codes, decimal, flat_map}
use Rattle.ec_commands.specs.Lines.{line_feed}
use Rattle.ec_soak.specs.declared.generated_line.GeneratedEvent.{GeneratedEvent}
use Rattle.ec_soak.specs.declared.generated_line.GeneratedEvent.TheVariants.{Push, Plug, Unplug, Move, Leave}
use Rattle.ec_soak.specs.declared.generated_line.GeneratedLine.{GeneratedLine}
use Rattle.ec_soak.specs.declared.generated_line.GeneratedLine.TheVariants.{Assert, Retract, HoldsLit, HoldsAt, Intervals, Last}
use Rattle.ec_soak.specs.Draws.{draw}

-- a line, and the state behind its draws
abbrev pub Drawn : Type 0
Drawn = GeneratedLine × ℕ

-- the event of a kind, for a person and a place
abbrev pub event_of : ℕ → ℕ → ℕ → GeneratedEvent
event_of kind person place =
    if kind == 0 then Push person place else
    (if kind == 1 then Plug place else
    (if kind == 2 then Unplug place else
    (if kind == 3 then Move person place else Leave person place)))

-- the line of that number as an `assert`: its time is drawn, then the kind of its event, the person and the place
unfoldable pub drawn_assert : ℕ → ℕ → Drawn
drawn_assert number x =
    let time = draw 100000 x in
    let kind = draw 5 time.1 in
    let person = draw 16 kind.1 in
    let place = draw 64 person.1 in
    (Assert number time.0 (event_of kind.0 person.0 place.0), place.1)

-- a `retract`: the line of the event is drawn
unfoldable pub drawn_retract : ℕ → ℕ → Drawn
drawn_retract number x = let line = draw number x in (Retract (line.0 + 1), line.1)

-- a `holds` of a lamp: the lamp is drawn, then the time
unfoldable pub drawn_holds_lit : ℕ → Drawn
drawn_holds_lit x =
    let lamp = draw 64 x in
    let time = draw 100000 lamp.1 in
    (HoldsLit lamp.0 time.0, time.1)

-- a `holds` of a person in a hall: the person is drawn, then the hall and the time
unfoldable pub drawn_holds_at : ℕ → Drawn
drawn_holds_at x =
    let person = draw 16 x in
    let hall = draw 64 person.1 in
    let time = draw 100000 hall.1 in
    (HoldsAt person.0 hall.0 time.0, time.1)

-- an `intervals`: the lamp is drawn
unfoldable pub drawn_intervals : ℕ → Drawn
drawn_intervals x = let lamp = draw 64 x in (Intervals lamp.0, lamp.1)

-- the line of that number: which command it is is drawn first
unfoldable pub drawn_line : ℕ → ℕ → Drawn
drawn_line number x =
    let command = draw 100 x in
    if nat_lt command.0 50 then drawn_assert number command.1 else
    (if nat_lt command.0 60 then drawn_retract number command.1 else
    (if nat_lt command.0 80 then drawn_holds_lit command.1 else
    (if nat_lt command.0 90 then drawn_holds_at command.1 else
    (if nat_lt command.0 95 then drawn_intervals command.1 else (Last, command.1)))))

-- the texts of a person, a lamp and a hall
abbrev pub person_text : ℕ → List ℕ
person_text person = codes "p" ++ decimal person

abbrev pub lamp_text : ℕ → List ℕ
lamp_text lamp = codes "l" ++ decimal lamp

abbrev pub hall_text : ℕ → List ℕ
hall_text hall = codes "h" ++ decimal hall

-- the text of an event
unfoldable pub event_text : GeneratedEvent → List ℕ
event_text (Push person lamp) = codes "push(" ++ person_text person ++ codes "," ++ lamp_text lamp ++ codes ")"
event_text (Plug lamp) = codes "plug(" ++ lamp_text lamp ++ codes ")"
event_text (Unplug lamp) = codes "unplug(" ++ lamp_text lamp ++ codes ")"
event_text (Move person hall) = codes "move(" ++ person_text person ++ codes "," ++ hall_text hall ++ codes ")"
event_text (Leave person hall) = codes "leave(" ++ person_text person ++ codes "," ++ hall_text hall ++ codes ")"

-- the text of a line, without its line end
unfoldable pub line_text : GeneratedLine → List ℕ
line_text (Assert number time event) = codes "assert e" ++ decimal number ++ codes " " ++ decimal time ++ codes " " ++ event_text event
line_text (Retract number) = codes "retract e" ++ decimal number
line_text (HoldsLit lamp time) = codes "holds lit(" ++ lamp_text lamp ++ codes ") " ++ decimal time
line_text (HoldsAt person hall time) = codes "holds at(" ++ person_text person ++ codes "," ++ hall_text hall ++ codes ") " ++ decimal time
line_text (Intervals lamp) = codes "intervals lit(" ++ lamp_text lamp ++ codes ")"
line_text Last = codes "last"

-- the text of a line with its line end
abbrev pub ended_text : GeneratedLine → List ℕ
ended_text line = line_text line ++ line_feed ∷ []

-- the lines that are left, from that number and that state on
unfoldable pub drawn_lines : ℕ → ℕ → ℕ → List GeneratedLine
drawn_lines zero number x = []
drawn_lines (suc left) number x =
    let drawn = drawn_line number x in
    drawn.0 ∷ drawn_lines left (number + 1) drawn.1

-- so many lines, numbered from 1 and drawn from the seed
abbrev pub generated_lines : ℕ → ℕ → List GeneratedLine
generated_lines lines seed = drawn_lines lines 1 seed

-- the bytes of lines
abbrev pub load_of : List GeneratedLine → List ℕ
load_of lines = flat_map ended_text lines

-- the bytes of so many generated lines
unfoldable pub generated_load : ℕ → ℕ → List ℕ
generated_load lines seed = load_of (generated_lines lines seed)
