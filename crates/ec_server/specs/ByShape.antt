-- What a run needs and what it may leave, by the shape of its words.
use Rattle.std.specs.Prelude.{◌≡◌, ◌⊎◌, ℕ, Bool, true, false, List, Option, Some, IsSome}
use Rattle.ec_terms.specs.declared.theory.Theory.{Theory}
use Rattle.ec_commands.specs.Lines.{lines_of}
use Rattle.ec_outside.specs.Files.{Files, IsMissing, IsTooLong}
use Rattle.ec_outside.specs.Streams.{AppendedPart, Took}
use Rattle.ec_server.specs.Answered.{AnswersPart}
use Rattle.ec_files.specs.Languages.{language_of}
use Rattle.ec_server.specs.Ending.{IsBroken}
use Rattle.ec_server.specs.InputLimits.{most_input, IsShort}
use Rattle.ec_files.specs.Claims.{HasOutcome, IsAnswer, answer, long_file, no_file}
use Rattle.ec_files.specs.LineFiles.{HasLines, most_replayed}
use Rattle.ec_server.specs.Soaking.{IsSoakLine}
use Rattle.ec_files.specs.TheoryFiles.{HasTheory, IsNoTheory, accepted_line, most_theory_bytes}
use Rattle.ec_files.specs.Words.{Shape, certify, check_theory, replay_lines, serve_theory, soak_lines}

-- ---- files

-- the theory that the words name is refused, and this is said of it
abbrev pub IsRefused : Shape → Option Files → List ℕ → Type 0
IsRefused (check_theory name) told text = IsNoTheory told name text
IsRefused (serve_theory name) told text = IsNoTheory told name text
IsRefused (replay_lines name lines) told text = IsNoTheory told name text
IsRefused (soak_lines lines seed) told text = ⊥
IsRefused (certify claim) told text = IsNoTheory told claim.theory text

-- the file of the theory is too long
abbrev pub HasLongTheory : Shape → Option Files → Type 0
HasLongTheory (check_theory name) told = IsTooLong told name most_theory_bytes
HasLongTheory (serve_theory name) told = IsTooLong told name most_theory_bytes
HasLongTheory (replay_lines name lines) told = IsTooLong told name most_theory_bytes
HasLongTheory (soak_lines lines seed) told = ⊥
HasLongTheory (certify claim) told = IsTooLong told claim.theory most_theory_bytes

-- a file that the words name is missing
abbrev pub LacksFile : Shape → Option Files → Type 0
LacksFile (check_theory name) told = IsMissing told name
LacksFile (serve_theory name) told = IsMissing told name
LacksFile (replay_lines name lines) told = IsMissing told name ⊎ IsMissing told lines
LacksFile (soak_lines lines seed) told = ⊥
LacksFile (certify claim) told = IsMissing told claim.theory ⊎ ((theory : Theory) × HasTheory told claim.theory theory × HasOutcome told (language_of theory) claim no_file)

-- `replay` and what decides a claim read files of lines
abbrev pub reads_lines : Shape → Bool
reads_lines (check_theory name) = false
reads_lines (serve_theory name) = false
reads_lines (replay_lines name lines) = true
reads_lines (soak_lines lines seed) = false
reads_lines (certify claim) = true

-- the theory is accepted, and a file of lines is too long, or a certificate
abbrev pub HasLongLines : Shape → Option Files → Type 0
HasLongLines (check_theory name) told = ⊥
HasLongLines (serve_theory name) told = ⊥
HasLongLines (replay_lines name lines) told = ((theory : Theory) × HasTheory told name theory) × IsTooLong told lines most_replayed
HasLongLines (soak_lines lines seed) told = ⊥
HasLongLines (certify claim) told = (theory : Theory) × HasTheory told claim.theory theory × HasOutcome told (language_of theory) claim long_file

-- ---- what is served

-- only `serve` takes input
abbrev pub takes_input : Shape → Bool
takes_input (check_theory name) = false
takes_input (serve_theory name) = true
takes_input (replay_lines name lines) = false
takes_input (soak_lines lines seed) = false
takes_input (certify claim) = false

-- The theory and the bytes that are served: the theory in its file, and what is left of the input or what stands in the file of
-- lines. The other shapes serve no lines of the outside.
abbrev pub Serves : Option Files → Option (List ℕ) → Shape → Theory → List ℕ → Type 0
Serves told left (check_theory name) theory text = ⊥
Serves told left (serve_theory name) theory text = HasTheory told name theory × (left ≡ Some text)
Serves told left (replay_lines name lines) theory text = HasTheory told name theory × HasLines told lines text
Serves told left (soak_lines lines seed) theory text = ⊥
Serves told left (certify claim) theory text = ⊥

-- the folder and the source tell what is served
abbrev pub TellsServed : Option Files → Option (List ℕ) → Shape → Type 0
TellsServed told left (check_theory name) = ⊥
TellsServed told left (serve_theory name) = IsSome told × IsSome left
TellsServed told left (replay_lines name lines) = IsSome told
TellsServed told left (soak_lines lines seed) = ⊥
TellsServed told left (certify claim) = ⊥

-- all is there for a run that is to end with 0: the theory, and an input or a file of lines that is not too long, or an answer to the claim
abbrev pub IsReady : Option Files → Option (List ℕ) → Shape → Type 0
IsReady told left (check_theory name) = (theory : Theory) × HasTheory told name theory
IsReady told left (serve_theory name) =
    (theory : Theory) × (text : List ℕ) × HasTheory told name theory × (left ≡ Some text) × IsShort (language_of theory) most_input text
IsReady told left (replay_lines name lines) = (theory : Theory) × (text : List ℕ) × HasTheory told name theory × HasLines told lines text
IsReady told left (soak_lines lines seed) = Unit {0}
IsReady told left (certify claim) =
    (theory : Theory) × (text : List ℕ) × HasTheory told claim.theory theory × HasOutcome told (language_of theory) claim (answer text)

-- ---- what is written where the output fails

-- A first part of the one line that is to be written, or of the replies to the lines that were read: the whole lines of what was
-- taken of an input, and its last line only at its end. The files are those of the folder, where it tells them.
abbrev pub WrotePart : {K : Type 0} → (K → List ℕ → Type 0) → Option Files → Option (List ℕ) → Option (List ℕ) → Shape → K → K → Type 0
WrotePart stands told before after (check_theory name) old new =
    (theory : Theory) × (IsSome told → HasTheory told name theory) × AppendedPart stands old new (accepted_line theory)
WrotePart stands told before after (serve_theory name) old new =
    (theory : Theory) × (IsSome told → HasTheory told name theory)
    × ((taken : List ℕ) × Took before after taken × IsBroken stands (language_of theory) after taken old new)
WrotePart stands told before after (replay_lines name lines) old new =
    (theory : Theory) × (IsSome told → HasTheory told name theory)
    × ((text : List ℕ) × (IsSome told → HasLines told lines text) × AnswersPart stands (language_of theory) (lines_of text) old new)
WrotePart stands told before after (soak_lines lines seed) old new = (text : List ℕ) × IsSoakLine lines seed text × AppendedPart stands old new text
WrotePart stands told before after (certify claim) old new =
    (theory : Theory) × (IsSome told → HasTheory told claim.theory theory)
    × ((text : List ℕ) × IsAnswer told (language_of theory) claim text × AppendedPart stands old new text)
