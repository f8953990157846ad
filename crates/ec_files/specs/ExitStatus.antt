-- The exit status of the program.
use Rattle.std.specs.Prelude.{◌≡◌, ℕ, Bool, true, false}
use Rattle.ec_files.specs.declared.status.Status.{Status}
use Rattle.ec_files.specs.declared.status.Status.TheVariants as status

-- the number of a status
unfoldable pub code_of : Status → ℕ
code_of status.Done = 0
code_of status.NoShape = 2
code_of status.BadTheory = 3
code_of status.ReadFault = 4
code_of status.WriteFault = 5
code_of status.NoMemory = 6
code_of status.FolderFault = 7
code_of status.LimitReached = 8
code_of status.LongLines = 9
code_of status.BadEvents = 10

-- whether a run with a status has handed on all that it wrote: it answered all lines, or those that it could read
unfoldable pub hands_on : Status → Bool
hands_on status.Done = true
hands_on status.NoShape = false
hands_on status.BadTheory = false
hands_on status.ReadFault = true
hands_on status.WriteFault = false
hands_on status.NoMemory = false
hands_on status.FolderFault = false
hands_on status.LimitReached = true
hands_on status.LongLines = false
hands_on status.BadEvents = false

-- the exit statuses of the program
abbrev pub IsExitCode : ℕ → Type 0
IsExitCode code = (s : Status) × (code ≡ code_of s)
