-- What the code's lines of an event file are among the plain ones: times by their ranks, terms as kept terms.
use Rattle.std.specs.Prelude.{ℤ, IsTrue}
use Rattle.ec_terms.specs.Term.{ground_of, names_are_names}
use Rattle.ec_cert.specs.EventFile.{FileLine as PlainLine, nothing, one_event, neither}
use Rattle.ec_cert.specs.declared.file_line.FileLine.{FileLine}
use Rattle.ec_cert.specs.declared.file_line.FileLine.TheVariants.{Nothing, Event, Neither}

-- the plain line that a line is
abbrev pub plain_line : {T : Type 0} → (T → ℤ) → FileLine T → PlainLine
plain_line rank Nothing = nothing
plain_line rank (Event id at term) = one_event (record { id = id; rank = rank at; term = ground_of term })
plain_line rank Neither = neither

-- the names in the term of an event are names
abbrev pub IsNamedLine : PlainLine → Type 0
IsNamedLine nothing = Unit {0}
IsNamedLine (one_event e) = IsTrue (names_are_names e.term)
IsNamedLine neither = Unit {0}
