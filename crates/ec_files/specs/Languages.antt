-- The language of a theory: how its times are spelt and written.
use Rattle.std.specs.Prelude.{ℕ, ℤ, List, Option}
use Rattle.ec_moment.specs.Number.{number_text, number_value}
use Rattle.ec_civil.specs.Civil.{civil_text, civil_value}
use Rattle.ec_terms.specs.declared.theory.TimeKind.{TimeKind}
use Rattle.ec_terms.specs.declared.theory.TimeKind.TheVariants.{Tick, Civil}
use Rattle.ec_terms.specs.declared.theory.Theory.{Theory}
use Rattle.ec_terms.specs.Domain.{time_of}
use Rattle.ec_replies.specs.Replies.{Language}

-- the rank of the time of a kind that bytes spell, if they spell one
abbrev pub spelt_in : TimeKind → List ℕ → Option ℤ
spelt_in Tick = number_value
spelt_in Civil = civil_value

-- the text of the time of a kind with a rank
abbrev pub canon_in : TimeKind → ℤ → List ℕ
canon_in Tick = number_text
canon_in Civil = civil_text

-- a theory with times of a kind
abbrev pub language_in : TimeKind → Theory → Language
language_in kind theory = record { theory = theory; spelt = spelt_in kind; canon = canon_in kind }

-- a theory with times of its own kind
abbrev pub language_of : Theory → Language
language_of theory = language_in (time_of theory) theory
