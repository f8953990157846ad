-- A run over generated lines: its theory, and the line that sums it up.
use Rattle.std.specs.Prelude.{◌≡◌, ℕ, List, codes}
use Rattle.ec_terms.specs.declared.theory.Theory.{Theory}
use Rattle.ec_axioms.specs.Examples.{theory_b}
use Rattle.ec_commands.specs.Lines.{lines_of}
use Rattle.ec_replies.specs.Runs.{IsRun}
use Rattle.ec_soak.specs.declared.counts.Counts.{Counts}
use Rattle.ec_soak.specs.Load.{generated_load}
use Rattle.ec_soak.specs.Tally.{counts_of, summary_line}
use Rattle.ec_files.specs.Languages.{language_of}

-- the text of the theory: lamps, and people who are at one place each
unfoldable pub soak_text : List ℕ
soak_text = codes "initiates push(P,L) lit(L) if powered(L), not lit(L).\nterminates push(P,L) lit(L) if lit(L).\ninitiates plug(L) powered(L).\nterminates unplug(L) powered(L).\nterminates unplug(L) lit(L).\ninitiates move(P,Y) at(P,Y).\nterminates leave(P,Y) at(P,Y).\nexclusive at(X,Y) at(X,Z).\nstrong at/2.\n"

-- the theory of that text
abbrev pub soak_theory : Theory
soak_theory = theory_b

-- the counts of the replies to so many lines drawn from a seed, where memory ran out for none of them
pub record IsSoaked (lines seed : ℕ) (counts : Counts) : Type 0 where
  pub out : List ℕ
  pub run : IsRun (language_of soak_theory) (lines_of (generated_load lines seed)) out
  pub counts_are : counts ≡ counts_of out
  pub no_memory : counts.memory ≡ 0

-- the line that sums up such a run
abbrev pub IsSoakLine : ℕ → ℕ → List ℕ → Type 0
IsSoakLine lines seed text = (counts : Counts) × IsSoaked lines seed counts × (text ≡ summary_line lines counts)
