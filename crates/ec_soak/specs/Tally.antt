-- What is counted of the replies of a run, and the line that sums it up.
use Rattle.std.specs.Prelude.{◌≡◌, ℕ, ◌==◌, if◌then◌else◌, Bool, List, [], ◌∷◌, ◌++◌, length, take, min, count_by, codes, decimal}
use Rattle.std.specs.List.{before_first}
use Rattle.std.specs.Str.{bytes_eq}
use Rattle.ec_commands.specs.Lines.{cut_of, line_feed}
use Rattle.ec_outside.specs.Counts.{last_count, next_count}
use Rattle.ec_soak.specs.declared.counts.Counts.{Counts}
use Rattle.ec_soak.specs.declared.tally_sink.TheConstants.{KEPT}

-- the first word of a reply line: what stands before its first space
abbrev pub first_word : List ℕ → List ℕ
first_word line = before_first (λ byte. byte == 32) line

-- whether a line has this first word
abbrev pub has_first : List ℕ → List ℕ → Bool
has_first word line = bytes_eq (first_word line) word

-- whether a line says that memory ran out
abbrev pub is_memory : List ℕ → Bool
is_memory line = bytes_eq line (codes "refused memory")

-- a number as it is counted: the last number of 64 bits stands in place of a greater one
abbrev pub counted : ℕ → ℕ
counted number = min number last_count

-- the counts of an output: of its ended lines, and of its bytes
unfoldable pub counts_of : List ℕ → Counts
counts_of output =
    let lines = (cut_of output).ended in
    record {
      ok = counted (count_by (has_first (codes "ok")) lines);
      yes = counted (count_by (has_first (codes "yes")) lines);
      no = counted (count_by (has_first (codes "no")) lines);
      refused = counted (count_by (has_first (codes "refused")) lines);
      bytes = counted (length output);
      memory = counted (count_by is_memory lines);
    }

-- what is kept of an output: its counts, and the first bytes of the line behind its last line end
pub record Tally : Type 0 where
  pub counts : Counts
  pub begun : List ℕ

-- what is kept of this output
abbrev pub tally_of : List ℕ → Tally
tally_of output = record { counts = counts_of output; begun = take KEPT (cut_of output).rest }

-- it stands for each output of which that is kept
abbrev pub stands_for_tally : Tally → List ℕ → Type 0
stands_for_tally tally output = tally_of output ≡ tally

-- one more where a test passed
abbrev pub next_if : Bool → ℕ → ℕ
next_if test count = if test then next_count count else count

-- the counts with one more line
abbrev pub with_line : Counts → List ℕ → Counts
with_line counts line = record {
  ok = next_if (has_first (codes "ok") line) counts.ok;
  yes = next_if (has_first (codes "yes") line) counts.yes;
  no = next_if (has_first (codes "no") line) counts.no;
  refused = next_if (has_first (codes "refused") line) counts.refused;
  bytes = counts.bytes;
  memory = next_if (is_memory line) counts.memory;
}

-- the line that sums up a run over so many lines
unfoldable pub summary_line : ℕ → Counts → List ℕ
summary_line lines counts =
    codes "soak lines " ++ decimal lines ++ codes " ok " ++ decimal counts.ok ++ codes " yes " ++ decimal counts.yes ++ codes " no "
    ++ decimal counts.no ++ codes " refused " ++ decimal counts.refused ++ codes " bytes " ++ decimal counts.bytes ++ line_feed ∷ []

-- the line that sums up a run over so many lines with that output
abbrev pub summary_of : ℕ → List ℕ → List ℕ
summary_of lines output = summary_line lines (counts_of output)
