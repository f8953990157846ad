use Rattle.ec_soak.specs.Load.{generated_lines, generated_load}
use Rattle.ec_soak.proofs.CutLoads.{length-drawn_lines, lines_of-load, is_long-line_text}
use Rattle.ec_soak.proofs.laws.load_lines_law.Goals as goal

pub returns-clause-count : goal.returns-clause-count
returns-clause-count c lines seed = length-drawn_lines lines 1 seed

pub returns-clause-texts : goal.returns-clause-texts
unfolding generated_load
returns-clause-texts c lines seed = lines_of-load (generated_lines lines seed)

pub returns-clause-short : goal.returns-clause-short
returns-clause-short c line = is_long-line_text line
