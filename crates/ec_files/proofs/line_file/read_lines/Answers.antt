-- The bytes are those of the file, and no more than may be.
use Rattle.ec_files.proofs.line_file.read_lines.Goals as goal

pub returns-in-Ok-clause-bytes : goal.returns-in-Ok-clause-bytes
returns-in-Ok-clause-bytes g c = λ tells. record { file = c.in-Ok.ensures.exact tells; fits = c.in-Ok.ensures.within }
