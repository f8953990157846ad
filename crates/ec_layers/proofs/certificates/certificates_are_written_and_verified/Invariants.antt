-- The ledger that the counter counts on is that of the blank.
use Rattle.ec_layers.proofs.certificates.certificates_are_written_and_verified.Given as goal

abbrev pub ghosts-check_tables : goal.ghosts-check_tables
ghosts-check_tables g a = record { name = a.blank.name; parts = a.blank.parts }
