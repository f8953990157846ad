-- The ledger that the counter counts on is that of the blank.
use Rattle.ec_layers.proofs.event_files.files_are_read_or_refused.Given as goal

abbrev pub ghosts-check_files : goal.ghosts-check_files
ghosts-check_files g a = record { name = a.blank.name; parts = a.blank.parts }
