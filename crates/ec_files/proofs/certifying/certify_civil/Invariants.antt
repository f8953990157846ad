-- The ledger that the steps are counted on is that of the blank.
use Rattle.ec_files.proofs.certifying.certify_civil.Given as goal

abbrev pub ghosts-certify_in : goal.ghosts-certify_in
ghosts-certify_in g a = record { name = a.blank.name; parts = a.blank.parts }
