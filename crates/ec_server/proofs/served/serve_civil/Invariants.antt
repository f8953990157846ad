-- The ledger that the steps are counted on is that of the blank.
use Rattle.ec_server.proofs.served.serve_civil.Given as goal

abbrev pub ghosts-serve_counted : goal.ghosts-serve_counted
ghosts-serve_counted g a = record { name = a.blank.name; parts = a.blank.parts }
