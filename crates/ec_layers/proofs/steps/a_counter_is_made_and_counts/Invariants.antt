-- The ledger that the counter counts on is that of the blank.
use Rattle.ec_layers.proofs.steps.a_counter_is_made_and_counts.Given as goal

abbrev pub ghosts-two_steps : goal.ghosts-two_steps
ghosts-two_steps a = record { name = a.blank.name; parts = a.blank.parts }
