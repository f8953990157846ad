-- The ledger that the counter counts on is that of the blank.
use Rattle.ec_caches.proofs.entries.active_bits_are_those_of_one_slot.Given as goal

abbrev pub ghosts-records_are_apart : goal.ghosts-records_are_apart
ghosts-records_are_apart g a = record { name = a.blank.name; parts = a.blank.parts }
