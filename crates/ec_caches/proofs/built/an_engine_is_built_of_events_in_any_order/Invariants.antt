-- The ledger that the counter counts on is that of the blank.
use Rattle.ec_caches.proofs.built.an_engine_is_built_of_events_in_any_order.Given as goal

abbrev pub ghosts-builds : goal.ghosts-builds
ghosts-builds g a = record { name = a.blank.name; parts = a.blank.parts }
