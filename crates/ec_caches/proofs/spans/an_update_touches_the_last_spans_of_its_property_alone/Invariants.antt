-- The ledger that the counter counts on is that of the blank.
use Rattle.ec_caches.proofs.spans.an_update_touches_the_last_spans_of_its_property_alone.Given as goal

abbrev pub ghosts-passes : goal.ghosts-passes
ghosts-passes g a = record { name = a.blank.name; parts = a.blank.parts }
