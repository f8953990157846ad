-- Where the property would have its row none is its own.
use Rattle.ec_terms.specs.Term.{ground_of}
use Rattle.ec_watch.proofs.Places.{HasNoRow-free}
use Rattle.ec_watch.proofs.watches.find_row.Goals as goal

pub returns-in-Err-clause-none : goal.returns-in-Err-clause-none
returns-in-Err-clause-none c = HasNoRow-free (ground_of c.args.p.now) c.args.rows.now c.in-Err.field-0 c.in-Err.ensures.free
