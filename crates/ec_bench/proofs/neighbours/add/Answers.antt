-- What was kept is kept as before.
use Rattle.ec_exclusive.proofs.SameTerms.{AreNeighbours-kept}
use Rattle.ec_bench.proofs.neighbours.add.Goals as goal

pub returns-then-is_added : goal.returns-then-is_added
returns-then-is_added c =
    AreNeighbours-kept c.args.theory.now c.args.tables.now.props c.intern.new.self c.args.tables.now.neighbours c.intern.ensures.others c.requires.neighbours

pub add-requires-clause-neighbours : goal.add-requires-clause-neighbours
add-requires-clause-neighbours c =
    AreNeighbours-kept c.args.theory.now c.args.tables.now.props c.intern.new.self c.args.tables.now.neighbours c.intern.ensures.others c.requires.neighbours
