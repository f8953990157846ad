-- A property that goes is kept until it has gone from the lists.
use Rattle.std.proofs.Common.{◌≡◌, true, ap, ◌∙◌, arith}
use Rattle.ec_exclusive.specs.Added.{is_added}
use Rattle.ec_exclusive.proofs.SameTerms.{kept-added, AreNeighbours-forgotten, absent-left}
use Rattle.ec_caches.proofs.exclusive.leave.Goals as goal

pub mentions-requires : goal.mentions-requires
mentions-requires c =
    let there : is_added c.args.p c.args.tables.now.neighbours.rows ≡ true = grind (arith, c.is_added.ensures.added, c.if-not-is_added.false) in
    kept-added c.args.theory.now c.args.tables.now.props c.args.tables.now.neighbours c.args.p c.requires there

pub returns : goal.returns
returns c =
    AreNeighbours-forgotten c.args.theory.now c.args.tables.now.props c.forget.new.self c.drop_prop.new.self c.args.p
    (ap (is_added c.args.p) c.drop_prop.ensures.rows ∙ absent-left c.args.p c.args.tables.now.neighbours.rows) c.forget.ensures.others
    (c.drop_prop.ensures.neighbours c.args.theory.now c.args.tables.now.props c.requires)
