-- A table without a row stands for no watch.
use Rattle.std.proofs.Common.{arith, sym, subst, ◌≡◌, []}
use Rattle.ec_watch.specs.Watched.{AreRows}
use Rattle.ec_watch.proofs.Rows.{AreRows-none, watched_by_each-none}
use Rattle.ec_watch.proofs.watches.Watches.new.Goals as goal

pub returns : goal.returns
returns c = let none = watched_by_each-none in grind (arith, none)

pub invariant_of-result : goal.invariant_of-result
invariant_of-result c = let empty : c.reserve.new.self.items ≡ [] = grind arith in (subst AreRows (sym empty) AreRows-none, grind arith)
