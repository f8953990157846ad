-- The clash at the place where those behind the time begin is the next.
use Rattle.std.proofs.Common.{◌≡◌, ◌≤◌, ℕ, length, Some, subst, arith}
use Rattle.std.specs.Prelude.{slice_get}
use Rattle.ec_lists.specs.Reserved.{Reserved}
use Rattle.ec_points.specs.Clashes.{are_clashes}
use Rattle.ec_points.proofs.NextClash.{next-there, next-behind, next-least, none-behind}
use Rattle.ec_points.proofs.clashes.Clashes.next.Goals as goal

-- a list that is seen is read as it stands
read-seen : {X : Type 0} (list seen : Reserved X) (i : ℕ) (x : X) → list ≡ seen → slice_get list.items i ≡ Some x → slice_get seen.items i ≡ Some x
read-seen list seen i x is read = subst (λ (l : Reserved _). slice_get l.items i ≡ Some x) is read

pub returns-then-place-len-clause-some : goal.returns-then-place-len-clause-some
returns-then-place-len-clause-some g c =
    next-there g.T.Moment.rank c.args.after c.args.self.now.items c.place_behind-place.result c.place_behind-place.ensures c.get.result.now (read-seen c.self.inside.list c.args.self.now c.place_behind-place.result c.get.result.now c.self.view_is c.get.ensures)

pub returns-then-place-len-clause-behind : goal.returns-then-place-len-clause-behind
returns-then-place-len-clause-behind g c =
    next-behind g.T.Moment.rank c.args.after c.args.self.now.items c.place_behind-place.result c.place_behind-place.ensures c.get.result.now (read-seen c.self.inside.list c.args.self.now c.place_behind-place.result c.get.result.now c.self.view_is c.get.ensures)

pub returns-then-place-len-clause-least : goal.returns-then-place-len-clause-least
returns-then-place-len-clause-least g c =
    next-least g.T.Moment.rank c.args.after c.args.self.now.items c.place_behind-place.result c.place_behind-place.ensures c.get.result.now (read-seen c.self.inside.list c.args.self.now c.place_behind-place.result c.get.result.now c.self.view_is c.get.ensures)
    (subst (λ (list : Reserved _). are_clashes g.T.Moment.rank list.items ≡ _) c.self.view_is c.self.invariant)

pub returns-else-place-len-clause-none : goal.returns-else-place-len-clause-none
returns-else-place-len-clause-none g c =
    none-behind g.T.Moment.rank c.args.after c.args.self.now.items c.place_behind-place.result c.place_behind-place.ensures
    (subst (λ (list : Reserved _). length list.items ≤ c.place_behind-place.result) c.self.view_is (omega (arith, c.if-place-len.false, c.len.ensures)))
