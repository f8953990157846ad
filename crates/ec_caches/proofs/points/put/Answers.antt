-- Room for all marks is room for those that are new, and room for all clashes is room for the new ones.
use Rattle.std.proofs.Common.{◌≡◌, ◌≤◌, ◌&&◌, not, ℕ, ℤ, List, length, None, ap, arith}
use Rattle.std.specs.List.{slice_index_or}
use Rattle.ec_lists.proofs.Filters.{length-filter_le}
use Rattle.ec_moment.specs.contracts.tick.TickMoment.TheImpl.{ghosts}
use Rattle.ec_points.specs.Changes.{Change, count_of, growth_of}
use Rattle.ec_points.specs.Clashes.{clashes_at, is_clash, new_clashes}
use Rattle.ec_points.specs.Table.{PointTable, marks_at, room_at, room_in}
use Rattle.ec_points.proofs.AppliedChanges.{growth-count}
use Rattle.ec_caches.proofs.points.put.Goals as goal

grows-enough : {T : Type 0} (rank : T → ℤ) (n : ℕ) (changes : List (Change T)) (old new : PointTable T) → new.rows ≡ old.rows →
    count_of n changes ≤ room_at n old → growth_of rank n changes (marks_at n new) ≤ room_at n new
grows-enough rank n changes old new rows enough =
    let few = growth-count rank n changes (marks_at n new) in
    let same : room_at n new ≡ room_at n old = ap (λ rows. room_in (slice_index_or rows n None)) rows in
    omega (arith, few, same, enough)

clashes-enough : {T : Type 0} (rank : T → ℤ) (table : PointTable T) (changes : List (Change T)) (k m : ℕ) → k ≡ length changes → k ≤ m →
    new_clashes rank (λ n t. clashes_at rank n t table) changes ≤ m
clashes-enough rank table changes k m all enough =
    let few = length-filter_le (λ (change : Change _). is_clash change.1 && not (clashes_at rank change.0.0 (rank change.1.at) table)) changes in
    omega (arith, few, all, enough)

pub loop-one-init : goal.loop-one-init
loop-one-init g c = λ n. let none = ap (count_of n) c.new-change.ensures in omega (arith, none)

pub add-requires : goal.add-requires
add-requires g c = c.loop-one.invariant

pub loop-one-preserved : goal.loop-one-preserved
loop-one-preserved g c = c.add.ensures

pub apply-requires-clause-room : goal.apply-requires-clause-room
apply-requires-clause-room g c = λ n.
    grows-enough (ghosts).rank n c.loop-one.change c.loop-one.points c.make_clash_room.new.points c.make_clash_room.ensures.rows (c.loop-one.invariant n)

pub apply-requires-clause-clash_room : goal.apply-requires-clause-clash_room
apply-requires-clause-clash_room g c =
    clashes-enough (ghosts).rank c.make_clash_room.new.points c.loop-one.change c.len.result c.make_clash_room.new.points.clash_room c.len.ensures.len c.make_clash_room.ensures.room
