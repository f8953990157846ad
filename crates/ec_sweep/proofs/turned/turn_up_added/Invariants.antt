-- Words of the lists so far stand behind those of before; what was told, with the turns of the lists that are left, is what is to
-- be told; and so with the steps.
use Rattle.std.proofs.Common.{◌≡◌, ◌+◌, ◌++◌, take, drop, length, flat_map}
use Rattle.ec_sweep.specs.Acting.{AddsWords, added_turns}
use Rattle.ec_sweep.proofs.turned.turn_up_added.Given as goal

abbrev pub invariant-loop-list : goal.invariant-loop-list
invariant-loop-list g l = record {
  words : AddsWords (g.C.Current.is_current l.current) (g.T.Moment.rank l.at) (take l.list-index l.lists) l.fn.bits l.bits;
  told : l.fn.turns.items ++ added_turns (g.C.Current.is_current l.current) (g.T.Moment.rank l.at) l.lists
      ≡ l.turns.items ++ added_turns (g.C.Current.is_current l.current) (g.T.Moment.rank l.at) (drop l.list-index l.lists);
  counted : l.fn.steps + length (flat_map (λ list. list) l.lists) ≡ l.steps + length (flat_map (λ list. list) (drop l.list-index l.lists));
}
