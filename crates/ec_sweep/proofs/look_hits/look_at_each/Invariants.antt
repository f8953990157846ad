-- What was told, with the turns of the hits that are left, is what is to be told; the words say which of the hits so far act;
-- two steps were taken for each of them; and the hit at any place has an entry.
use Rattle.std.proofs.Common.{◌≡◌, ℕ, ◌+◌, ◌*◌, ◌++◌, Some, IsSome, filter_map, take, drop}
use Rattle.std.specs.Prelude.{slice_get}
use Rattle.ec_sweep.specs.declared.hits.Hit.{Hit}
use Rattle.ec_sweep.specs.Acting.{WordsHit, entry_at, turn_at}
use Rattle.ec_sweep.proofs.look_hits.look_at_each.Given as goal

abbrev pub invariant-loop-i : goal.invariant-loop-i
invariant-loop-i g l = record {
  told : l.fn.turns.items ++ filter_map (turn_at (g.C.Current.is_current l.current) (g.T.Moment.rank l.at) l.entries.slots) l.hits
      ≡ l.turns.items ++ filter_map (turn_at (g.C.Current.is_current l.current) (g.T.Moment.rank l.at) l.entries.slots) (drop l.i l.hits);
  words : WordsHit (g.C.Current.is_current l.current) (g.T.Moment.rank l.at) l.entries.slots (take l.i l.hits) l.fn.words l.words;
  counted : l.steps ≡ l.fn.steps + 2 * l.i;
  there : (n : ℕ) (hit : Hit) → slice_get l.hits n ≡ Some hit → IsSome (entry_at l.entries.slots hit);
}
