-- The bits up to a place are those of the entries; what was told, with the turns of the entries that are left, is what is to be
-- told; and a step was taken for each entry.
use Rattle.std.proofs.Common.{◌≡◌, ◌+◌, ◌++◌, ℕ, false, ◌&&◌, drop}
use Rattle.std.specs.Prelude.{nat_lt, slice_get}
use Rattle.std.specs.Option.{option_map_or}
use Rattle.ec_parts.specs.Activity.{is_bit_set}
use Rattle.ec_sweep.specs.Acting.{acts, up_turns}
use Rattle.ec_sweep.proofs.turned.turn_up.Given as goal

abbrev pub invariant-loop-k : goal.invariant-loop-k
invariant-loop-k g l = record {
  bits : (j : ℕ) → is_bit_set l.word j ≡ (nat_lt j l.k && option_map_or (acts (g.C.Current.is_current l.current) (g.T.Moment.rank l.at)) (slice_get l.list j) false);
  told : l.fn.turns.items ++ up_turns (g.C.Current.is_current l.current) (g.T.Moment.rank l.at) l.list
      ≡ l.turns.items ++ up_turns (g.C.Current.is_current l.current) (g.T.Moment.rank l.at) (drop l.k l.list);
  counted : l.steps ≡ l.fn.steps + l.k;
}
