-- What stands in the lists so far, with what is left, is what is to stand there, and there is room for it.
use Rattle.std.proofs.Common.{◌≡◌, ◌≤◌, ◌+◌, ◌++◌, length, map}
use Rattle.std.specs.Vec.{vec_len, vec_capacity}
use Rattle.ec_batch.proofs.net_changes.change_of.Given as goal

abbrev pub invariant-loop-added : goal.invariant-loop-added
invariant-loop-added g l = record {
  add : l.add.items ++ map (λ added. added.event) l.added-iterator.rest.items ≡ map (λ added. added.event) l.fn.gathered.coming.items;
  entries : l.entries.items ++ map (λ added. added.entries) l.added-iterator.rest.items ≡ map (λ added. added.entries) l.fn.gathered.coming.items;
  room : vec_len l.add + length l.added-iterator.rest.items ≤ vec_capacity l.add;
  entries_room : vec_len l.entries + length l.added-iterator.rest.items ≤ vec_capacity l.entries;
}
