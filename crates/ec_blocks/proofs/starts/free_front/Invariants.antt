-- The parts stand in front of the places that were added so far.
use Rattle.std.proofs.Common.{◌≡◌, ◌+◌, ◌-◌, ◌≤◌, take, vec_len}
use Rattle.std.specs.Vec.{vec_capacity}
use Rattle.ec_blocks.proofs.starts.free_front.Given as goal

abbrev pub invariant-loop-parts : goal.invariant-loop-parts
invariant-loop-parts l = record {
  kept : take l.count l.parts.items ≡ l.fn.parts.items;
  from : l.count ≤ vec_len l.parts;
  upto : vec_len l.parts ≤ l.all;
  room : vec_capacity l.fn.parts + (l.all - l.count) ≤ vec_capacity l.parts;
}

abbrev pub decreases-loop-parts : goal.decreases-loop-parts
decreases-loop-parts l = l.all - vec_len l.parts
