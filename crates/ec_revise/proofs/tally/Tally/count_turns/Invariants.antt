-- The turns up to the index are tallied.
use Rattle.std.proofs.Common.{◌≡◌, ◌||◌, take}
use Rattle.std.specs.Prelude.{is_some}
use Rattle.std.specs.List.{list_any}
use Rattle.ec_terms.specs.declared.ids.PropId.{PropId}
use Rattle.ec_revise.specs.TurnCounts.{IsTallyAt, counts_at, row_at, tallied_at}
use Rattle.ec_revise.proofs.tally.Tally.count_turns.Given as goal

abbrev pub invariant-loop-turn : goal.invariant-loop-turn
invariant-loop-turn l = record {
  tallied : (p : PropId) → IsTallyAt l.neighbours.rows (take l.turn-index l.turns) p (tallied_at p l.self);
  rows : (p : PropId) → is_some (row_at p.0 l.self) ≡ (list_any (counts_at l.neighbours.rows p) (take l.turn-index l.turns) || is_some (row_at p.0 l.initial.self));
}
