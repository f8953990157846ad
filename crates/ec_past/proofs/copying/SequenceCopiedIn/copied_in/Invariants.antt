-- The members so far are copied.
use Rattle.std.proofs.Common.{◌≡◌, take}
use Rattle.ec_past.proofs.copying.SequenceCopiedIn.copied_in.Given as goal

abbrev pub invariant-loop-item : goal.invariant-loop-item
invariant-loop-item g l = l.copies.items ≡ take l.item-index l.self
