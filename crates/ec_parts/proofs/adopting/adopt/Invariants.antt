use Rattle.std.proofs.Common.{◌≡◌, vec_len}
use Rattle.ec_parts.specs.StandFor.{view_of}
use Rattle.ec_parts.proofs.Adoptions.{AreAdopted}
use Rattle.ec_parts.proofs.adopting.adopt.Given as goal

abbrev pub invariant-loop-p : goal.invariant-loop-p
invariant-loop-p g l = record {
  theory : l.parts.checked ≡ l.initial.parts.checked;
  adopted : AreAdopted g.T.Moment.rank l.initial.parts.checked l.initial.waiting.items (view_of l.initial.parts) l.initial.fresh.items l.waiting.items (view_of l.parts) l.fresh.items;
}

abbrev pub decreases-loop-p : goal.decreases-loop-p
decreases-loop-p g l = vec_len l.waiting
