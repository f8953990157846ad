-- The flush handed all on, or it failed and was counted.
use Rattle.std.proofs.Common.{refl, inl, inr}
use Rattle.ec_server.proofs.input.hand_on.Goals as goal

pub returns-in-Ok : goal.returns-in-Ok
returns-in-Ok g c = record {
  kept = c.flush.ensures.kept;
  either = inl refl;
  quiet = inr c.in-Ok.ensures.quiet;
  counted = c.flush.ensures.counted;
  handed_on = inr c.in-Ok.ensures.handed_on;
}

pub returns-in-Err : goal.returns-in-Err
returns-in-Err g c = record {
  kept = c.flush.ensures.kept;
  either = inr (refl, c.in-Err.ensures.failed);
  quiet = inl refl;
  counted = c.flush.ensures.counted;
  handed_on = inl refl;
}
