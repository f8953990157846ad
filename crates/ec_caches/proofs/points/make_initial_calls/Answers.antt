-- 2 stands before 5.
use Rattle.std.proofs.Common.{refl}
use Rattle.ec_rows.specs.Ordered.{is_ascending}
use Rattle.ec_caches.proofs.points.make_initial_calls.Goals as goal

pub with_initials-requires : goal.with_initials-requires
unfolding is_ascending
with_initials-requires g c = refl
