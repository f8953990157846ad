-- Nothing is watched.
use Rattle.ec_engine.proofs.WatchedTails.{no_rows-ascend}
use Rattle.ec_engine.proofs.engine.Engine.assert.Goals as goal

pub assert_watched-requires-clause-ascend : goal.assert_watched-requires-clause-ascend
assert_watched-requires-clause-ascend g c = no_rows-ascend
