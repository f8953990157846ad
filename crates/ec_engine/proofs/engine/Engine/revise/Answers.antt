-- Nothing is watched.
use Rattle.ec_engine.proofs.WatchedTails.{no_rows-ascend}
use Rattle.ec_engine.proofs.engine.Engine.revise.Goals as goal

pub revise_watched-requires-clause-ascend : goal.revise_watched-requires-clause-ascend
revise_watched-requires-clause-ascend g c = no_rows-ascend
