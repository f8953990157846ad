-- Nothing is watched.
use Rattle.ec_engine.proofs.WatchedTails.{no_rows-ascend}
use Rattle.ec_engine.proofs.engine.Engine.retract.Goals as goal

pub retract_watched-requires : goal.retract_watched-requires
retract_watched-requires g c = record { ascend = no_rows-ascend }
