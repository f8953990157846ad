-- Kept entries balance by what turned; the others are those of removed and added events.
use Rattle.ec_changes.proofs.TurnAccounts.{EffectsFollowTurns-law}
use Rattle.ec_changes.proofs.laws_turns.effects_follow_turns_law.Goals as goal

pub returns : goal.returns
returns c = EffectsFollowTurns-law
