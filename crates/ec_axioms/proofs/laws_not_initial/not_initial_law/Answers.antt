-- What is not initial has no other source of currency, begins and mentions.
use Rattle.ec_axioms.proofs.NotInitial.{CurrentOnlyIfCarriedOver-law, BegunOnlyByAStart-law, LiveOnlyIfMentioned-law}
use Rattle.ec_axioms.proofs.laws_not_initial.not_initial_law.Goals as goal

pub returns : goal.returns
returns c = record { current = CurrentOnlyIfCarriedOver-law; begun = BegunOnlyByAStart-law; live = LiveOnlyIfMentioned-law }
