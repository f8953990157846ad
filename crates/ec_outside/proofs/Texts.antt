-- How texts are put together.
use Rattle.std.proofs.Common.{append_assoc, append-nil}

-- parts that are added one after another are added joined
pub ruleset texts = (append_assoc, append-nil)
