-- Both sides are the place of the identity under the slot, or that of a slot without an event, behind all.
use Rattle.std.proofs.Common.{rules}
use Rattle.ec_store.proofs.identities.SoughtIdentitySought.compare.Goals as goal

pub returns-in-Some : goal.returns-in-Some
returns-in-Some g c = search rules

pub returns-in-None : goal.returns-in-None
returns-in-None g c = search rules
