-- A store without entries.
use Rattle.std.proofs.Common.{arith}
use Rattle.std.proofs.lemmas.Grind.{common_steps}
use Rattle.ec_store.proofs.StoreLemmas.{IsStore-nil}
use Rattle.ec_store.proofs.event_store.EventStore.new.Goals as goal

pub invariant_of-result : goal.invariant_of-result
invariant_of-result g c = IsStore-nil g.T.Moment.rank _ _ _ c.in_ok-new.ensures c.new-2.ensures

pub returns : goal.returns
returns c = grind (arith, common_steps)
