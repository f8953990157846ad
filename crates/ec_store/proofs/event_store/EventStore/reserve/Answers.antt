-- Room alone changes.
use Rattle.std.proofs.Common.{None, refl, ap, slice_index_or, arith}
use Rattle.std.proofs.lemmas.Grind.{common_steps}
use Rattle.slab.specs.Slab.{Slab}
use Rattle.ec_store.proofs.StoreLemmas.{IsStore-same}
use Rattle.ec_store.proofs.event_store.EventStore.reserve.Goals as goal

pub invariant_of-self : goal.invariant_of-self
invariant_of-self g c =
    IsStore-same g.T.Moment.rank _ _ _ _ _ _ (λ n. ap (λ (s : Slab _). slice_index_or s.slots n None) c.reserve.ensures.rest_kept) refl refl c.self.invariant

pub invariant_of-self-in_err-reserve-2 : goal.invariant_of-self-in_err-reserve-2
invariant_of-self-in_err-reserve-2 g c =
    IsStore-same g.T.Moment.rank _ _ _ _ _ _ (λ n. ap (λ (s : Slab _). slice_index_or s.slots n None) c.reserve.ensures.rest_kept)
    c.reserve-2.ensures.same refl c.self.invariant

pub invariant_of-self-2 : goal.invariant_of-self-2
invariant_of-self-2 g c =
    IsStore-same g.T.Moment.rank _ _ _ _ _ _ (λ n. ap (λ (s : Slab _). slice_index_or s.slots n None) c.reserve.ensures.rest_kept)
    c.reserve-2.ensures.same c.reserve-3.ensures.same c.self.invariant

pub returns-clause-places : goal.returns-clause-places
returns-clause-places c = grind (arith, common_steps)

pub returns-in_err-reserve-2-clause-same : goal.returns-in_err-reserve-2-clause-same
returns-in_err-reserve-2-clause-same c = grind (arith, common_steps)

pub returns-clause-ok : goal.returns-clause-ok
returns-clause-ok c = grind (arith, common_steps)

pub returns-clause-kept : goal.returns-clause-kept
returns-clause-kept c = grind (arith, common_steps)
