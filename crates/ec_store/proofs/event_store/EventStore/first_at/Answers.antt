-- As many entries as events are before a time.
use Rattle.std.proofs.Common.{length, ap, ◌∙◌}
use Rattle.ec_store.specs.Store.{Store, kept_before}
use Rattle.ec_store.proofs.StoreLemmas.{length-before}
use Rattle.ec_store.proofs.event_store.EventStore.first_at.Goals as goal

pub returns : goal.returns
returns g c =
    c.at.ensures ∙ c.first_at.ensures.count ∙ length-before g.T.Moment.rank _ _ _ (g.T.Moment.rank c.args.at) c.self.invariant
    ∙ ap (λ (s : Store _). length (kept_before g.T.Moment.rank (g.T.Moment.rank c.args.at) s.events)) c.self.view_is
