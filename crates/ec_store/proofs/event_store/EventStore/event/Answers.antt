-- The record under a live slot is the event there.
use Rattle.std.proofs.Common.{sym, ap, ◌∙◌}
use Rattle.std.specs.Option.{option_copied}
use Rattle.slab.specs.Slab.{get as record_at}
use Rattle.ec_store.specs.Store.{Store}
use Rattle.ec_store.proofs.StoreLemmas.{IsSome-record, event_at-record, IsSome-from_copied}
use Rattle.ec_store.proofs.event_store.EventStore.event.Goals as goal

pub unwrap-requires : goal.unwrap-requires
unwrap-requires g c =
    IsSome-from_copied c.get.result _ c.get.ensures
    (IsSome-record g.T.Moment.rank (record_at c.self.inside.records) (g.X.TimeRow.times c.self.inside.times) _ c.args.slot (ap (λ (s : Store _). s.events) c.self.view_is) c.requires.live)

pub returns-clause-event : goal.returns-clause-event
returns-clause-event g c =
    event_at-record g.T.Moment.rank (record_at c.self.inside.records) (g.X.TimeRow.times c.self.inside.times) _ c.args.slot _ (ap (λ (s : Store _). s.events) c.self.view_is) c.requires.live
    (sym c.get.ensures ∙ ap option_copied c.unwrap.ensures)
