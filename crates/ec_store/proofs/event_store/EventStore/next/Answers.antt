-- The entry at a position is that of the event there.
use Rattle.std.proofs.Common.{◌≡◌, ◌+◌, ◌≤◌, Some, length, get_or, slice_get, sym, subst, ap, ◌∙◌, arith}
use Rattle.slab.specs.Slab.{get as record_at}
use Rattle.ec_store.specs.Store.{Store}
use Rattle.ec_rows.proofs.RunLemmas.{slice_get-run}
use Rattle.ec_store.proofs.StoreLemmas.{next-event_at, next-live, next-slot, next-end}
use Rattle.ec_store.proofs.event_store.EventStore.next.Goals as goal

pub returns-then-place-len-clause-live : goal.returns-then-place-len-clause-live
returns-then-place-len-clause-live g c =
    next-live g.T.Moment.rank (record_at c.self.inside.records) _ (g.X.TimeRow.times c.self.inside.times) _ c.args.cursor (get_or c.run.result.now 0 c.index-run-0.result) c.self.invariant
    (ap (λ (s : Store _). s.events) c.self.view_is) (subst (λ n. slice_get (g.X.TimeRow.times c.self.inside.times) n ≡ Some (get_or c.run.result.now 0 c.index-run-0.result)) c.place-place.ensures
    (slice_get-run (g.X.TimeRow.times c.self.inside.times) c.run.result.now c.place-place.result c.index-run-0.result c.run.ensures.run c.run.ensures.some))

pub returns-then-place-len-clause-event : goal.returns-then-place-len-clause-event
returns-then-place-len-clause-event g c =
    next-event_at g.T.Moment.rank (record_at c.self.inside.records) _ (g.X.TimeRow.times c.self.inside.times) _ c.args.cursor (get_or c.run.result.now 0 c.index-run-0.result) c.self.invariant
    (ap (λ (s : Store _). s.events) c.self.view_is) (subst (λ n. slice_get (g.X.TimeRow.times c.self.inside.times) n ≡ Some (get_or c.run.result.now 0 c.index-run-0.result)) c.place-place.ensures
    (slice_get-run (g.X.TimeRow.times c.self.inside.times) c.run.result.now c.place-place.result c.index-run-0.result c.run.ensures.run c.run.ensures.some))

pub returns-else-place-len-clause-next : goal.returns-else-place-len-clause-next
returns-else-place-len-clause-next g c =
    let end : length (g.X.TimeRow.times c.self.inside.times) ≤ c.args.cursor = omega (arith, c.len.ensures.len, c.place-place.ensures, c.if-place-len.false) in
    let none = next-end g.T.Moment.rank (record_at c.self.inside.records) _ (g.X.TimeRow.times c.self.inside.times) _ c.args.cursor c.self.invariant (ap (λ (s : Store _). s.events) c.self.view_is) end in
    rw none

pub returns-then-place-len-clause-next : goal.returns-then-place-len-clause-next
returns-then-place-len-clause-next g c =
    ap (λ n. Some ((get_or c.run.result.now 0 c.index-run-0.result).2, n)) (c.at.ensures ∙ ap (λ n. n + 1) c.place-place.ensures)
    ∙ sym (next-slot g.T.Moment.rank (record_at c.self.inside.records) _ (g.X.TimeRow.times c.self.inside.times) _ c.args.cursor (get_or c.run.result.now 0 c.index-run-0.result) c.self.invariant
    (ap (λ (s : Store _). s.events) c.self.view_is) (subst (λ n. slice_get (g.X.TimeRow.times c.self.inside.times) n ≡ Some (get_or c.run.result.now 0 c.index-run-0.result)) c.place-place.ensures
    (slice_get-run (g.X.TimeRow.times c.self.inside.times) c.run.result.now c.place-place.result c.index-run-0.result c.run.ensures.run c.run.ensures.some)))
