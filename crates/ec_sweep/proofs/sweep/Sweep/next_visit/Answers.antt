-- The earliest of the first times of three lists in order.
use Rattle.ec_sweep.proofs.NextVisit.{NothingLeft-none, NothingLeftBefore-next, first_time-is, has_visit_at-next, if_none}
use Rattle.ec_sweep.proofs.sweep.Sweep.next_visit.Goals as goal
use Rattle.ec_store.proofs.FoundLemmas.{IfSome-from}

pub returns-clause-first : goal.returns-clause-first
returns-clause-first g c =
    IfSome-from c.earlier.result _
    (NothingLeftBefore-next g.T.Moment.rank c.args.change.now c.args.self.now.progress c.args.self.now.agenda c.first_time-due.result c.earlier-single.result
    c.next_removed-removed.result c.next_added-added.result c.earlier.result
    (first_time-is c.first_time-due.result c.args.self.now.agenda c.first_time-due.ensures.some c.first_time-due.ensures.none) c.next_removed-removed.ensures c.next_added-added.ensures
    c.earlier.ensures.first c.earlier.ensures.second c.earlier-single.ensures.first c.earlier-single.ensures.second c.earlier.ensures.either c.earlier-single.ensures.either
    c.earlier.ensures.none c.earlier-single.ensures.none c.is_empty.ensures.order c.requires)

pub returns-clause-there : goal.returns-clause-there
returns-clause-there g c =
    IfSome-from c.earlier.result _
    (has_visit_at-next g.T.Moment.rank c.args.change.now c.args.self.now.progress c.args.self.now.agenda c.first_time-due.result c.earlier-single.result
    c.next_removed-removed.result c.next_added-added.result c.earlier.result
    (first_time-is c.first_time-due.result c.args.self.now.agenda c.first_time-due.ensures.some c.first_time-due.ensures.none) c.next_removed-removed.ensures c.next_added-added.ensures
    c.earlier.ensures.first c.earlier.ensures.second c.earlier-single.ensures.first c.earlier-single.ensures.second c.earlier.ensures.either c.earlier-single.ensures.either
    c.earlier.ensures.none c.earlier-single.ensures.none)

pub returns-clause-none : goal.returns-clause-none
returns-clause-none g c =
    if_none c.earlier.result _
    (NothingLeft-none g.T.Moment.rank c.args.change.now c.args.self.now.progress c.args.self.now.agenda c.first_time-due.result c.earlier-single.result
    c.next_removed-removed.result c.next_added-added.result c.earlier.result
    (first_time-is c.first_time-due.result c.args.self.now.agenda c.first_time-due.ensures.some c.first_time-due.ensures.none) c.next_removed-removed.ensures c.next_added-added.ensures
    c.earlier.ensures.first c.earlier.ensures.second c.earlier-single.ensures.first c.earlier-single.ensures.second c.earlier.ensures.either c.earlier-single.ensures.either
    c.earlier.ensures.none c.earlier-single.ensures.none c.first_time-due.ensures.none)
