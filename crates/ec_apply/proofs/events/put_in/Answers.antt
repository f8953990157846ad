-- The events so far are put in, and the last of those left is the next.
use Rattle.std.proofs.Common.{refl}
use Rattle.ec_apply.proofs.PutIn.{IsPutSoFar-more, IsPutSoFar-last, IsPutSoFar-none, absent-last, dependents-last, history-end, spare-last}
use Rattle.ec_apply.proofs.events.put_in.Goals as goal

pub loop-event-init : goal.loop-event-init
loop-event-init g c =
    IsPutSoFar-none g.T.Moment.rank c.args.add c.args.lists c.args.bits c.args.store.now.events c.args.entries.now.slots c.args.store.now c.args.entries.now refl refl
    c.requires.lists c.requires.bits c.requires.fresh c.requires.aligned c.requires.spare c.requires.places c.requires.dependents

pub put_one-requires-clause-absent : goal.put_one-requires-clause-absent
put_one-requires-clause-absent g c =
    let rank = g.T.Moment.rank in
    let so_far = IsPutSoFar-last rank c.args.add c.args.lists c.args.bits c.args.store.now.events c.args.entries.now.slots _ _ _ _ _ _ c.loop-event.store c.loop-event.entries
    c.in-Some.ensures.last c.in-Some-pop.ensures.last c.in-Some-pop-2.ensures.last c.loop-event.invariant in
    absent-last rank c.args.add c.args.lists c.args.bits c.args.store.now.events c.args.entries.now.slots c.pop.new.self c.pop-in-Some.new.self c.pop-in-Some-2.new.self c.in-Some.event c.in-Some-pop.list c.in-Some-pop-2.active
    c.loop-event.store c.loop-event.entries so_far

pub put_one-requires-clause-room : goal.put_one-requires-clause-room
put_one-requires-clause-room g c =
    let rank = g.T.Moment.rank in
    let so_far = IsPutSoFar-last rank c.args.add c.args.lists c.args.bits c.args.store.now.events c.args.entries.now.slots _ _ _ _ _ _ c.loop-event.store c.loop-event.entries
    c.in-Some.ensures.last c.in-Some-pop.ensures.last c.in-Some-pop-2.ensures.last c.loop-event.invariant in
    spare-last rank c.args.add c.args.lists c.args.bits c.args.store.now.events c.args.entries.now.slots c.pop.new.self c.pop-in-Some.new.self c.pop-in-Some-2.new.self c.in-Some.event c.in-Some-pop.list c.in-Some-pop-2.active
    c.loop-event.store c.loop-event.entries so_far

pub put_one-requires-clause-dependents : goal.put_one-requires-clause-dependents
put_one-requires-clause-dependents g c =
    let rank = g.T.Moment.rank in
    let so_far = IsPutSoFar-last rank c.args.add c.args.lists c.args.bits c.args.store.now.events c.args.entries.now.slots _ _ _ _ _ _ c.loop-event.store c.loop-event.entries
    c.in-Some.ensures.last c.in-Some-pop.ensures.last c.in-Some-pop-2.ensures.last c.loop-event.invariant in
    dependents-last rank c.args.add c.args.lists c.args.bits c.args.store.now.events c.args.entries.now.slots c.pop.new.self c.pop-in-Some.new.self c.pop-in-Some-2.new.self c.in-Some.event c.in-Some-pop.list c.in-Some-pop-2.active
    c.loop-event.store c.loop-event.entries so_far

pub put_one-requires-clause-aligned : goal.put_one-requires-clause-aligned
put_one-requires-clause-aligned g c = c.loop-event.invariant.aligned

pub put_one-requires-clause-places : goal.put_one-requires-clause-places
put_one-requires-clause-places g c = c.loop-event.invariant.places

pub loop-event-preserved : goal.loop-event-preserved
loop-event-preserved g c =
    let rank = g.T.Moment.rank in
    let so_far = IsPutSoFar-last rank c.args.add c.args.lists c.args.bits c.args.store.now.events c.args.entries.now.slots _ _ _ _ _ _ c.loop-event.store c.loop-event.entries
    c.in-Some.ensures.last c.in-Some-pop.ensures.last c.in-Some-pop-2.ensures.last c.loop-event.invariant in
    IsPutSoFar-more rank c.args.add c.args.lists c.args.bits c.args.store.now.events c.args.entries.now.slots c.pop.new.self c.pop-in-Some.new.self c.pop-in-Some-2.new.self c.in-Some.event c.in-Some-pop.list c.in-Some-pop-2.active
    c.loop-event.store c.loop-event.entries so_far c.put_one.new.store c.put_one.new.entries c.put_one.ensures.put c.put_one.ensures.spare c.put_one.ensures.places c.put_one.ensures.kept_places c.put_one.ensures.room

pub returns-clause-history : goal.returns-clause-history
returns-clause-history g c e =
    history-end g.T.Moment.rank c.args.add c.args.lists c.args.bits c.args.store.now.events c.args.entries.now.slots c.loop-event.add c.loop-event.lists c.loop-event.bits c.loop-event.store c.loop-event.entries
    c.loop-event.invariant (c.in_default.ensures.none) e

pub returns-clause-slots : goal.returns-clause-slots
returns-clause-slots g c = c.loop-event.invariant.slots
