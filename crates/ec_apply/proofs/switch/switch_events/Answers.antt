use Rattle.std.proofs.Common.{◌≤◌, sym, subst, arith}
use Rattle.ec_entries.specs.Dependents.{room_of}
use Rattle.ec_apply.proofs.NewEvents.{aligned-flipped, aligned-left, apart-removals, entries-new, fresh, history-new, length-lists, live-flips, live-removals}
use Rattle.ec_apply.proofs.switch.switch_events.Goals as goal

pub set_flips-requires : goal.set_flips-requires
set_flips-requires g c =
    let s = c.requires.switch in
    live-flips g.T.Moment.rank s.theory s.table s.new c.args.change c.args.looked c.args.store.now c.args.entries.now c.len.ensures.history s.switch.is_change s.switch.bits s.switch.entries

pub take_out-requires-clause-aligned : goal.take_out-requires-clause-aligned
take_out-requires-clause-aligned g c =
    let s = c.requires.switch in
    aligned-flipped g.T.Moment.rank s.theory s.table s.new c.args.change c.args.looked c.args.store.now c.args.entries.now c.len.ensures.history s.switch.is_change s.switch.bits s.switch.entries
    c.set_flips.new.entries c.set_flips.ensures.slots

pub take_out-requires-clause-live : goal.take_out-requires-clause-live
take_out-requires-clause-live g c =
    let s = c.requires.switch in
    live-removals g.T.Moment.rank s.theory s.table s.new c.args.change c.args.looked c.args.store.now c.args.entries.now c.len.ensures.history s.switch.is_change s.switch.bits s.switch.entries

pub take_out-requires-clause-apart : goal.take_out-requires-clause-apart
take_out-requires-clause-apart g c =
    let s = c.requires.switch in
    apart-removals g.T.Moment.rank s.theory s.table s.new c.args.change c.args.looked c.args.store.now c.args.entries.now c.len.ensures.history s.switch.is_change s.switch.bits s.switch.entries

pub put_in-requires-clause-lists : goal.put_in-requires-clause-lists
put_in-requires-clause-lists g c =
    let s = c.requires.switch in
    length-lists g.T.Moment.rank s.theory s.table s.new c.args.change c.args.looked c.args.store.now c.args.entries.now c.len.ensures.history s.switch.is_change s.switch.bits s.switch.entries

pub put_in-requires-clause-bits : goal.put_in-requires-clause-bits
put_in-requires-clause-bits g c = c.requires.switch.switch.bits.added.each

pub put_in-requires-clause-fresh : goal.put_in-requires-clause-fresh
put_in-requires-clause-fresh g c =
    let s = c.requires.switch in
    fresh g.T.Moment.rank s.theory s.table s.new c.args.change c.args.looked c.args.store.now c.args.entries.now c.len.ensures.history s.switch.is_change s.switch.bits s.switch.entries
    c.take_out.new.store.events c.take_out.ensures.events

pub put_in-requires-clause-aligned : goal.put_in-requires-clause-aligned
put_in-requires-clause-aligned g c =
    let s = c.requires.switch in
    aligned-left g.T.Moment.rank s.theory s.table s.new c.args.change c.args.looked c.args.store.now c.args.entries.now c.len.ensures.history s.switch.is_change s.switch.bits s.switch.entries
    c.set_flips.new.entries c.set_flips.ensures.slots c.take_out.new.entries c.take_out.new.store.events c.take_out.ensures.events c.take_out.ensures.slots

pub put_in-requires-clause-dependents : goal.put_in-requires-clause-dependents
put_in-requires-clause-dependents g c q =
    let room = c.requires.dependents q in
    let same : room_of q c.args.entries.now.rows ≤ room_of q c.set_flips.new.entries.rows = subst (λ rows. room_of q c.args.entries.now.rows ≤ room_of q rows) (sym c.set_flips.ensures.rows) (omega arith) in
    let kept = c.take_out.ensures.room q in
    omega (arith, room, same, kept)

pub returns-clause-switched : goal.returns-clause-switched
returns-clause-switched g c theory table new switch = record {
  events = history-new g.T.Moment.rank theory table new c.args.change c.args.looked c.args.store.now c.args.entries.now c.len.ensures.history switch.is_change switch.bits switch.entries
      c.set_flips.new.entries c.set_flips.ensures.slots c.take_out.new.entries c.take_out.new.store.events c.take_out.ensures.events c.take_out.ensures.slots
      c.put_in.new.store c.put_in.new.entries c.put_in.ensures.history c.put_in.ensures.slots c.len-2.ensures.history;
  entries = entries-new g.T.Moment.rank theory table new c.args.change c.args.looked c.args.store.now c.args.entries.now c.len.ensures.history switch.is_change switch.bits switch.entries
      c.set_flips.new.entries c.set_flips.ensures.slots c.take_out.new.entries c.take_out.new.store.events c.take_out.ensures.events c.take_out.ensures.slots
      c.put_in.new.store c.put_in.new.entries c.put_in.ensures.history c.put_in.ensures.slots c.len-2.ensures.history;
}
