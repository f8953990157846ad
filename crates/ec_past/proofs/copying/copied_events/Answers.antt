-- Each event is the next of what is left.
use Rattle.std.proofs.Common.{take, sym, ap, ◌∙◌, arith}
use Rattle.std.proofs.lemmas.List.{take_all}
use Rattle.ec_store.specs.Store.{history_of}
use Rattle.ec_past.proofs.CopiedEvents.{copied-more, none-left, read_at}
use Rattle.ec_past.proofs.copying.copied_events.Goals as goal

pub loop-found-preserved : goal.loop-found-preserved
loop-found-preserved g c =
    let rank = g.T.Moment.rank in
    let kept = c.args.store.now.events in
    let event = c.event.result.now in
    let read = read_at kept c.loop-found.cursor c.in-Some.found.0 c.in-Some.found.1 event c.in-Some.ensures.next c.in-Some.ensures.event c.event.ensures.event in
    record {
      so_far =
          copied-more kept c.loop-found.cursor c.in-Some.found.0 c.in-Some.found.1 event rank c.loop-found.list.items c.push.new.self.items _ read.0 read.2 c.in_ok-push.ensures.items c.in_ok-copied_event.ensures c.loop-found.invariant.so_far
          ∙ ap (λ n. history_of rank (take n kept)) (sym read.1);
      inside = omega (arith, read.1, read.2);
      few_steps = omega (arith, read.1, c.event.ensures.steps, c.loop-found.invariant.few_steps);
    }

pub loop-found-smaller : goal.loop-found-smaller
loop-found-smaller g c =
    let kept = c.args.store.now.events in
    let read = read_at kept c.loop-found.cursor c.in-Some.found.0 c.in-Some.found.1 c.event.result.now c.in-Some.ensures.next c.in-Some.ensures.event c.event.ensures.event in
    omega (arith, read.1, read.2)

pub returns-clause-events : goal.returns-clause-events
returns-clause-events g c =
    let rank = g.T.Moment.rank in
    let kept = c.args.store.now.events in
    let end = none-left kept c.loop-found.cursor c.in_default.ensures.next in
    c.loop-found.invariant.so_far ∙ ap (history_of rank) (take_all c.loop-found.cursor kept end)
