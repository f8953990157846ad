-- Each event is the next of what is left.
use Rattle.std.proofs.Common.{◌+◌, ◌++◌, drop, length, map, refl, sym, ap, ap₂, subst, ◌∙◌, arith}
use Rattle.std.proofs.lemmas.Grind.{common_steps}
use Rattle.std.specs.Prelude.{decimal}
use Rattle.ec_lists.proofs.Results.{OnErr-anyway}
use Rattle.ec_outside.specs.Streams.{Appended}
use Rattle.ec_commands.specs.QueryTexts.{counted_text, event_text}
use Rattle.ec_store.specs.Store.{history_of, plain_of}
use Rattle.ec_query.specs.Members.{members_text, kept_text}
use Rattle.ec_query.proofs.EventLemmas.{events_reply-of}
use Rattle.ec_query.proofs.KeptWalks.{IsNext, next-found, next-none, next-read, next_leaves, next_within, read_places, read_places_within}
use Rattle.ec_query.proofs.WritingLemmas.{IsLeft-start, IsLeft-next, IsLeft-part, IsLeft-end, OnErr-renamed, OnErr-rose, counted_text-map, members_text-next, members_text-end}
use Rattle.ec_query.proofs.event_reply.events.Goals as goal

pub returns-in_err-write_count-clause-part : goal.returns-in_err-write_count-clause-part
returns-in_err-write_count-clause-part g c = λ events are.
    let rank = g.T.Moment.rank in
    let canon = g.T.Moment.canon in
    let kept = c.args.store.now.events in
    OnErr-renamed g.K.Sink.stands c.args.out.now c.write_count.new.out c.from_residual.result (events_reply-of rank canon kept events are)
    (OnErr-anyway c.from_residual.result
    (IsLeft-part (decimal c.len.result) (members_text (kept_text rank canon) kept)
    (IsLeft-start {faults = g.K.Sink.faults} c.args.out.now (counted_text (map (event_text canon) (history_of rank kept))) (decimal c.len.result ++ members_text (kept_text rank canon) kept)
    (counted_text-map (event_text canon) (plain_of rank) kept ∙ ap (λ n. decimal n ++ members_text (kept_text rank canon) kept) (sym c.len.ensures.len)))
    refl c.in_err-write_count.ensures.part))

pub loop-found-init : goal.loop-found-init
loop-found-init g c =
    let rank = g.T.Moment.rank in
    let canon = g.T.Moment.canon in
    let kept = c.args.store.now.events in
    record {
      left =
          IsLeft-next (decimal c.len.result) (members_text (kept_text rank canon) (drop c.first-cursor.result kept))
          (IsLeft-start {faults = g.K.Sink.faults} c.args.out.now (counted_text (map (event_text canon) (history_of rank kept))) (decimal c.len.result ++ members_text (kept_text rank canon) (drop c.first-cursor.result kept))
          (counted_text-map (event_text canon) (plain_of rank) kept
          ∙ ap₂ (λ n i. decimal n ++ members_text (kept_text rank canon) (drop i kept)) (sym c.len.ensures.len) (sym c.first-cursor.ensures)))
          refl c.in_ok-write_count.ensures.written c.in_ok-write_count.ensures.quiet;
      read = omega (arith, c.first-cursor.ensures);
      within = omega (arith, c.first-cursor.ensures);
    }

pub returns-in_err-write_all-clause-part : goal.returns-in_err-write_all-clause-part
returns-in_err-write_all-clause-part g c = λ events are.
    let rank = g.T.Moment.rank in
    let canon = g.T.Moment.canon in
    let kept = c.args.store.now.events in
    let more = members_text (kept_text rank canon) (drop (c.loop-found.cursor + 1) kept) in
    let next : IsNext kept c.loop-found.cursor c.in-Some.found.0 c.in-Some.found.1 =
    next-found kept c.loop-found.cursor c.in-Some.found.0 c.in-Some.found.1 c.in-Some.ensures.next c.in-Some.ensures.event in
    OnErr-renamed g.K.Sink.stands c.args.out.now c.write_all.new.out c.from_residual-in_err-write_all.result (events_reply-of rank canon kept events are)
    (OnErr-anyway c.from_residual-in_err-write_all.result
    (IsLeft-part c.as_bytes.result.now more c.loop-found.invariant.left
    (members_text-next (kept_text rank canon) kept c.loop-found.cursor (c.in-Some.found.0, c.event.result.now)
    (next-read kept c.loop-found.cursor c.in-Some.found.0 c.in-Some.found.1 next c.event.result.now c.event.ensures.event)
    ∙ ap (λ bytes. bytes ++ more) (sym (c.as_bytes.ensures ∙ c.set_event.ensures)))
    c.in_err-write_all.ensures.part))

pub returns-in_err-write_all-clause-steps : goal.returns-in_err-write_all-clause-steps
returns-in_err-write_all-clause-steps g c =
    let kept = c.args.store.now.events in
    let next : IsNext kept c.loop-found.cursor c.in-Some.found.0 c.in-Some.found.1 =
    next-found kept c.loop-found.cursor c.in-Some.found.0 c.in-Some.found.1 c.in-Some.ensures.next c.in-Some.ensures.event in
    read_places_within c.args.steps.now c.loop-found.steps c.event.new.steps c.loop-found.cursor (length kept) c.loop-found.invariant.read c.event.ensures.steps next.within

pub loop-found-smaller : goal.loop-found-smaller
loop-found-smaller g c =
    let kept = c.args.store.now.events in
    let next : IsNext kept c.loop-found.cursor c.in-Some.found.0 c.in-Some.found.1 =
    next-found kept c.loop-found.cursor c.in-Some.found.0 c.in-Some.found.1 c.in-Some.ensures.next c.in-Some.ensures.event in
    next_leaves c.loop-found.cursor (length kept) c.in-Some.found.1 next.within next.behind

pub loop-found-preserved : goal.loop-found-preserved
loop-found-preserved g c =
    let rank = g.T.Moment.rank in
    let canon = g.T.Moment.canon in
    let kept = c.args.store.now.events in
    let next : IsNext kept c.loop-found.cursor c.in-Some.found.0 c.in-Some.found.1 =
    next-found kept c.loop-found.cursor c.in-Some.found.0 c.in-Some.found.1 c.in-Some.ensures.next c.in-Some.ensures.event in
    let more = members_text (kept_text rank canon) (drop c.in-Some.found.1 kept) in
    record {
      left =
          IsLeft-next c.as_bytes.result.now more c.loop-found.invariant.left
          (members_text-next (kept_text rank canon) kept c.loop-found.cursor (c.in-Some.found.0, c.event.result.now)
          (next-read kept c.loop-found.cursor c.in-Some.found.0 c.in-Some.found.1 next c.event.result.now c.event.ensures.event)
          ∙ ap₂ (λ bytes i. bytes ++ members_text (kept_text rank canon) (drop i kept)) (sym (c.as_bytes.ensures ∙ c.set_event.ensures)) (sym next.behind))
          c.in_ok-write_all.ensures.written c.in_ok-write_all.ensures.quiet;
      read = read_places c.args.steps.now c.loop-found.steps c.event.new.steps c.loop-found.cursor c.in-Some.found.1 c.loop-found.invariant.read c.event.ensures.steps next.behind;
      within = next_within c.loop-found.cursor (length kept) c.in-Some.found.1 next.within next.behind;
    }

pub returns-clause-written : goal.returns-clause-written
returns-clause-written g c = λ events are.
    let rank = g.T.Moment.rank in
    let canon = g.T.Moment.canon in
    let kept = c.args.store.now.events in
    subst (λ text. Appended g.K.Sink.stands c.args.out.now c.loop-found.out text) (events_reply-of rank canon kept events are)
    (IsLeft-end c.loop-found.invariant.left (members_text-end (kept_text rank canon) kept c.loop-found.cursor
    (next-none kept c.loop-found.cursor c.next.result c.in_default.is c.next.ensures.next)))

pub returns-in_err-write_all-clause-failed : goal.returns-in_err-write_all-clause-failed
returns-in_err-write_all-clause-failed g c =
    OnErr-rose c.from_residual-in_err-write_all.result (g.K.Sink.faults c.write_all.new.out) c.loop-found.invariant.left.quiet c.in_err-write_all.ensures.failed

pub returns-in_err-write_all-clause-counted : goal.returns-in_err-write_all-clause-counted
returns-in_err-write_all-clause-counted c = grind (arith, common_steps)

pub returns-in_err-write_count-clause-failed : goal.returns-in_err-write_count-clause-failed
returns-in_err-write_count-clause-failed c = grind (arith, common_steps)

pub returns-clause-counted : goal.returns-clause-counted
returns-clause-counted c = grind (arith, common_steps)

pub returns-clause-steps : goal.returns-clause-steps
returns-clause-steps c = grind (arith, common_steps)

pub returns-clause-quiet : goal.returns-clause-quiet
returns-clause-quiet c = grind (arith, common_steps)

pub returns-in_err-write_count-clause-counted : goal.returns-in_err-write_count-clause-counted
returns-in_err-write_count-clause-counted c = grind (arith, common_steps)
