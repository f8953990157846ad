-- The events from the cursor on are left to write, and those before it were read.
use Rattle.std.proofs.Common.{◌≡◌, ◌+◌, ◌-◌, ◌≤◌, drop, length, map}
use Rattle.ec_commands.specs.QueryTexts.{counted_text, event_text}
use Rattle.ec_store.specs.Store.{history_of}
use Rattle.ec_query.specs.Members.{members_text, kept_text}
use Rattle.ec_query.proofs.WritingLemmas.{IsLeft}
use Rattle.ec_query.proofs.event_reply.events.Given as goal

abbrev pub invariant-loop-found : goal.invariant-loop-found
invariant-loop-found g l = record {
  left : IsLeft g.K.Sink.stands g.K.Sink.faults l.fn.out l.out (counted_text (map (event_text g.T.Moment.canon) (history_of g.T.Moment.rank l.store.events)))
      (members_text (kept_text g.T.Moment.rank g.T.Moment.canon) (drop l.cursor l.store.events));
  read : l.steps ≡ l.fn.steps + l.cursor;
  within : l.cursor ≤ length l.store.events;
}

abbrev pub decreases-loop-found : goal.decreases-loop-found
decreases-loop-found g l = length l.store.events - l.cursor
