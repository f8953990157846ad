-- The notes of the sessions from the one on are left to write.
use Rattle.std.proofs.Common.{◌≡◌, List, IsTrue, drop}
use Rattle.ec_terms.specs.declared.theory.Theory.{Theory}
use Rattle.ec_axioms.specs.Calculus.{PlainEvent}
use Rattle.ec_axioms.specs.Changes.{is_history}
use Rattle.ec_query.specs.Held.{AreHeldOf}
use Rattle.ec_query.proofs.WritingLemmas.{IsLeft}
use Rattle.ec_replies.specs.Notes.{notes_from, notes_text}
use Rattle.ec_watch.specs.Tails.{AreTails}
use Rattle.ec_watch.specs.Watched.{watched_by_each}
use Rattle.ec_compare.proofs.notes.write_notes.Given as goal

abbrev pub invariant-loop-session : goal.invariant-loop-session
invariant-loop-session g l = record {
  left : (theory : Theory) (old new : List PlainEvent) → IsTrue (is_history old) → AreHeldOf g.T.Moment.rank theory new l.held.props.now l.held.intervals.now → AreTails g.T.Moment.rank theory old new l.watches l.tails →
      IsLeft g.K.Sink.stands g.K.Sink.faults l.initial.out l.out (notes_text theory g.T.Moment.canon (watched_by_each l.watches) old new)
      (notes_from theory g.T.Moment.canon l.session (drop l.session (watched_by_each l.watches)) old new);
  quiet : g.K.Sink.faults l.out ≡ g.K.Sink.faults l.initial.out;
}
