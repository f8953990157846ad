-- The notes on the properties of the tails from the place on are left to write.
use Rattle.std.proofs.Common.{◌≡◌, List, IsTrue, drop}
use Rattle.std.specs.Prelude.{flat_map}
use Rattle.ec_terms.specs.declared.theory.Theory.{Theory}
use Rattle.ec_axioms.specs.Calculus.{PlainEvent}
use Rattle.ec_axioms.specs.Changes.{is_history}
use Rattle.ec_query.specs.Held.{AreHeldOf}
use Rattle.ec_query.proofs.WritingLemmas.{IsLeft}
use Rattle.ec_replies.specs.Notes.{session_notes}
use Rattle.ec_watch.specs.Tails.{AreTails}
use Rattle.ec_watch.specs.Watched.{watched_by}
use Rattle.ec_watch.specs.declared.tails.Tail.{Tail}
use Rattle.ec_compare.specs.TailNotes.{note_at}
use Rattle.ec_compare.proofs.notes.write_session_notes.Given as goal

abbrev pub invariant-loop-i : goal.invariant-loop-i
invariant-loop-i g l = record {
  left : (theory : Theory) (old new : List PlainEvent) → IsTrue (is_history old) → AreHeldOf g.T.Moment.rank theory new l.held.props.now l.held.intervals.now → AreTails g.T.Moment.rank theory old new l.rows l.tails →
      IsLeft g.K.Sink.stands g.K.Sink.faults l.initial.out l.out (session_notes theory g.T.Moment.canon l.session (watched_by l.session l.rows) old new)
      (flat_map (λ (tail : Tail _). note_at theory g.T.Moment.canon l.session old new l.rows tail.place) (drop l.i l.tails));
  quiet : g.K.Sink.faults l.out ≡ g.K.Sink.faults l.initial.out;
}
