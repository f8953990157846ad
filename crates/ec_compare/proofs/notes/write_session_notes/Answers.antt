-- The note on the property of each tail is the next of what is left.
use Rattle.std.proofs.Common.{◌+◌, drop, length, refl, sym, ap, subst, ◌∙◌, arith}
use Rattle.std.specs.Prelude.{flat_map}
use Rattle.std.proofs.lemmas.List.{drop_all}
use Rattle.std.proofs.lemmas.Option.{slice_get_read}
use Rattle.ec_lists.proofs.Results.{OnErr-anyway}
use Rattle.ec_query.proofs.WritingLemmas.{IsLeft-start, IsLeft-next, IsLeft-part, IsLeft-end}
use Rattle.ec_watch.specs.declared.tails.Tail.{Tail}
use Rattle.ec_compare.specs.TailNotes.{IsTailOfRow, note_at}
use Rattle.ec_compare.proofs.Tailed.{session-tails, texts-next}
use Rattle.ec_compare.proofs.notes.write_session_notes.Goals as goal

pub loop-i-init : goal.loop-i-init
loop-i-init g c = record {
  left = λ theory old new history held are. IsLeft-start {faults = g.K.Sink.faults} c.args.out.now _ _
      (session-tails theory g.T.Moment.canon c.args.session old new c.args.rows.now g.T.Moment.rank c.args.tails.now are);
  quiet = refl;
}

pub returns-in_err-write_tail_note-clause-part : goal.returns-in_err-write_tail_note-clause-part
returns-in_err-write_tail_note-clause-part g c = λ theory old new history held are.
    let rank = g.T.Moment.rank in
    let canon = g.T.Moment.canon in
    let rows = c.args.rows.now in
    let tails = c.args.tails.now in
    let tail = c.index-tails-i.result in
    let read = slice_get_read tails (length tails) c.loop-i.i tail refl c.loop-i-test.true c.index-tails-i.is in
    let note = λ (t : Tail _). note_at theory canon c.args.session old new rows t.place in
    let is = subst (IsTailOfRow rank theory old new rows) (sym c.index-tails-i.is) (are.each c.loop-i.i tail c.loop-i-test.true) in
    OnErr-anyway c.from_residual.result
    (IsLeft-part (note tail) (flat_map note (drop (c.loop-i.i + 1) tails)) (c.loop-i.invariant.left theory old new history held are) (texts-next note tails c.loop-i.i tail read)
    (c.in_err-write_tail_note.ensures.part theory old new history held is))

pub loop-i-preserved : goal.loop-i-preserved
loop-i-preserved g c =
    let rank = g.T.Moment.rank in
    let canon = g.T.Moment.canon in
    let rows = c.args.rows.now in
    let tails = c.args.tails.now in
    let tail = c.index-tails-i.result in
    let read = slice_get_read tails (length tails) c.loop-i.i tail refl c.loop-i-test.true c.index-tails-i.is in
    record {
      left = λ theory old new history held are.
          let note = λ (t : Tail _). note_at theory canon c.args.session old new rows t.place in
          let is = subst (IsTailOfRow rank theory old new rows) (sym c.index-tails-i.is) (are.each c.loop-i.i tail c.loop-i-test.true) in
          IsLeft-next (note tail) (flat_map note (drop (c.loop-i.i + 1) tails)) (c.loop-i.invariant.left theory old new history held are) (texts-next note tails c.loop-i.i tail read)
          (c.in_ok-write_tail_note.ensures.written theory old new history held is) c.in_ok-write_tail_note.ensures.quiet;
      quiet = c.in_ok-write_tail_note.ensures.quiet ∙ c.loop-i.invariant.quiet;
    }

pub returns-clause-written : goal.returns-clause-written
returns-clause-written g c = λ theory old new history held are.
    IsLeft-end (c.loop-i.invariant.left theory old new history held are)
    (ap (flat_map (λ (t : Tail _). note_at theory g.T.Moment.canon c.args.session old new c.args.rows.now t.place)) (drop_all c.loop-i.i c.args.tails.now (omega (arith, c.loop-i-test.false))))
