-- The notes of each session are the next of what is left.
use Rattle.std.proofs.Common.{◌+◌, ◌++◌, drop, sym, ap, subst, ◌∙◌, arith}
use Rattle.ec_lists.proofs.Results.{OnErr-anyway}
use Rattle.ec_query.proofs.WritingLemmas.{IsLeft-next, IsLeft-part, IsLeft-end}
use Rattle.ec_replies.specs.Notes.{notes_from, session_notes}
use Rattle.ec_watch.specs.Tails.{AreTails}
use Rattle.ec_watch.specs.Watched.{watched_by, watched_by_each}
use Rattle.ec_compare.proofs.Tailed.{notes-end, notes-next}
use Rattle.ec_compare.proofs.notes.write_notes.Goals as goal

pub returns-in_err-write_session_notes-clause-part : goal.returns-in_err-write_session_notes-clause-part
returns-in_err-write_session_notes-clause-part g c = λ theory old new history held are.
    let k = c.loop-session.session in
    let rows = c.args.watches.now in
    let canon = g.T.Moment.canon in
    let same = subst (λ found. AreTails g.T.Moment.rank theory old new found c.as_slice.result.now) (sym c.rows.ensures.rows)
    (subst (λ found. AreTails g.T.Moment.rank theory old new rows found) (sym c.as_slice.ensures) are) in
    let more = notes_from theory canon (k + 1) (drop (k + 1) (watched_by_each rows)) old new in
    let next = notes-next theory canon old new rows k c.loop-session-test.true
    ∙ ap (λ found. session_notes theory canon k (watched_by k found) old new ++ more) (sym c.rows.ensures.rows) in
    OnErr-anyway c.from_residual.result
    (IsLeft-part (session_notes theory canon k (watched_by k c.rows.result.now) old new) more (c.loop-session.invariant.left theory old new history held are) next
    (c.in_err-write_session_notes.ensures.part theory old new history held same))

pub loop-session-preserved : goal.loop-session-preserved
loop-session-preserved g c =
    let k = c.loop-session.session in
    let rows = c.args.watches.now in
    record {
      left = λ theory old new history held are.
          let canon = g.T.Moment.canon in
          let same = subst (λ found. AreTails g.T.Moment.rank theory old new found c.as_slice.result.now) (sym c.rows.ensures.rows)
          (subst (λ found. AreTails g.T.Moment.rank theory old new rows found) (sym c.as_slice.ensures) are) in
          let more = notes_from theory canon (k + 1) (drop (k + 1) (watched_by_each rows)) old new in
          let next = notes-next theory canon old new rows k c.loop-session-test.true
          ∙ ap (λ found. session_notes theory canon k (watched_by k found) old new ++ more) (sym c.rows.ensures.rows) in
          IsLeft-next (session_notes theory canon k (watched_by k c.rows.result.now) old new) more (c.loop-session.invariant.left theory old new history held are) next
          (c.in_ok-write_session_notes.ensures.written theory old new history held same) c.in_ok-write_session_notes.ensures.quiet;
      quiet = c.in_ok-write_session_notes.ensures.quiet ∙ c.loop-session.invariant.quiet;
    }

pub returns-clause-written : goal.returns-clause-written
returns-clause-written g c = λ theory old new history held are.
    IsLeft-end (c.loop-session.invariant.left theory old new history held are)
    (notes-end theory g.T.Moment.canon old new c.args.watches.now c.loop-session.session (omega (arith, c.loop-session-test.false)))
