-- What is missing behind the first intervals is what was lost and gained; where nothing is, there is no note.
use Rattle.std.proofs.Common.{refl, sym, ap, subst, ◌∙◌}
use Rattle.ec_terms.specs.Term.{ground_of}
use Rattle.ec_axioms.specs.Calculus.{intervals_of}
use Rattle.ec_intervals.specs.Steps.{IsIntervalRow}
use Rattle.ec_intervals.specs.Table.{plain_intervals}
use Rattle.ec_intervals.proofs.HistoryRows.{IsIntervalRow-intervals_of}
use Rattle.ec_query.proofs.WritingLemmas.{IsLeft-start, IsLeft-end, OnErr-renamed, OnOk-renamed}
use Rattle.ec_replies.specs.Notes.{note_between}
use Rattle.ec_compare.specs.Lists.{present_members}
use Rattle.ec_compare.proofs.Noted.{note-of_changes, note-of_same, present-kept, row-drop}
use Rattle.ec_compare.proofs.Rows.{begins-ascend}
use Rattle.ec_compare.proofs.notes.write_note.Goals as goal

pub returns-then-are_different-clause-written : goal.returns-then-are_different-clause-written
returns-then-are_different-clause-written g c = λ theory old new history held tail.
    let rank = g.T.Moment.rank in
    let p = ground_of c.args.p.now in
    let before = plain_intervals rank c.as_slice.result.now in
    let after = plain_intervals rank (present_members c.lookup.result c.args.held.now.intervals.now) in
    let kept = ap (plain_intervals rank) c.as_slice.ensures ∙ tail.kept in
    let present = present-kept rank theory new c.args.held.now.props.now c.args.held.now.intervals.now held p c.lookup.result c.lookup.ensures.number c.lookup.ensures.term in
    let row_new = IsIntervalRow-intervals_of theory new p held.history in
    let row_before = subst IsIntervalRow (sym kept) (row-drop c.args.tail.now.skipped (intervals_of theory old p) (IsIntervalRow-intervals_of theory old p history)) in
    let row_after = subst IsIntervalRow (sym present) row_new in
    OnOk-renamed g.K.Sink.stands c.args.out.now c.write_changes.new.out c.write_changes.result
    (note-of_changes theory g.T.Moment.canon c.args.session p old new history held.history c.args.tail.now.skipped (begins-ascend (intervals_of theory new p) row_new) tail.stayed before after kept present
    (c.are_different.ensures.differ row_before row_after c.if-are_different.true))
    (c.write_changes.ensures.written row_before row_after)

pub returns-then-are_different-clause-part : goal.returns-then-are_different-clause-part
returns-then-are_different-clause-part g c = λ theory old new history held tail.
    let rank = g.T.Moment.rank in
    let p = ground_of c.args.p.now in
    let before = plain_intervals rank c.as_slice.result.now in
    let after = plain_intervals rank (present_members c.lookup.result c.args.held.now.intervals.now) in
    let kept = ap (plain_intervals rank) c.as_slice.ensures ∙ tail.kept in
    let present = present-kept rank theory new c.args.held.now.props.now c.args.held.now.intervals.now held p c.lookup.result c.lookup.ensures.number c.lookup.ensures.term in
    let row_new = IsIntervalRow-intervals_of theory new p held.history in
    let row_before = subst IsIntervalRow (sym kept) (row-drop c.args.tail.now.skipped (intervals_of theory old p) (IsIntervalRow-intervals_of theory old p history)) in
    let row_after = subst IsIntervalRow (sym present) row_new in
    OnErr-renamed g.K.Sink.stands c.args.out.now c.write_changes.new.out c.write_changes.result
    (note-of_changes theory g.T.Moment.canon c.args.session p old new history held.history c.args.tail.now.skipped (begins-ascend (intervals_of theory new p) row_new) tail.stayed before after kept present
    (c.are_different.ensures.differ row_before row_after c.if-are_different.true))
    (c.write_changes.ensures.part row_before row_after)

pub returns-else-are_different-clause-written : goal.returns-else-are_different-clause-written
returns-else-are_different-clause-written g c = λ theory old new history held tail.
    let rank = g.T.Moment.rank in
    let p = ground_of c.args.p.now in
    let before = plain_intervals rank c.as_slice.result.now in
    let after = plain_intervals rank (present_members c.lookup.result c.args.held.now.intervals.now) in
    let kept = ap (plain_intervals rank) c.as_slice.ensures ∙ tail.kept in
    let present = present-kept rank theory new c.args.held.now.props.now c.args.held.now.intervals.now held p c.lookup.result c.lookup.ensures.number c.lookup.ensures.term in
    let row_new = IsIntervalRow-intervals_of theory new p held.history in
    let row_before = subst IsIntervalRow (sym kept) (row-drop c.args.tail.now.skipped (intervals_of theory old p) (IsIntervalRow-intervals_of theory old p history)) in
    let row_after = subst IsIntervalRow (sym present) row_new in
    let text = note_between theory g.T.Moment.canon c.args.session p old new in
    IsLeft-end (IsLeft-start {faults = g.K.Sink.faults} c.args.out.now text text refl)
    (note-of_same theory g.T.Moment.canon c.args.session p old new history held.history c.args.tail.now.skipped (begins-ascend (intervals_of theory new p) row_new) tail.stayed before after kept present
    (c.are_different.ensures.same row_before row_after c.if-are_different.false))
