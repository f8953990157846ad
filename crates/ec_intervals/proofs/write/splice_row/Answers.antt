-- What is written is what the row spells.
use Rattle.std.proofs.Common.{◌++◌, length, map, refl, sym, ap, subst, ◌∙◌, arith}
use Rattle.std.proofs.lemmas.Grind.{common_steps}
use Rattle.std.proofs.lemmas.Bool.{false≢true}
use Rattle.std.specs.List.{splice}
use Rattle.ec_rows.specs.Spans.{IsSpanRow}
use Rattle.ec_intervals.specs.Table.{front_members, plain_intervals, span_interval}
use Rattle.ec_intervals.proofs.Spliced.{IsSpanRow-spelt, length-spelt, length-spliced}
use Rattle.ec_intervals.proofs.write.splice_row.Goals as goal

pub splice-requires-clause-spans : goal.splice-requires-clause-spans
splice-requires-clause-spans g c =
    let spans = g.I.SpanRow.spans c.args.kept.now.spans in
    subst (λ with. IsSpanRow g.T.Moment.rank (splice spans c.draft_window-start.result.0 c.draft_window-start.result.1 with)) (sym c.deref.ensures.value)
    (IsSpanRow-spelt g.T.Moment.rank (g.M.MarkRow.marks c.args.row.now) c.draft_window-start.ensures.row c.args.strong c.args.initial c.draft_window-start.new.draft.front
    (splice spans c.draft_window-start.result.0 c.draft_window-start.result.1 c.draft_window-start.new.draft.spans.items) c.draft_window-start.ensures.intervals)

pub splice-requires-clause-room : goal.splice-requires-clause-room
splice-requires-clause-room g c =
    let spans = g.I.SpanRow.spans c.args.kept.now.spans in
    let start = c.draft_window-start.result.0 in
    let end = c.draft_window-start.result.1 in
    let with = c.draft_window-start.new.draft.spans.items in
    let front = c.draft_window-start.new.draft.front in
    let most = length-spelt g.T.Moment.rank (g.M.MarkRow.marks c.args.row.now) c.draft_window-start.ensures.row c.args.strong c.args.initial front (splice spans start end with) c.draft_window-start.ensures.intervals in
    let all = length-spliced g.T.Moment.rank front front spans with start end c.draft_window-start.ensures.ordered c.draft_window-start.ensures.within in
    let count = ap length c.deref.ensures.value in
    omega (arith, most, all, count, c.requires.room, c.draft_window-start.ensures.ordered, c.draft_window-start.ensures.within)

pub returns-then-is_same-clause-intervals : goal.returns-then-is_same-clause-intervals
returns-then-is_same-clause-intervals g c = c.is_same.ensures.0 c.if-is_same.true ∙ c.draft_window-start.ensures.intervals

pub returns-then-is_same-clause-differs : goal.returns-then-is_same-clause-differs
returns-then-is_same-clause-differs g c = (λ never. absurd (false≢true never), λ differ. absurd (differ refl))

pub returns-clause-intervals : goal.returns-clause-intervals
returns-clause-intervals g c =
    ap (λ spans. plain_intervals g.T.Moment.rank (front_members c.draft_window-start.new.draft.front ++ map span_interval spans))
    (c.splice.ensures.spans ∙ ap (splice (g.I.SpanRow.spans c.args.kept.now.spans) c.draft_window-start.result.0 c.draft_window-start.result.1) c.deref.ensures.value)
    ∙ c.draft_window-start.ensures.intervals

pub returns-clause-differs : goal.returns-clause-differs
returns-clause-differs g c =
    let written = ap (λ spans. plain_intervals g.T.Moment.rank (front_members c.draft_window-start.new.draft.front ++ map span_interval spans))
    (c.splice.ensures.spans ∙ ap (splice (g.I.SpanRow.spans c.args.kept.now.spans) c.draft_window-start.result.0 c.draft_window-start.result.1) c.deref.ensures.value) in
    (λ differs same. false≢true (sym c.if-is_same.false ∙ c.is_same.ensures.1 (same ∙ written)), λ differ. refl)

pub returns-clause-room : goal.returns-clause-room
returns-clause-room g c =
    let all = length-spliced g.T.Moment.rank c.draft_window-start.new.draft.front c.draft_window-start.new.draft.front (g.I.SpanRow.spans c.args.kept.now.spans) c.deref.result.now c.draft_window-start.result.0 c.draft_window-start.result.1 c.draft_window-start.ensures.ordered c.draft_window-start.ensures.within in
    let new = ap length c.splice.ensures.spans in
    omega (arith, all, new, c.splice.ensures.spare, c.draft_window-start.ensures.ordered, c.draft_window-start.ensures.within)

pub splice-requires-clause-within : goal.splice-requires-clause-within
splice-requires-clause-within c = grind (arith, common_steps)

pub splice-requires-clause-ordered : goal.splice-requires-clause-ordered
splice-requires-clause-ordered c = grind (arith, common_steps)
