-- The draft stands for the spans of the window, and with them for all that the row spells.
use Rattle.std.proofs.Common.{◌≡◌, option_map, drop, ap, sym, ◌∙◌, arith}
use Rattle.std.proofs.lemmas.Grind.{common_steps}
use Rattle.std.proofs.lemmas.Bool.{false≢true}
use Rattle.ec_axioms.proofs.Ranks.{le_int_le}
use Rattle.ec_rows.specs.PlainMarks.{plain_marks}
use Rattle.ec_intervals.specs.Steps.{spelt_through}
use Rattle.ec_intervals.specs.Table.{plain_begin}
use Rattle.ec_intervals.proofs.SpanCuts.{ended-up_to}
use Rattle.ec_intervals.proofs.Spliced.{IsSpanRow-old, spliced-initial, spliced-other}
use Rattle.ec_intervals.proofs.window.draft_window.Goals as goal

pub returns-then-is_initial-clause-ordered : goal.returns-then-is_initial-clause-ordered
returns-then-is_initial-clause-ordered g c =
    let few = ended-up_to g.T.Moment.rank (g.T.Moment.rank c.args.from) (g.T.Moment.rank c.args.until) (g.I.SpanRow.spans c.args.kept.now.spans) c.find_start-start.result.0
    (IsSpanRow-old g.T.Moment.rank (g.T.Moment.rank c.args.from) (g.T.Moment.rank c.args.until) c.args.strong c.args.initial (g.M.MarkRow.marks c.args.row.now) c.args.kept.now.front (g.I.SpanRow.spans c.args.kept.now.spans) c.requires.old) (le_int_le (g.T.Moment.rank c.args.from) (g.T.Moment.rank c.args.until) c.requires.ordered) c.find_start-start.ensures.within c.find_start-start.ensures.ended in
    omega (arith, few, c.draft_rest-end.ensures.later)

pub returns-clause-ordered : goal.returns-clause-ordered
returns-clause-ordered g c =
    let few = ended-up_to g.T.Moment.rank (g.T.Moment.rank c.args.from) (g.T.Moment.rank c.args.until) (g.I.SpanRow.spans c.args.kept.now.spans) c.find_start-start.result.0
    (IsSpanRow-old g.T.Moment.rank (g.T.Moment.rank c.args.from) (g.T.Moment.rank c.args.until) c.args.strong c.args.initial (g.M.MarkRow.marks c.args.row.now) c.args.kept.now.front (g.I.SpanRow.spans c.args.kept.now.spans) c.requires.old) (le_int_le (g.T.Moment.rank c.args.from) (g.T.Moment.rank c.args.until) c.requires.ordered) c.find_start-start.ensures.within c.find_start-start.ensures.ended in
    omega (arith, few, c.draft_rest-end.ensures.later)

pub returns-then-is_initial-clause-intervals : goal.returns-then-is_initial-clause-intervals
returns-then-is_initial-clause-intervals g c =
    spliced-initial g.T.Moment.rank (g.T.Moment.rank c.args.from) (g.T.Moment.rank c.args.until) c.args.strong c.args.initial (g.M.MarkRow.marks c.args.row.now) c.args.kept.now.front (g.I.SpanRow.spans c.args.kept.now.spans) c.requires.old
    c.count_before-first.ensures.row (le_int_le (g.T.Moment.rank c.args.from) (g.T.Moment.rank c.args.until) c.requires.ordered)
    c.find_start-start.result.0 c.draft_rest-end.result c.draft_rest-end.new.draft c.count_before-first.result c.count_before-first.ensures.count c.find_start-start.result.1 c.find_start-start.ensures.opened
    c.find_start-start.ensures.ended c.find_start-start.ensures.lasting
    (c.draft_rest-end.ensures.spelt ∙ ap (λ begun. spelt_through c.args.strong (option_map (plain_begin g.T.Moment.rank) begun) (drop c.count_before-first.result (plain_marks g.T.Moment.rank (g.M.MarkRow.marks c.args.row.now)))) c.start.ensures.begun)
    (c.is_initial.ensures.0 c.if-is_initial.true)

pub returns-clause-intervals : goal.returns-clause-intervals
returns-clause-intervals g c =
    let other : option_map (plain_begin g.T.Moment.rank) c.find_start-start.result.1 ≡ _ → ⊥ = λ is. false≢true (sym c.if-is_initial.false ∙ c.is_initial.ensures.1 is) in
    spliced-other g.T.Moment.rank (g.T.Moment.rank c.args.from) (g.T.Moment.rank c.args.until) c.args.strong c.args.initial (g.M.MarkRow.marks c.args.row.now) c.args.kept.now.front (g.I.SpanRow.spans c.args.kept.now.spans) c.requires.old
    c.count_before-first.ensures.row (le_int_le (g.T.Moment.rank c.args.from) (g.T.Moment.rank c.args.until) c.requires.ordered)
    c.find_start-start.result.0 c.draft_rest-end.result c.draft_rest-end.new.draft c.count_before-first.result c.count_before-first.ensures.count c.find_start-start.result.1 c.find_start-start.ensures.opened
    c.find_start-start.ensures.ended c.find_start-start.ensures.lasting
    (c.draft_rest-end.ensures.spelt ∙ ap (λ begun. spelt_through c.args.strong (option_map (plain_begin g.T.Moment.rank) begun) (drop c.count_before-first.result (plain_marks g.T.Moment.rank (g.M.MarkRow.marks c.args.row.now)))) c.start.ensures.begun)
    other (c.draft_rest-end.ensures.starts (λ is. other (ap (option_map (plain_begin g.T.Moment.rank)) (sym c.start.ensures.begun) ∙ is)))

pub draft_rest-end-requires-clause-old : goal.draft_rest-end-requires-clause-old
draft_rest-end-requires-clause-old c = grind (arith, common_steps)
