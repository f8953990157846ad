-- A span that covers the time, or else a front that reaches it, begins where the open begin is.
use Rattle.std.proofs.Common.{not, refl, ap, sym, subst, ◌∙◌, take, drop, arith}
use Rattle.std.specs.Prelude.{int_lt, IsTrue}
use Rattle.std.specs.List.{list_all}
use Rattle.std.proofs.lemmas.List.Filters.{length-filter_both}
use Rattle.ec_rows.specs.declared.mark.Mark.{Mark}
use Rattle.ec_rows.specs.PlainMarks.{plain_marks}
use Rattle.ec_intervals.specs.Steps.{first_open, open_through, ends_before}
use Rattle.ec_intervals.specs.Table.{plain_spans}
use Rattle.ec_intervals.proofs.SpanCuts.{covering-cut, uncovered-cut, before-within}
use Rattle.ec_intervals.proofs.Spliced.{take-earlier, opened-covering, opened-front}
use Rattle.ec_intervals.proofs.window.find_start.Goals as goal

pub returns-in-Some-clause-ended : goal.returns-in-Some-clause-ended
returns-in-Some-clause-ended g c =
    (covering-cut g.T.Moment.rank (g.T.Moment.rank c.args.from) (g.I.SpanRow.spans c.args.kept.now.spans) c.in-Some.place c.in-Some.ensures.row c.in-Some.ensures.within c.in-Some.ensures.covering).0

pub returns-in-Some-clause-lasting : goal.returns-in-Some-clause-lasting
returns-in-Some-clause-lasting g c =
    (covering-cut g.T.Moment.rank (g.T.Moment.rank c.args.from) (g.I.SpanRow.spans c.args.kept.now.spans) c.in-Some.place c.in-Some.ensures.row c.in-Some.ensures.within c.in-Some.ensures.covering).1

pub returns-in-Some-clause-opened : goal.returns-in-Some-clause-opened
returns-in-Some-clause-opened g c =
    opened-covering g.T.Moment.rank (g.T.Moment.rank c.args.from) c.requires.0 c.args.strong c.args.initial (g.M.MarkRow.marks c.args.row.now) c.args.kept.now.front (g.I.SpanRow.spans c.args.kept.now.spans)
    c.requires.1 c.in-Some.place c.get.result c.get.ensures.span c.in-Some.ensures.covering

pub returns-then-front_reaches-clause-within : goal.returns-then-front_reaches-clause-within
returns-then-front_reaches-clause-within g c =
    before-within g.T.Moment.rank (g.T.Moment.rank c.args.from) (g.I.SpanRow.spans c.args.kept.now.spans) c.count_before-place.result c.count_before-place.ensures.count

pub returns-then-front_reaches-clause-ended : goal.returns-then-front_reaches-clause-ended
returns-then-front_reaches-clause-ended g c =
    subst (λ n. IsTrue (list_all (ends_before (g.T.Moment.rank c.args.from)) (take n (plain_spans g.T.Moment.rank (g.I.SpanRow.spans c.args.kept.now.spans))))) (sym c.count_before-place.ensures.count)
    (uncovered-cut g.T.Moment.rank (g.T.Moment.rank c.args.from) (g.I.SpanRow.spans c.args.kept.now.spans) c.count_before-place.ensures.row c.in_default.ensures.none).0

pub returns-then-front_reaches-clause-lasting : goal.returns-then-front_reaches-clause-lasting
returns-then-front_reaches-clause-lasting g c =
    subst (λ n. IsTrue (list_all (λ i. not (ends_before (g.T.Moment.rank c.args.from) i)) (drop n (plain_spans g.T.Moment.rank (g.I.SpanRow.spans c.args.kept.now.spans))))) (sym c.count_before-place.ensures.count)
    (uncovered-cut g.T.Moment.rank (g.T.Moment.rank c.args.from) (g.I.SpanRow.spans c.args.kept.now.spans) c.count_before-place.ensures.row c.in_default.ensures.none).1

pub returns-then-front_reaches-clause-opened : goal.returns-then-front_reaches-clause-opened
returns-then-front_reaches-clause-opened g c =
    sym (opened-front g.T.Moment.rank (g.T.Moment.rank c.args.from) c.requires.0 c.args.strong c.args.initial (g.M.MarkRow.marks c.args.row.now) c.args.kept.now.front (g.I.SpanRow.spans c.args.kept.now.spans)
    c.requires.1 (sym c.front_reaches.ensures ∙ c.if-front_reaches.true))

pub find_open-requires : goal.find_open-requires
find_open-requires g c =
    let both = length-filter_both (λ (m : Mark _). int_lt (g.T.Moment.rank m.at) (g.T.Moment.rank c.args.from)) (λ (m : Mark _). not (int_lt (g.T.Moment.rank m.at) (g.T.Moment.rank c.args.from))) (λ m. refl)
    (g.M.MarkRow.marks c.args.row.now) in
    omega (arith, both, c.count_before-count.ensures.count)

pub returns-clause-within : goal.returns-clause-within
returns-clause-within g c =
    before-within g.T.Moment.rank (g.T.Moment.rank c.args.from) (g.I.SpanRow.spans c.args.kept.now.spans) c.count_before-place.result c.count_before-place.ensures.count

pub returns-clause-ended : goal.returns-clause-ended
returns-clause-ended g c =
    subst (λ n. IsTrue (list_all (ends_before (g.T.Moment.rank c.args.from)) (take n (plain_spans g.T.Moment.rank (g.I.SpanRow.spans c.args.kept.now.spans))))) (sym c.count_before-place.ensures.count)
    (uncovered-cut g.T.Moment.rank (g.T.Moment.rank c.args.from) (g.I.SpanRow.spans c.args.kept.now.spans) c.count_before-place.ensures.row c.in_default.ensures.none).0

pub returns-clause-lasting : goal.returns-clause-lasting
returns-clause-lasting g c =
    subst (λ n. IsTrue (list_all (λ i. not (ends_before (g.T.Moment.rank c.args.from) i)) (drop n (plain_spans g.T.Moment.rank (g.I.SpanRow.spans c.args.kept.now.spans))))) (sym c.count_before-place.ensures.count)
    (uncovered-cut g.T.Moment.rank (g.T.Moment.rank c.args.from) (g.I.SpanRow.spans c.args.kept.now.spans) c.count_before-place.ensures.row c.in_default.ensures.none).1

pub returns-clause-opened : goal.returns-clause-opened
returns-clause-opened g c =
    c.find_open.ensures
    ∙ ap (open_through c.args.strong (first_open c.args.initial))
    (ap (λ n. take n (plain_marks g.T.Moment.rank (g.M.MarkRow.marks c.args.row.now))) c.count_before-count.ensures.count
    ∙ take-earlier g.T.Moment.rank (g.T.Moment.rank c.args.from) (g.M.MarkRow.marks c.args.row.now) c.count_before-count.ensures.row)
