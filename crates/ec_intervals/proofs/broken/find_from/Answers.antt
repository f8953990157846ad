-- Behind the marks before the given begin it does not matter which begin before it is open.
use Rattle.std.proofs.Common.{◌≡◌, true, false, not, is_some, take, drop, Some, None, refl, ap, sym, ◌∙◌, arith}
use Rattle.std.specs.Prelude.{int_lt}
use Rattle.std.proofs.lemmas.List.Filters.{length-filter_both}
use Rattle.ec_axioms.specs.Timeline.{begin_at}
use Rattle.ec_axioms.proofs.Ranks.{int_lt-same}
use Rattle.ec_rows.specs.Marks.{marks_before}
use Rattle.ec_rows.specs.PlainMarks.{plain_marks}
use Rattle.ec_rows.specs.declared.mark.Mark.{Mark}
use Rattle.ec_intervals.specs.Steps.{first_open, open_through}
use Rattle.ec_intervals.proofs.FirstBroken.{first_of, first_of-from}
use Rattle.ec_intervals.proofs.Spliced.{take-earlier}
use Rattle.ec_intervals.proofs.broken.find_from.Goals as goal

pub is_open_behind-requires : goal.is_open_behind-requires
is_open_behind-requires g c =
    let t = g.T.Moment.rank c.args.at in
    let both = length-filter_both (λ (m : Mark _). int_lt (g.T.Moment.rank m.at) t) (λ (m : Mark _). not (int_lt (g.T.Moment.rank m.at) t)) (λ m. refl) (g.M.MarkRow.marks c.args.row.now) in
    omega (arith, both, c.count_before-count.ensures.count)

pub returns-then-is_open_behind : goal.returns-then-is_open_behind
returns-then-is_open_behind g c =
    let rank = g.T.Moment.rank in
    let ms = plain_marks rank (g.M.MarkRow.marks c.args.row.now) in
    let opened : is_some (open_through c.args.strong (first_open c.args.is_initial) (plain_marks rank (marks_before rank (rank c.args.at) (g.M.MarkRow.marks c.args.row.now)))) ≡ true =
    ap (λ xs. is_some (open_through c.args.strong (first_open c.args.is_initial) xs))
    (sym (ap (λ n. take n ms) c.count_before-count.ensures.count ∙ take-earlier rank (rank c.args.at) (g.M.MarkRow.marks c.args.row.now) c.count_before-count.ensures.row))
    ∙ sym c.is_open_behind.ensures ∙ c.if-is_open_behind.true in
    (ap (λ n. first_of c.args.strong (Some (begin_at (rank c.args.at))) (Some (begin_at (rank c.args.at))) (drop n ms)) c.count_before-count.ensures.count
    ∙ first_of-from g.T.Moment.rank (g.M.MarkRow.marks c.args.row.now) c.count_before-count.ensures.row c.args.strong c.args.is_initial (g.T.Moment.rank c.args.at) (Some (begin_at (rank c.args.at))) (sym opened) (ap not (int_lt-same (rank c.args.at))))

pub returns-else-is_open_behind : goal.returns-else-is_open_behind
returns-else-is_open_behind g c =
    let rank = g.T.Moment.rank in
    let ms = plain_marks rank (g.M.MarkRow.marks c.args.row.now) in
    let opened : is_some (open_through c.args.strong (first_open c.args.is_initial) (plain_marks rank (marks_before rank (rank c.args.at) (g.M.MarkRow.marks c.args.row.now)))) ≡ false =
    ap (λ xs. is_some (open_through c.args.strong (first_open c.args.is_initial) xs))
    (sym (ap (λ n. take n ms) c.count_before-count.ensures.count ∙ take-earlier rank (rank c.args.at) (g.M.MarkRow.marks c.args.row.now) c.count_before-count.ensures.row))
    ∙ sym c.is_open_behind.ensures ∙ c.if-is_open_behind.false in
    (ap (λ n. first_of c.args.strong (Some (begin_at (rank c.args.at))) None (drop n ms)) c.count_before-count.ensures.count
    ∙ first_of-from g.T.Moment.rank (g.M.MarkRow.marks c.args.row.now) c.count_before-count.ensures.row c.args.strong c.args.is_initial (g.T.Moment.rank c.args.at) None (sym opened) refl)
