use Rattle.std.proofs.Common.{◌≡◌, ◌∷◌, [], ℤ, ◌+◌, ◌<◌, true, take, refl, sym, ap, subst, ◌∙◌, is_eq, arith}
use Rattle.std.proofs.lemmas.Grind.{common_steps}
use Rattle.std.specs.Ordering.{int_cmp}
use Rattle.std.proofs.lemmas.Int.{ints}
use Rattle.std.proofs.lemmas.List.{take_all}
use Rattle.std.proofs.lemmas.List.Elements.{All-head, All-get_or, All-tail}
use Rattle.std.proofs.lemmas.Result.{on_ok_weaker}
use Rattle.ec_rows.specs.declared.mark.Mark.{Mark}
use Rattle.ec_points.specs.Table.{marks_at, row_at, PointTable}
use Rattle.ec_parts.specs.Gathered.{AreGathered, clashing}
use Rattle.ec_parts.proofs.GatheredRows.{AreOpen, AreOpen-first, AreOpen-same, AreOpen-later, AreGathered-open, take-next, get_or-next, is-later, clashes-fit}
use Rattle.ec_parts.proofs.gathering.push_clashes.Goals as goal
use Rattle.ec_parts.proofs.gathering.push_clashes.Goals.{then-is_eq, else-is_eq+in_ok-push}

pub loop-mark-init : goal.loop-mark-init
loop-mark-init g c = record {
  so_far =
      subst (AreOpen g.T.Moment.rank (c.args.first ∷ []) (marks_at c.args.p.0 c.args.points.now)) (sym c.clashes_of-open.ensures)
      (AreOpen-first g.T.Moment.rank c.args.first (All-head (λ (m : Mark _). 0 < m.inits) c.args.first c.args.rest.now c.requires.counted) (marks_at c.args.p.0 c.args.points.now) c.requires.none);
  last = ap (λ (m : Mark _). g.T.Moment.rank m.at) (sym c.clashes_of-open.ensures);
  others = λ n other. refl;
  initials = refl;
}

-- two times are the same where the order says so
same_time : (a b : ℤ) → is_eq (int_cmp a b) ≡ true → a ≡ b
same_time a b same = grind (arith, ints)

pub overflow_add-open : goal.overflow_add-open
overflow_add-open g c =
    let fits =
    clashes-fit g.T.Moment.rank c.args.first c.args.rest.now (marks_at c.args.p.0 c.loop-mark.points) c.loop-mark.mark-index c.mark-item.result c.loop-mark.open 4294967296 c.requires.few
    c.loop-mark-test.true c.mark-item.is
    (same_time _ _ (ap is_eq (sym c.order.ensures.order) ∙ sym c.is_eq.ensures ∙ c.if-is_eq.true)) c.loop-mark.invariant.so_far in
    omega arith

pub loop-mark-preserved : goal.loop-mark-preserved
loop-mark-preserved g c =
    let rank = g.T.Moment.rank in
    let i = c.loop-mark.mark-index in
    let mark = c.mark-item.result in
    let open_mark = c.loop-mark.open in
    let marks = marks_at c.args.p.0 c.loop-mark.points in
    let next = take-next rank c.args.first c.args.rest.now i mark c.loop-mark-test.true c.mark-item.is in
    let at_next = ap (λ (m : Mark _). rank m.at) (get_or-next rank c.args.first c.args.rest.now i mark c.loop-mark-test.true c.mark-item.is) in
    elim c.if-is_eq.branch [
      | then-is_eq w ↦
          let same = same_time (rank mark.at) (rank open_mark.at) (ap is_eq (sym c.order.ensures.order) ∙ sym c.is_eq.ensures ∙ w.if-is_eq.true) in
          record {
            so_far =
                subst (AreOpen rank (c.args.first ∷ take (i + 1) c.args.rest.now) (marks_at c.args.p.0 c.if-is_eq.points)) (sym w.open-is)
                (subst (λ (points : PointTable _). AreOpen rank (c.args.first ∷ take (i + 1) c.args.rest.now) (marks_at c.args.p.0 points) (record open_mark { clashes = open_mark.clashes + mark.inits })) (sym w.points-is)
                (AreOpen-same rank (c.args.first ∷ take i c.args.rest.now) (c.args.first ∷ take (i + 1) c.args.rest.now) marks open_mark mark next same c.loop-mark.invariant.so_far));
            last = at_next ∙ same ∙ ap (λ (m : Mark _). rank m.at) (sym w.open-is);
            others = λ n other. ap (row_at n) w.points-is ∙ c.loop-mark.invariant.others n other;
            initials = ap (λ (points : PointTable _). points.initials) w.points-is ∙ c.loop-mark.invariant.initials;
          }
      | else-is_eq+in_ok-push w ↦
          let later =
          is-later rank c.args.first c.args.rest.now i mark open_mark c.requires.order c.loop-mark-test.true c.mark-item.is c.loop-mark.invariant.last
          (ap is_eq (sym c.order.ensures.order) ∙ sym c.is_eq.ensures ∙ w.if-is_eq.false) in
          let some : 0 < mark.inits =
          subst (λ (m : Mark _). 0 < m.inits) (sym c.mark-item.is)
          (All-get_or (λ (m : Mark _). 0 < m.inits) c.args.rest.now i mark c.loop-mark-test.true (All-tail (λ (m : Mark _). 0 < m.inits) c.args.first c.args.rest.now c.requires.counted)) in
          let opened = w.open-is ∙ w.clashes_of-open-else-is_eq.ensures in
          record {
            so_far =
                subst (AreOpen rank (c.args.first ∷ take (i + 1) c.args.rest.now) (marks_at c.args.p.0 c.if-is_eq.points)) (sym opened)
                (subst (λ (points : PointTable _). AreOpen rank (c.args.first ∷ take (i + 1) c.args.rest.now) (marks_at c.args.p.0 points) (clashing mark)) (sym w.points-is)
                (AreOpen-later rank (c.args.first ∷ take i c.args.rest.now) (c.args.first ∷ take (i + 1) c.args.rest.now) marks (marks_at c.args.p.0 w.push.new.self) open_mark mark next w.in_ok-push.ensures.ok later
                some c.loop-mark.invariant.so_far));
            last = at_next ∙ ap (λ (m : Mark _). rank m.at) (sym opened);
            others = λ n other. ap (row_at n) w.points-is ∙ w.in_ok-push.ensures.others n other ∙ c.loop-mark.invariant.others n other;
            initials = ap (λ (points : PointTable _). points.initials) w.points-is ∙ w.in_ok-push.ensures.initials ∙ c.loop-mark.invariant.initials;
          }
    ]

pub returns-clause-gathered : goal.returns-clause-gathered
returns-clause-gathered g c =
    on_ok_weaker c.push-2.result
    (λ pushed.
    subst (λ ms. AreGathered g.T.Moment.rank (c.args.first ∷ ms) (marks_at c.args.p.0 c.push-2.new.self)) (take_all c.loop-mark.mark-index c.args.rest.now c.loop-mark-test.false)
    (AreGathered-open g.T.Moment.rank (c.args.first ∷ take c.loop-mark.mark-index c.args.rest.now) (marks_at c.args.p.0 c.loop-mark.points) (marks_at c.args.p.0 c.push-2.new.self) c.loop-mark.open pushed
    c.loop-mark.invariant.so_far)) c.push-2.ensures.ok

pub returns-clause-others : goal.returns-clause-others
returns-clause-others g c n other = c.push-2.ensures.others n other ∙ c.loop-mark.invariant.others n other

pub returns-in_err-push-clause-initials : goal.returns-in_err-push-clause-initials
returns-in_err-push-clause-initials c = grind (arith, common_steps)
