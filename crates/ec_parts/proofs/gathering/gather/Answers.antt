-- The marks in the order of time are those that were collected.
use Rattle.std.proofs.Common.{◌≡◌, ◌∷◌, [], ℤ, ◌<◌, List, length, refl, sym, subst, ◌∙◌, arith}
use Rattle.std.proofs.lemmas.Grind.{common_steps}
use Rattle.std.specs.List.{All}
use Rattle.std.specs.List.Sorted.{IsPermutation}
use Rattle.std.proofs.lemmas.List.Sorted.{All-permutation}
use Rattle.std.proofs.lemmas.Result.{on_ok_weaker}
use Rattle.ec_rows.specs.declared.mark.Mark.{Mark}
use Rattle.ec_points.specs.Table.{marks_at}
use Rattle.ec_parts.specs.Gathered.{AreGathered, AreInTime, initiations_at, marks_under}
use Rattle.ec_parts.proofs.GatheredRows.{AreGathered-permuted, AreGathered-none, first-others, few-permuted}
use Rattle.ec_parts.proofs.gathering.gather.Goals as goal

-- a list that is another, sorted
sorted : {X : Type 0} (others collected marks slice : List X) → collected ≡ others → IsPermutation collected marks → slice ≡ marks → IsPermutation others slice
sorted others collected marks slice is moved same = subst (λ xs. IsPermutation xs slice) is (subst (IsPermutation collected) (sym same) moved)

-- a list without a member
nothing : {X : Type 0} (xs : List X) → length xs < 1 → xs ≡ []
nothing [] short = refl
nothing (x ∷ xs) short = absurd (omega arith)

pub push_clashes-requires-clause-order : goal.push_clashes-requires-clause-order
push_clashes-requires-clause-order g c =
    subst (AreInTime g.T.Moment.rank) (sym (first-others c.as_slice.result.now c.first-item.result (omega arith) c.first-item.is))
    (subst (AreInTime g.T.Moment.rank) (sym c.as_slice.ensures.value) c.sort_by_time.ensures.order)

pub push_clashes-requires-clause-counted : goal.push_clashes-requires-clause-counted
push_clashes-requires-clause-counted g c =
    subst (All (λ (m : Mark _). 0 < m.inits)) (sym (first-others c.as_slice.result.now c.first-item.result (omega arith) c.first-item.is))
    (All-permutation (λ (m : Mark _). 0 < m.inits) (marks_under c.args.initiations.now c.args.list.now) c.as_slice.result.now
    (sorted (marks_under c.args.initiations.now c.args.list.now) c.in_ok-marks.marks.items c.sort_by_time.new.marks.items c.as_slice.result.now c.in_ok-marks.ensures c.sort_by_time.ensures.same c.as_slice.ensures.value)
    c.requires.counted)

pub push_clashes-requires-clause-few : goal.push_clashes-requires-clause-few
push_clashes-requires-clause-few g c =
    subst (λ ms. (t : ℤ) → initiations_at g.T.Moment.rank t ms < 4294967296) (sym (first-others c.as_slice.result.now c.first-item.result (omega arith) c.first-item.is))
    (few-permuted g.T.Moment.rank (marks_under c.args.initiations.now c.args.list.now) c.as_slice.result.now 4294967296
    (sorted (marks_under c.args.initiations.now c.args.list.now) c.in_ok-marks.marks.items c.sort_by_time.new.marks.items c.as_slice.result.now c.in_ok-marks.ensures c.sort_by_time.ensures.same c.as_slice.ensures.value)
    c.requires.few)

pub returns-in-len1-up-clause-gathered : goal.returns-in-len1-up-clause-gathered
returns-in-len1-up-clause-gathered g c =
    on_ok_weaker c.push_clashes.result
    (λ gathered.
    AreGathered-permuted g.T.Moment.rank (marks_under c.args.initiations.now c.args.list.now) c.as_slice.result.now (marks_at c.args.p.0 c.push_clashes.new.points)
    (sorted (marks_under c.args.initiations.now c.args.list.now) c.in_ok-marks.marks.items c.sort_by_time.new.marks.items c.as_slice.result.now c.in_ok-marks.ensures c.sort_by_time.ensures.same c.as_slice.ensures.value)
    (subst (λ ms. AreGathered g.T.Moment.rank ms (marks_at c.args.p.0 c.push_clashes.new.points)) (first-others c.as_slice.result.now c.first-item.result (omega arith) c.first-item.is) gathered))
    c.push_clashes.ensures.gathered

pub returns-clause-gathered : goal.returns-clause-gathered
returns-clause-gathered g c =
    AreGathered-permuted g.T.Moment.rank (marks_under c.args.initiations.now c.args.list.now) c.as_slice.result.now (marks_at c.args.p.0 c.reserve.new.self)
    (sorted (marks_under c.args.initiations.now c.args.list.now) c.in_ok-marks.marks.items c.sort_by_time.new.marks.items c.as_slice.result.now c.in_ok-marks.ensures c.sort_by_time.ensures.same c.as_slice.ensures.value)
    (AreGathered-none g.T.Moment.rank c.as_slice.result.now (marks_at c.args.p.0 c.reserve.new.self) (nothing c.as_slice.result.now c.in-empty.len_below) (c.in_ok-reserve.ensures.grown.marks ∙ c.requires.none))

pub returns-in-len1-up-clause-others : goal.returns-in-len1-up-clause-others
returns-in-len1-up-clause-others g c n other = c.push_clashes.ensures.others n other ∙ c.reserve.ensures.others n other

pub scale_in_slice-rest : goal.scale_in_slice-rest
scale_in_slice-rest c = grind (arith, common_steps)

pub returns-clause-initials : goal.returns-clause-initials
returns-clause-initials c = grind (arith, common_steps)

pub slice_bounds-rest-start : goal.slice_bounds-rest-start
slice_bounds-rest-start c = grind (arith, common_steps)

pub bounds-first-0 : goal.bounds-first-0
bounds-first-0 c = grind (arith, common_steps)

pub push_clashes-requires-clause-none : goal.push_clashes-requires-clause-none
push_clashes-requires-clause-none c = grind (arith, common_steps)

pub returns-in-len1-up-clause-initials : goal.returns-in-len1-up-clause-initials
returns-in-len1-up-clause-initials c = grind (arith, common_steps)

pub returns-clause-others : goal.returns-clause-others
returns-clause-others c = grind (arith, common_steps)

pub slice_bounds-rest-count : goal.slice_bounds-rest-count
slice_bounds-rest-count c = grind (arith, common_steps)
