-- Each interval from the place on is counted if it passes, up to the first that begins behind the end of the other one.
use Rattle.std.proofs.Common.{◌≡◌, ◌≤◌, ◌+◌, ◌∷◌, [], cond, filter, length, IsTrue, sym, ap, ◌∙◌, arith}
use denote.Enum.Bare.{same_true, same_false}
use Rattle.std.proofs.lemmas.List.{length-map}
use Rattle.ec_axioms.specs.Timeline.{Interval}
use Rattle.ec_commands.specs.Relations.{end_point, is_proper, point_lt, stands_in}
use Rattle.ec_commands.specs.contracts.relation.Relation.{the_type}
use Rattle.ec_commands.specs.declared.relation.Relation.TheVariants.{Before}
use Rattle.ec_intervals.specs.Table.{members_at, plain_interval, plain_intervals}
use Rattle.ec_lists.proofs.Filters.{length-filter_le}
use Rattle.ec_lists.proofs.Places.{slice_get-map_at}
use Rattle.ec_compare.proofs.Points.{none-found, one-found}
use Rattle.ec_compare.proofs.Rows.{proper-points}
use Rattle.ec_compare.proofs.Walks.{before-found, filter-left_end, length-filter_left, walk-front, walk-start, walk-stop}
use Rattle.ec_compare.proofs.touching.count_touching.Goals as goal
use Rattle.ec_compare.proofs.touching.count_touching.Goals.{then-eq-2, else-eq-2, then-ends_later, else-ends_later}

pub returns-then-eq-clause-count : goal.returns-then-eq-clause-count
returns-then-eq-clause-count g c = λ row few.
    let members = members_at c.args.id.0 c.args.intervals.now in
    let all = plain_intervals g.T.Moment.rank members in
    let left = plain_interval g.T.Moment.rank c.args.left.now in
    let right = plain_interval g.T.Moment.rank c.member.result in
    let read = slice_get-map_at (plain_interval g.T.Moment.rank) members c.loop-place.place c.member.result c.member.ensures.member in
    let start = ap length (walk-start left c.requires.proper all row c.args.wanted c.requires.not_after c.requires.not_before c.args.from.now few) in
    let stop = ap length (walk-stop left c.requires.proper all row c.args.wanted c.requires.not_after c.requires.not_before c.loop-place.place right read
    (before-found c.relation-found.result left right c.relation-found.ensures (same_true the_type tt c.relation-found.result Before (sym c.eq.ensures ∙ c.if-eq.true)))) in
    omega (arith, start, stop, c.loop-place.invariant.counted)

pub returns-then-eq-clause-from : goal.returns-then-eq-clause-from
returns-then-eq-clause-from g c = λ row few.
    let left = plain_interval g.T.Moment.rank c.args.left.now in
    let front = walk-front left c.requires.proper (plain_intervals g.T.Moment.rank (members_at c.args.id.0 c.args.intervals.now)) row c.args.from.now few in
    omega (arith, front, c.loop-place.invariant.ended)

pub loop-place-preserved : goal.loop-place-preserved
loop-place-preserved g c =
    let members = members_at c.args.id.0 c.args.intervals.now in
    let all = plain_intervals g.T.Moment.rank members in
    let left = plain_interval g.T.Moment.rank c.args.left.now in
    let right = plain_interval g.T.Moment.rank c.member.result in
    let found = c.relation-found.result in
    let passes = stands_in c.args.wanted left in
    let sooner = λ (j : Interval). point_lt (end_point j.until) (end_point left.until) in
    let other : IsTrue (is_proper right) = sym (proper-points right) ∙ c.member.ensures.proper in
    let read = slice_get-map_at (plain_interval g.T.Moment.rank) members c.loop-place.place c.member.result c.member.ensures.member in
    let counted : c.if-eq-2.count ≡ c.loop-place.count + length (filter passes (right ∷ [])) = elim c.if-eq-2.branch [
      | then-eq-2 w ↦
          let one = ap length (one-found found c.args.wanted left right c.relation-found.ensures (same_true the_type tt found c.args.wanted (sym c.eq-in-loop-place.ensures ∙ w.if-eq-2.true))) in
          omega (arith, one, w.count-is)
      | else-eq-2 w ↦
          let none = ap length (none-found found c.args.wanted left right c.requires.proper other c.relation-found.ensures (same_false the_type found c.args.wanted (sym c.eq-in-loop-place.ensures ∙ w.if-eq-2.false))) in
          omega (arith, none, w.count-is)
    ] in
    let ended : c.if-ends_later.from ≤ c.loop-place.from + length (filter sooner (right ∷ [])) = elim c.if-ends_later.branch [
      | then-ends_later w ↦
          let one = ap (λ b. length (cond b (right ∷ []) [])) (c.ends_later.ensures left right c.requires.proper c.relation-found.ensures w.if-ends_later.true) in
          omega (arith, one, w.from-is)
      | else-ends_later w ↦ omega (arith, w.from-is)
    ] in
    let next = length-filter_left passes all c.loop-place.place right read in
    let next_sooner = length-filter_left sooner all c.loop-place.place right read in
    record {
      counted = omega (arith, c.loop-place.invariant.counted, counted, next);
      ended = omega (arith, c.loop-place.invariant.ended, ended, next_sooner);
      few = omega (arith, c.loop-place.invariant.few, counted, length-filter_le passes (right ∷ []));
      near = omega (arith, c.loop-place.invariant.near, ended, length-filter_le sooner (right ∷ []));
    }

pub returns-clause-count : goal.returns-clause-count
returns-clause-count g c = λ row few.
    let members = members_at c.args.id.0 c.args.intervals.now in
    let all = plain_intervals g.T.Moment.rank members in
    let left = plain_interval g.T.Moment.rank c.args.left.now in
    let whole = length-map members (plain_interval g.T.Moment.rank) in
    let start = ap length (walk-start left c.requires.proper all row c.args.wanted c.requires.not_after c.requires.not_before c.args.from.now few) in
    let stop = ap length (filter-left_end (stands_in c.args.wanted left) all c.loop-place.place (omega (arith, whole, c.len-place-end.ensures, c.loop-place-test.false))) in
    omega (arith, start, stop, c.loop-place.invariant.counted)

pub returns-clause-from : goal.returns-clause-from
returns-clause-from g c = λ row few.
    let left = plain_interval g.T.Moment.rank c.args.left.now in
    let front = walk-front left c.requires.proper (plain_intervals g.T.Moment.rank (members_at c.args.id.0 c.args.intervals.now)) row c.args.from.now few in
    omega (arith, front, c.loop-place.invariant.ended)
