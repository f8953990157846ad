-- Each interval from the place on is the next of what is left, if it passes, up to the first that begins behind the end of the other one.
use Rattle.std.proofs.Common.{◌≤◌, ◌+◌, ◌∷◌, [], ◌++◌, cond, filter, drop, length, IsTrue, refl, sym, ap, subst, ◌∙◌, arith}
use denote.Enum.Bare.{same_true, same_false}
use Rattle.std.proofs.lemmas.List.{length-map}
use Rattle.ec_lists.proofs.Filters.{length-filter_le}
use Rattle.ec_lists.proofs.Places.{slice_get-map_at}
use Rattle.ec_lists.proofs.Results.{OnErr-anyway}
use Rattle.ec_axioms.specs.Timeline.{Interval}
use Rattle.ec_commands.specs.QueryTexts.{interval_text}
use Rattle.ec_commands.specs.Relations.{end_point, is_proper, point_lt, stands_in}
use Rattle.ec_commands.specs.contracts.relation.Relation.{the_type}
use Rattle.ec_commands.specs.declared.relation.Relation.TheVariants.{Before}
use Rattle.ec_intervals.specs.Table.{members_at, plain_interval, plain_intervals}
use Rattle.ec_query.proofs.WritingLemmas.{IsLeft, IsLeft-start, IsLeft-next, IsLeft-part, IsLeft-end}
use Rattle.ec_compare.specs.Stretches.{front_text, fronted_text}
use Rattle.ec_compare.proofs.Loops.{IsLeft-named, fronted-left, fronted-one}
use Rattle.ec_compare.proofs.Points.{none-found, one-found}
use Rattle.ec_compare.proofs.Rows.{proper-points}
use Rattle.ec_compare.proofs.Walks.{before-found, filter-left_end, length-filter_left, walk-front, walk-start, walk-stop}
use Rattle.ec_compare.proofs.touching.write_touching.Goals as goal
use Rattle.ec_compare.proofs.touching.write_touching.Goals.{then-eq-2+in_ok-write_pair, else-eq-2, then-ends_later, else-ends_later}

pub loop-place-init : goal.loop-place-init
loop-place-init g c = record {
  left = IsLeft-start {faults = g.K.Sink.faults} c.args.out.now _ _ refl;
  ended = omega arith;
  near = omega arith;
}

pub returns-then-eq-clause-written : goal.returns-then-eq-clause-written
returns-then-eq-clause-written g c = λ row few.
    let members = members_at c.args.id.0 c.args.intervals.now in
    let all = plain_intervals g.T.Moment.rank members in
    let left = plain_interval g.T.Moment.rank c.args.left.now in
    let right = plain_interval g.T.Moment.rank c.member-right.result in
    let canon = g.T.Moment.canon in
    let front = front_text c.args.shown canon left in
    let passes = stands_in c.args.wanted left in
    let read = slice_get-map_at (plain_interval g.T.Moment.rank) members c.loop-place.place c.member-right.result c.member-right.ensures.member in
    let start = walk-start left c.requires.proper all row c.args.wanted c.requires.not_after c.requires.not_before c.args.from.now few in
    let stop = walk-stop left c.requires.proper all row c.args.wanted c.requires.not_after c.requires.not_before c.loop-place.place right read
    (before-found c.relation-found.result left right c.relation-found.ensures (same_true the_type tt c.relation-found.result Before (sym c.eq.ensures ∙ c.if-eq.true))) in
    IsLeft-end (IsLeft-named (ap (fronted_text front canon) (sym start)) c.loop-place.invariant.left) (ap (fronted_text front canon) stop)

pub returns-then-eq-clause-from : goal.returns-then-eq-clause-from
returns-then-eq-clause-from g c = λ row few.
    let left = plain_interval g.T.Moment.rank c.args.left.now in
    let front = walk-front left c.requires.proper (plain_intervals g.T.Moment.rank (members_at c.args.id.0 c.args.intervals.now)) row c.args.from.now few in
    omega (arith, front, c.loop-place.invariant.ended)

pub returns-in_err-write_pair-clause-part : goal.returns-in_err-write_pair-clause-part
returns-in_err-write_pair-clause-part g c = λ row few.
    let members = members_at c.args.id.0 c.args.intervals.now in
    let all = plain_intervals g.T.Moment.rank members in
    let left = plain_interval g.T.Moment.rank c.args.left.now in
    let right = plain_interval g.T.Moment.rank c.member-right.result in
    let canon = g.T.Moment.canon in
    let front = front_text c.args.shown canon left in
    let passes = stands_in c.args.wanted left in
    let read = slice_get-map_at (plain_interval g.T.Moment.rank) members c.loop-place.place c.member-right.result c.member-right.ensures.member in
    let start = walk-start left c.requires.proper all row c.args.wanted c.requires.not_after c.requires.not_before c.args.from.now few in
    let one = one-found c.relation-found.result c.args.wanted left right c.relation-found.ensures
    (same_true the_type tt c.relation-found.result c.args.wanted (sym c.eq-in-loop-place.ensures ∙ c.if-eq-2.true)) in
    let more = fronted_text front canon (filter passes (drop (c.loop-place.place + 1) all)) in
    OnErr-anyway c.from_residual.result
    (IsLeft-part (front ++ 32 ∷ interval_text canon right) more (IsLeft-named (ap (fronted_text front canon) (sym start)) c.loop-place.invariant.left)
    (fronted-left front canon all c.loop-place.place right read passes ∙ ap (λ text. text ++ more) (ap (fronted_text front canon) one ∙ fronted-one front canon right))
    c.in_err-write_pair.ensures.part)

pub loop-place-preserved : goal.loop-place-preserved
loop-place-preserved g c =
    let members = members_at c.args.id.0 c.args.intervals.now in
    let all = plain_intervals g.T.Moment.rank members in
    let left = plain_interval g.T.Moment.rank c.args.left.now in
    let right = plain_interval g.T.Moment.rank c.member-right.result in
    let canon = g.T.Moment.canon in
    let front = front_text c.args.shown canon left in
    let passes = stands_in c.args.wanted left in
    let read = slice_get-map_at (plain_interval g.T.Moment.rank) members c.loop-place.place c.member-right.result c.member-right.ensures.member in
    let sooner = λ (j : Interval). point_lt (end_point j.until) (end_point left.until) in
    let other : IsTrue (is_proper right) = sym (proper-points right) ∙ c.member-right.ensures.proper in
    let found = c.relation-found.result in
    let more = fronted_text front canon (filter passes (drop (c.loop-place.place + 1) all)) in
    let whole = fronted_text front canon (filter passes (drop c.args.from.now all)) in
    let next = fronted-left front canon all c.loop-place.place right read passes in
    let left_over : IsLeft g.K.Sink.stands g.K.Sink.faults c.args.out.now c.if-eq-2.out whole more = elim c.if-eq-2.branch [
      | then-eq-2+in_ok-write_pair w ↦
          let one = one-found found c.args.wanted left right c.relation-found.ensures (same_true the_type tt found c.args.wanted (sym c.eq-in-loop-place.ensures ∙ w.if-eq-2.true)) in
          subst (λ out. IsLeft g.K.Sink.stands g.K.Sink.faults c.args.out.now out whole more) (sym w.out-is)
          (IsLeft-next (front ++ 32 ∷ interval_text canon right) more c.loop-place.invariant.left
          (next ∙ ap (λ text. text ++ more) (ap (fronted_text front canon) one ∙ fronted-one front canon right))
          w.in_ok-write_pair.ensures.written w.in_ok-write_pair.ensures.quiet)
      | else-eq-2 w ↦
          let none = none-found found c.args.wanted left right c.requires.proper other c.relation-found.ensures (same_false the_type found c.args.wanted (sym c.eq-in-loop-place.ensures ∙ w.if-eq-2.false)) in
          subst (λ out. IsLeft g.K.Sink.stands g.K.Sink.faults c.args.out.now out whole more) (sym w.out-is)
          (subst (λ rest. IsLeft g.K.Sink.stands g.K.Sink.faults c.args.out.now c.loop-place.out whole rest)
          (next ∙ ap (λ text. text ++ more) (ap (fronted_text front canon) none)) c.loop-place.invariant.left)
    ] in
    let ended : c.if-ends_later.from ≤ c.loop-place.from + length (filter sooner (right ∷ [])) = elim c.if-ends_later.branch [
      | then-ends_later w ↦
          let one = ap (λ b. length (cond b (right ∷ []) [])) (c.ends_later.ensures left right c.requires.proper c.relation-found.ensures w.if-ends_later.true) in
          omega (arith, one, w.from-is)
      | else-ends_later w ↦ omega (arith, w.from-is)
    ] in
    record {
      left = left_over;
      ended = omega (arith, c.loop-place.invariant.ended, ended, length-filter_left sooner all c.loop-place.place right read);
      near = omega (arith, c.loop-place.invariant.near, ended, length-filter_le sooner (right ∷ []));
    }

pub returns-clause-written : goal.returns-clause-written
returns-clause-written g c = λ row few.
    let members = members_at c.args.id.0 c.args.intervals.now in
    let all = plain_intervals g.T.Moment.rank members in
    let left = plain_interval g.T.Moment.rank c.args.left.now in
    let canon = g.T.Moment.canon in
    let front = front_text c.args.shown canon left in
    let whole = length-map members (plain_interval g.T.Moment.rank) in
    let start = walk-start left c.requires.proper all row c.args.wanted c.requires.not_after c.requires.not_before c.args.from.now few in
    let stop = filter-left_end (stands_in c.args.wanted left) all c.loop-place.place (omega (arith, whole, c.len-place-end.ensures, c.loop-place-test.false)) in
    IsLeft-end (IsLeft-named (ap (fronted_text front canon) (sym start)) c.loop-place.invariant.left) (ap (fronted_text front canon) stop)

pub returns-clause-from : goal.returns-clause-from
returns-clause-from g c = λ row few.
    let left = plain_interval g.T.Moment.rank c.args.left.now in
    let front = walk-front left c.requires.proper (plain_intervals g.T.Moment.rank (members_at c.args.id.0 c.args.intervals.now)) row c.args.from.now few in
    omega (arith, front, c.loop-place.invariant.ended)
