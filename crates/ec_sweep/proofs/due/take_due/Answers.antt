-- One that is due is taken out more; while something is due first, the agenda is not empty.
use Rattle.std.proofs.Common.{◌≡◌, ◌||◌, true, refl, ap, sym, subst, ◌∙◌, arith}
use Rattle.std.proofs.lemmas.Grind.{common_steps}
use Rattle.ec_lists.proofs.Integers.{int_eq-same}
use Rattle.ec_numbered.specs.Due.{has_due}
use Rattle.ec_numbered.specs.PropSet.{has_number}
use Rattle.ec_sweep.proofs.Dues.{at-first, has_due-elsewhere, has_due-rest, not-empty, taken-more}
use Rattle.std.specs.Ordering.{int_eq}
use Rattle.ec_sweep.proofs.due.take_due.Goals as goal

pub loop-at-preserved-in-Continue-1 : goal.loop-at-preserved-in-Continue-1
loop-at-preserved-in-Continue-1 g c =
    let rank = g.T.Moment.rank in
    let t = g.T.Moment.rank c.args.at in
    let some = c.in-Some.ensures.some in
    let here : rank c.in-Some.field-0-0 ≡ t =
    at-first rank t c.loop-at.agenda (c.in-Some.field-0-0, c.in-Some.p) c.pop.new.self some (c.loop-at-test.ensures.some refl) c.loop-at.invariant.later in
    record {
      taken = λ n.
          ap (λ items. has_number n items || has_due rank t n c.pop.new.self) c.in_ok-push.ensures.items
          ∙ taken-more rank t n c.loop-at.due.items (c.in-Some.field-0-0, c.in-Some.p) c.pop.new.self (subst (λ u. int_eq (rank c.in-Some.field-0-0) u ≡ true) here (int_eq-same (rank c.in-Some.field-0-0)))
          ∙ ap (λ agenda. has_number n c.loop-at.due.items || has_due rank t n agenda) (sym some)
          ∙ c.loop-at.invariant.taken n;
      others = λ n u apart.
          has_due-elsewhere rank t u n (c.in-Some.field-0-0, c.in-Some.p) c.pop.new.self here apart
          ∙ ap (has_due rank u n) (sym some)
          ∙ c.loop-at.invariant.others n u apart;
      later = λ n u is. c.loop-at.invariant.later n u (subst (λ agenda. has_due rank u n agenda ≡ true) (sym some) (has_due-rest rank u n (c.in-Some.field-0-0, c.in-Some.p) c.pop.new.self is));
    }

pub loop-at-smaller : goal.loop-at-smaller
loop-at-smaller g c = absurd (not-empty g.T.Moment.rank (g.T.Moment.rank c.args.at) c.loop-at.agenda c.in_default.ensures.none (c.loop-at-test.ensures.some refl))

pub loop-at-smaller-in-Continue-1 : goal.loop-at-smaller-in-Continue-1
loop-at-smaller-in-Continue-1 c = grind (arith, common_steps)

pub loop-at-preserved : goal.loop-at-preserved
loop-at-preserved c = grind (arith, common_steps)

pub loop-at-init : goal.loop-at-init
loop-at-init c = grind (arith, common_steps)
