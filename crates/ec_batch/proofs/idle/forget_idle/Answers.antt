-- One property after another.
use Rattle.std.proofs.Common.{get_or, take, sym, ap, subst, ◌∙◌}
use Rattle.ec_terms.specs.declared.ids.PropId.{PropId}
use Rattle.std.proofs.lemmas.List.{take_all, take_more}
use Rattle.ec_numbered.specs.PropSet.{has_number}
use Rattle.ec_parts.specs.StandFor.{StandForBoth, view_of}
use Rattle.ec_batch.specs.Idle.{StandForSome}
use Rattle.ec_batch.proofs.Forgetting.{mentions_were, passed_more, keeps_live, keeps_live_or}
use Rattle.ec_batch.proofs.idle.forget_idle.Goals as goal
use Rattle.ec_batch.proofs.WalkSteps.{keeps_terms}

pub loop-p-preserved : goal.loop-p-preserved
loop-p-preserved g c =
    let inv = c.loop-p.invariant in
    let after = c.forget_one.new.parts.props in
    let none : PropId = record { 0 = 0 } in
    let was = inv.some in
    record {
      some = subst (λ theory. StandForSome g.T.Moment.rank theory (view_of c.forget_one.new.parts)) (sym c.forget_one.ensures.theory)
          (record { events = was.events; tally = was.tally; both = c.forget_one.ensures.both was.events was.tally was.both });
      both = λ events tally stand.
          subst (λ theory. StandForBoth g.T.Moment.rank theory events events (view_of c.forget_one.new.parts) tally) inv.theory
          (c.forget_one.ensures.both events tally (subst (λ theory. StandForBoth g.T.Moment.rank theory events events (view_of c.loop-p.parts) tally) (sym inv.theory) (inv.both events tally stand)));
      passed = λ id listed is.
          passed_more after (take c.loop-p.p-index c.args.list.now) (get_or c.args.list.now c.loop-p.p-index none) (λ n was none. inv.passed n was (mentions_were c.loop-p.parts.props after c.forget_one.ensures.others n 0 none)) c.forget_one.ensures.gone id
          (sym (ap (has_number id) (take_more c.args.list.now c.loop-p.p-index none c.loop-p-test.true)) ∙ listed) is;
      terms = λ id t is. inv.terms id t (keeps_terms after c.loop-p.parts.props (λ q some. sym (c.forget_one.ensures.others q some)) id t is);
      theory = c.forget_one.ensures.theory ∙ inv.theory;
    }

pub returns-clause-stands : goal.returns-clause-stands
returns-clause-stands g c events tally stand listed =
    let inv = c.loop-p.invariant in
    let both = inv.both events tally stand in
    record {
      both = both;
      only_live = λ id t is. keeps_live c.args.parts.now.checked events c.loop-p.parts.props (has_number id c.args.list.now) id t both.tables.kept is
          (λ was. inv.passed id (ap (has_number id) (take_all c.loop-p.p-index c.args.list.now c.loop-p-test.false) ∙ was)) (listed id t (inv.terms id t is));
    }

pub returns-clause-unlisted : goal.returns-clause-unlisted
returns-clause-unlisted g c events tally stand =
    let inv = c.loop-p.invariant in
    let both = inv.both events tally stand in (
      both,
      λ others listed id t is. keeps_live_or c.args.parts.now.checked events c.loop-p.parts.props (has_number id c.args.list.now) (others id) id t both.tables.kept is
          (λ was. inv.passed id (ap (has_number id) (take_all c.loop-p.p-index c.args.list.now c.loop-p-test.false) ∙ was)) (listed id t (inv.terms id t is)),
    )
