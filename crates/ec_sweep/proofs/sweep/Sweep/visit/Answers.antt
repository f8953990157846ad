-- A visit: nothing that is due is due before it; the sweep has come up to just before it, and the look and the settling take it up to it.
use Rattle.std.proofs.Common.{refl, ap, ◌∙◌, add-le-add, le_refl, arith}
use Rattle.std.proofs.lemmas.Grind.{common_steps}
use Rattle.ec_numbered.specs.PropSet.{has_number}
use Rattle.ec_parts.specs.StandFor.{view_of}
use Rattle.ec_sweep.proofs.MostSteps.{sweep-few}
use Rattle.ec_sweep.proofs.NextInstant.{due-later}
use Rattle.ec_sweep.proofs.OneVisit.{CanLookAt-next, CanSettleAt-looked, IsSweeping-visited, look-takes}
use Rattle.ec_sweep.proofs.sweep.Sweep.visit.Goals as goal

pub take_due-requires : goal.take_due-requires
take_due-requires g c = due-later g.T.Moment.rank c.args.self.now.agenda (g.T.Moment.rank c.args.at) c.requires.first.due

pub look-requires : goal.look-requires
look-requires g c =
    let leads = c.requires.leads in record {
      may_look =
          CanLookAt-next g.T.Moment.rank c.args.parts.now.checked leads.new (view_of c.args.parts.now) leads.tally c.args.change.now c.args.self.now (g.T.Moment.rank c.args.at)
          c.len.ensures.order c.len-2.ensures.slots leads.underway (c.requires.sweeping leads.new leads.tally leads.underway) c.requires.first c.requires.there
          c.deref.result.now (λ n. ap (has_number n) c.deref.ensures.value ∙ c.in_ok-due.ensures.due n);
    }

pub settle_all-requires : goal.settle_all-requires
settle_all-requires g c =
    let leads = c.requires.leads in record {
      may_settle =
          CanSettleAt-looked g.T.Moment.rank c.args.parts.now.checked leads.new (view_of c.args.parts.now) leads.tally c.args.change.now c.args.self.now (g.T.Moment.rank c.args.at)
          c.len.ensures.order c.len-2.ensures.slots leads.underway (c.requires.sweeping leads.new leads.tally leads.underway) c.requires.first c.requires.there
          c.deref.result.now (λ n. ap (has_number n) c.deref.ensures.value ∙ c.in_ok-due.ensures.due n)
          c.look.new.looked c.in_ok-turns.turns.items c.deref-2.result.now c.deref-2.ensures.value c.in_ok-turns.ensures.looked
          c.deref-3.result.now (λ n. ap (has_number n) c.deref-3.ensures.value ∙ c.in_ok-due.ensures.due n) c.take_due.new.agenda c.in_ok-due.ensures.behind;
    }

pub returns-clause-sweeping : goal.returns-clause-sweeping
returns-clause-sweeping g c = λ new tally underway.
    IsSweeping-visited g.T.Moment.rank c.args.parts.now.checked new (view_of c.args.parts.now) tally c.args.change.now c.args.self.now (g.T.Moment.rank c.args.at)
    c.len.ensures.order c.len-2.ensures.slots underway (c.requires.sweeping new tally underway) c.requires.first c.requires.there
    c.deref.result.now (λ n. ap (has_number n) c.deref.ensures.value ∙ c.in_ok-due.ensures.due n)
    c.look.new.looked c.in_ok-turns.turns.items c.deref-2.result.now c.deref-2.ensures.value c.in_ok-turns.ensures.looked
    c.deref-3.result.now (λ n. ap (has_number n) c.deref-3.ensures.value ∙ c.in_ok-due.ensures.due n) c.take_due.new.agenda c.in_ok-due.ensures.behind
    c.settle_all.new.agenda c.settle_all.new.dirty c.settle_all.new.planned c.in_ok-settle_all.ensures c.look.new.progress c.in_ok-turns.ensures.progress c.args.at refl

pub returns-in_err-due-clause-most : goal.returns-in_err-due-clause-most
returns-in_err-due-clause-most g c = λ new tally underway.
    add-le-add (le_refl c.args.steps.now)
    (sweep-few g.T.Moment.rank c.args.parts.now.checked new (view_of c.args.parts.now) c.args.change.now c.args.self.now (c.requires.sweeping new tally underway))

pub returns-in_err-turns-clause-most : goal.returns-in_err-turns-clause-most
returns-in_err-turns-clause-most g c =
    λ new tally underway.
    look-takes g.T.Moment.rank c.args.parts.now.checked new (view_of c.args.parts.now) tally c.args.change.now c.args.self.now (g.T.Moment.rank c.args.at)
    c.len.ensures.order c.len-2.ensures.slots underway (c.requires.sweeping new tally underway) c.requires.first c.requires.there
    c.deref.result.now (λ n. ap (has_number n) c.deref.ensures.value ∙ c.in_ok-due.ensures.due n) c.args.steps.now c.look.new.steps c.look.ensures.most

pub returns-in_err-settle_all-clause-most : goal.returns-in_err-settle_all-clause-most
returns-in_err-settle_all-clause-most g c =
    λ new tally underway.
    look-takes g.T.Moment.rank c.args.parts.now.checked new (view_of c.args.parts.now) tally c.args.change.now c.args.self.now (g.T.Moment.rank c.args.at)
    c.len.ensures.order c.len-2.ensures.slots underway (c.requires.sweeping new tally underway) c.requires.first c.requires.there
    c.deref.result.now (λ n. ap (has_number n) c.deref.ensures.value ∙ c.in_ok-due.ensures.due n) c.args.steps.now c.look.new.steps c.look.ensures.most

pub returns-clause-most : goal.returns-clause-most
returns-clause-most g c =
    λ new tally underway.
    look-takes g.T.Moment.rank c.args.parts.now.checked new (view_of c.args.parts.now) tally c.args.change.now c.args.self.now (g.T.Moment.rank c.args.at)
    c.len.ensures.order c.len-2.ensures.slots underway (c.requires.sweeping new tally underway) c.requires.first c.requires.there
    c.deref.result.now (λ n. ap (has_number n) c.deref.ensures.value ∙ c.in_ok-due.ensures.due n) c.args.steps.now c.look.new.steps c.look.ensures.most

pub returns-clause-last : goal.returns-clause-last
returns-clause-last c = grind (arith, common_steps)

pub returns-clause-steps : goal.returns-clause-steps
returns-clause-steps g c = c.in_ok-turns.ensures.steps
