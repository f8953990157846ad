-- The sweep starts before all events of one list alone, and each visit leaves fewer events behind it.
use Rattle.std.proofs.Common.{◌<◌, ◌-ℤ◌, pos, subst, sym, arith}
use Rattle.std.proofs.lemmas.Grind.{common_steps}
use Rattle.std.proofs.lemmas.Int.{ints}
use Rattle.ec_parts.specs.StandFor.{view_of}
use Rattle.ec_sweep.specs.Sweeping.{IsSweeping, left_behind}
use Rattle.ec_sweep.proofs.Beginning.{IsSweeping-begin}
use Rattle.ec_sweep.proofs.Lessening.{left_behind-less}
use Rattle.ec_sweep.proofs.MostSteps.{sweep-few}
use Rattle.ec_sweep.proofs.NextInstant.{behind}
use Rattle.ec_sweep.proofs.Singles.{added-order}
use Rattle.ec_sweep.proofs.StepBound.{steps-through, steps-visited}
use Rattle.ec_sweep.proofs.sweep.sweep_over.Goals as goal

pub loop-at-init : goal.loop-at-init
loop-at-init g c = record {
  sweeping = λ new tally underway.
      subst (λ sweep. IsSweeping g.T.Moment.rank c.args.parts.now.checked new (view_of c.args.parts.now) c.args.change.now sweep) (sym c.take_sweep-sweep.ensures)
      (IsSweeping-begin g.T.Moment.rank c.args.parts.now.checked new (view_of c.args.parts.now) tally c.args.change.now underway);
  steps = omega arith;
}

pub next_visit-requires : goal.next_visit-requires
next_visit-requires g c = record {
  removed = c.requires.underway.change_is.order;
  added = added-order g.T.Moment.rank c.args.parts.now.checked c.args.parts.now.props c.args.parts.now.store.events c.requires.new c.args.change.now c.requires.underway.change_is;
}

pub loop-at-smaller : goal.loop-at-smaller
loop-at-smaller g c =
    let rank = g.T.Moment.rank in
    let t = rank c.in-Some.at in
    let sweeping = c.loop-at.invariant.sweeping c.requires.new c.requires.tally c.requires.underway in
    let after = behind rank c.args.parts.now.checked c.requires.new (view_of c.args.parts.now) c.requires.tally c.args.change.now c.loop-at.sweep sweeping.r (t -ℤ pos 1) t c.len.ensures.order
    c.len-2.ensures.slots c.requires.underway sweeping.found c.in-Some.ensures.first c.in-Some.ensures.there (omega (arith, ints)) in
    subst (λ last. left_behind rank c.args.parts.now.store.events c.args.change.now.add last < left_behind rank c.args.parts.now.store.events c.args.change.now.add c.loop-at.sweep.last)
    (sym c.in_ok-visit.ensures.last)
    (left_behind-less rank c.args.parts.now.checked c.requires.new (view_of c.args.parts.now) c.requires.tally c.args.change.now c.loop-at.sweep sweeping.r c.in-Some.at c.requires.underway
    sweeping.last sweeping.found c.in-Some.ensures.there after)

pub returns-in_err-visit-clause-steps : goal.returns-in_err-visit-clause-steps
returns-in_err-visit-clause-steps g c = λ new tally underway.
    steps-visited _ _ _ _ (c.visit.ensures.most new tally underway) c.loop-at.invariant.steps

pub returns-clause-steps : goal.returns-clause-steps
returns-clause-steps g c = λ new tally underway.
    steps-through _
    (sweep-few g.T.Moment.rank c.args.parts.now.checked new (view_of c.args.parts.now) c.args.change.now c.loop-at.sweep (c.loop-at.invariant.sweeping new tally underway)) c.loop-at.invariant.steps

pub returns-clause-swept : goal.returns-clause-swept
returns-clause-swept g c = c.loop-at.invariant.sweeping

pub visit-requires-clause-leads : goal.visit-requires-clause-leads
visit-requires-clause-leads g c = c.requires

pub visit-requires-clause-first : goal.visit-requires-clause-first
visit-requires-clause-first g c = c.in-Some.ensures.first

pub visit-requires-clause-there : goal.visit-requires-clause-there
visit-requires-clause-there g c = c.in-Some.ensures.there

pub visit-requires-clause-sweeping : goal.visit-requires-clause-sweeping
visit-requires-clause-sweeping g c = c.loop-at.invariant.sweeping

pub loop-at-preserved : goal.loop-at-preserved
loop-at-preserved g c = record { sweeping = c.in_ok-visit.ensures.sweeping; steps = steps-visited _ _ _ _ c.in_ok-visit.ensures.steps c.loop-at.invariant.steps }

pub returns-clause-done : goal.returns-clause-done
returns-clause-done c = grind (arith, common_steps)
