-- The change is taken out of the walk and carried out, or the walk is undone.
use Rattle.std.proofs.Common.{sym, ap, subst, ◌∙◌}
use Rattle.indexmap.specs.IndexMap.{index_map_len}
use Rattle.ec_parts.specs.StandFor.{view_of}
use Rattle.ec_batch.specs.declared.walk.Walk.{Walk}
use Rattle.ec_batch.specs.Walk.{HasWalked}
use Rattle.ec_engine.proofs.Carried.{LeadsTo-walked}
use Rattle.ec_engine.proofs.StepSums.{sums-walked, sums-walked_back}
use Rattle.ec_engine.proofs.carrying.carry_out.Goals as goal

pub net_change-requires : goal.net_change-requires
net_change-requires g c = record { walked = (c.args.tally.now, c.requires.walked) }

pub undo-requires-clause-walked : goal.undo-requires-clause-walked
undo-requires-clause-walked g c =
    subst (λ (walk : Walk _). HasWalked g.T.Moment.rank c.args.parts.now.checked (view_of c.args.parts.now) c.args.tally.now walk) (sym c.in-Err.ensures.err) c.requires.walked

pub returns-in-Err-clause-carried : goal.returns-in-Err-clause-carried
returns-in-Err-clause-carried g c soon walked = c.undo.ensures.stand

pub returns-in-Err-clause-steps : goal.returns-in-Err-clause-steps
returns-in-Err-clause-steps g c soon walked =
    sums-walked_back _ _ _ c.in-Err.ensures.err_steps (ap (λ (walk : Walk _). index_map_len walk.nets) c.in-Err.ensures.err) c.undo.ensures.steps

pub carry_change-requires-clause-leads : goal.carry_change-requires-clause-leads
carry_change-requires-clause-leads g c =
    let walked = c.requires.walked.to in
    let soon = c.requires.walked.soon in
    record {
      soon = soon;
      to = LeadsTo-walked g.T.Moment.rank c.args.parts.now.checked (view_of c.args.parts.now) c.args.tally.now c.args.walk soon c.in-Ok.change _ _ walked c.requires.within
          (c.in-Ok.ensures.change soon c.args.tally.now walked)
          (c.as_slice.ensures.value ∙ ap (λ v. v.items) c.net_change.ensures.fresh) (c.as_slice-2.ensures.value ∙ ap (λ v. v.items) c.net_change.ensures.dying);
    }

pub returns-clause-carried : goal.returns-clause-carried
returns-clause-carried g c soon walked =
    c.carry_change.ensures.carried soon
    (LeadsTo-walked g.T.Moment.rank c.args.parts.now.checked (view_of c.args.parts.now) c.args.tally.now c.args.walk soon c.in-Ok.change _ _ walked c.requires.within
    (c.in-Ok.ensures.change soon c.args.tally.now walked)
    (c.as_slice.ensures.value ∙ ap (λ v. v.items) c.net_change.ensures.fresh) (c.as_slice-2.ensures.value ∙ ap (λ v. v.items) c.net_change.ensures.dying))

pub returns-clause-steps : goal.returns-clause-steps
returns-clause-steps g c soon walked =
    sums-walked _ _ _ c.net_change.ensures.steps
    (c.carry_change.ensures.steps soon
    (LeadsTo-walked g.T.Moment.rank c.args.parts.now.checked (view_of c.args.parts.now) c.args.tally.now c.args.walk soon c.in-Ok.change _ _ walked c.requires.within
    (c.in-Ok.ensures.change soon c.args.tally.now walked)
    (c.as_slice.ensures.value ∙ ap (λ v. v.items) c.net_change.ensures.fresh) (c.as_slice-2.ensures.value ∙ ap (λ v. v.items) c.net_change.ensures.dying)))

pub returns-clause-tails : goal.returns-clause-tails
returns-clause-tails g c soon walked =
    c.carry_change.ensures.tails soon
    (LeadsTo-walked g.T.Moment.rank c.args.parts.now.checked (view_of c.args.parts.now) c.args.tally.now c.args.walk soon c.in-Ok.change _ _ walked c.requires.within
    (c.in-Ok.ensures.change soon c.args.tally.now walked)
    (c.as_slice.ensures.value ∙ ap (λ v. v.items) c.net_change.ensures.fresh) (c.as_slice-2.ensures.value ∙ ap (λ v. v.items) c.net_change.ensures.dying))

pub returns-in-Err-clause-tails : goal.returns-in-Err-clause-tails
returns-in-Err-clause-tails g c soon walked = c.clear.ensures
