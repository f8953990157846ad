-- Update by update, the list that the batch leaves.
use Rattle.std.proofs.Common.{◌≡◌, ◌+◌, ◌≤◌, [], ◌∷◌, ◌++◌, length, map, take, drop, ap₂, refl, sym, ap, subst, ◌∙◌, le_of_lt, add_comm, le-add_right}
use Rattle.ec_parts.specs.StandFor.{view_of}
use Rattle.std.specs.Prelude.{Err, MatchResult}
use Rattle.std.proofs.lemmas.List.{length-map, length-take-le, take_all}
use Rattle.ec_axioms.specs.Events.{plain_update}
use Rattle.ec_parts.proofs.Mentioned.{map-cut, map-take_more}
use Rattle.ec_replies.specs.Runs.{batch_may_want_memory, may_want_by}
use Rattle.ec_replies.specs.Updates.{updated, updated_from}
use Rattle.ec_batch.proofs.Batches.{batch_may_want-next, goes_ok, updated_from-next, updated_from-refused}
use Rattle.ec_batch.proofs.Counts.{count-more, count-within}
use Rattle.ec_batch.proofs.Moved.{HasWalkedTo-moved}
use Rattle.ec_batch.specs.declared.walk.Stop.{Stop}
use Rattle.ec_batch.specs.Walk.{GoesOn, HasWalkedTo}
use Rattle.ec_batch.proofs.through.walk_through.Goals as goal

pub loop-one-init : goal.loop-one-init
unfolding updated_from
loop-one-init g c = record { so_far = λ soon start. (soon, refl, start); walked = c.requires.walked; counted = refl; theory = refl; store = refl; len = le-add_right _ 0; steps = le-add_right _ 0 }

pub returns-in-Err-Refused-clause-goes : goal.returns-in-Err-Refused-clause-goes
returns-in-Err-Refused-clause-goes g c soon start =
    let inv = c.loop-one.invariant in
    let mid = inv.so_far soon start in
    let to = subst (λ events. HasWalkedTo g.T.Moment.rank c.loop-one.parts.checked events mid.0 (view_of c.loop-one.parts) c.loop-one.tally c.loop-one.walk) (sym (ap (λ s. s.events) inv.store))
    (subst (λ theory. HasWalkedTo g.T.Moment.rank theory c.args.parts.now.store.events mid.0 (view_of c.loop-one.parts) c.loop-one.tally c.loop-one.walk) (sym inv.theory) mid.2) in
    let gone = subst
    (λ (stop : Stop). GoesOn {A = Unit {0}} g.T.Moment.rank c.loop-one.parts.checked c.loop-one.parts.store.events mid.0 (plain_update g.T.Moment.rank c.one-item.result) (view_of c.update.new.parts) c.update.new.tally c.update.new.walk (Err stop))
    c.in-Err-Refused.field-0-is (c.in-Err-Refused.ensures.goes mid.0 to) in
    let f = plain_update g.T.Moment.rank in
    let xs = c.args.batch.now in
    let i = c.loop-one.one-index in
    let within : i ≤ length xs = le_of_lt c.loop-one-test.true in
    let number : 1 + length (map f (take i xs)) ≡ c.loop-one.place + 1 = ap (λ n. 1 + n) (length-map (take i xs) f ∙ length-take-le i xs within ∙ sym inv.counted) ∙ add_comm 1 c.loop-one.place in (
      ap (λ us. updated_from c.args.parts.now.checked 1 soon us) (map-cut f xs i c.one-item.result c.loop-one-test.true)
          ∙ ap (λ x. updated_from c.args.parts.now.checked 1 soon (map f (take i xs) ++ f x ∷ map f (drop (i + 1) xs))) (sym c.one-item.is)
          ∙ updated_from-refused c.args.parts.now.checked 1 soon mid.0 c.in-Err-Refused.cut (map f (take i xs)) (map f (drop (i + 1) xs)) (f c.one-item.result) mid.1
          (ap (λ t. updated t mid.0 (f c.one-item.result)) (sym inv.theory) ∙ gone.0)
          ∙ ap₂ (λ n x. Err (n, x)) number (sym c.in-Err-Refused.cut-is),
      record {
        soon = mid.0;
        to = subst (λ events. HasWalkedTo g.T.Moment.rank c.args.parts.now.checked events mid.0 (view_of c.update.new.parts) c.update.new.tally c.update.new.walk) (ap (λ s. s.events) inv.store)
            (subst (λ theory. HasWalkedTo g.T.Moment.rank theory c.loop-one.parts.store.events mid.0 (view_of c.update.new.parts) c.update.new.tally c.update.new.walk) inv.theory (gone.1));
      },
    )

pub returns-in-Err-Memory-clause-goes : goal.returns-in-Err-Memory-clause-goes
returns-in-Err-Memory-clause-goes g c soon start =
    let inv = c.loop-one.invariant in
    let mid = inv.so_far soon start in
    let to = subst (λ events. HasWalkedTo g.T.Moment.rank c.loop-one.parts.checked events mid.0 (view_of c.loop-one.parts) c.loop-one.tally c.loop-one.walk) (sym (ap (λ s. s.events) inv.store))
    (subst (λ theory. HasWalkedTo g.T.Moment.rank theory c.args.parts.now.store.events mid.0 (view_of c.loop-one.parts) c.loop-one.tally c.loop-one.walk) (sym inv.theory) mid.2) in
    let gone = subst
    (λ (stop : Stop). GoesOn {A = Unit {0}} g.T.Moment.rank c.loop-one.parts.checked c.loop-one.parts.store.events mid.0 (plain_update g.T.Moment.rank c.one-item.result) (view_of c.update.new.parts) c.update.new.tally c.update.new.walk (Err stop))
    c.in-Err-Memory.field-0-is (c.in-Err-Memory.ensures.goes mid.0 to) in
    let f = plain_update g.T.Moment.rank in
    let xs = c.args.batch.now in
    let i = c.loop-one.one-index in (
      ap (λ us. batch_may_want_memory c.args.parts.now.checked soon us) (map-cut f xs i c.one-item.result c.loop-one-test.true)
          ∙ ap (λ x. batch_may_want_memory c.args.parts.now.checked soon (map f (take i xs) ++ f x ∷ map f (drop (i + 1) xs))) (sym c.one-item.is)
          ∙ batch_may_want-next c.args.parts.now.checked soon mid.0 (map f (take i xs)) (map f (drop (i + 1) xs)) (f c.one-item.result) mid.1
          (ap (λ t. may_want_by (updated t mid.0 (f c.one-item.result))) (sym inv.theory) ∙ gone.0),
      record {
        soon = mid.0;
        to = subst (λ events. HasWalkedTo g.T.Moment.rank c.args.parts.now.checked events mid.0 (view_of c.update.new.parts) c.update.new.tally c.update.new.walk) (ap (λ s. s.events) inv.store)
            (subst (λ theory. HasWalkedTo g.T.Moment.rank theory c.loop-one.parts.store.events mid.0 (view_of c.update.new.parts) c.update.new.tally c.update.new.walk) inv.theory gone.1);
      },
    )

pub loop-one-preserved : goal.loop-one-preserved
loop-one-preserved g c = record {
  so_far = λ soon start.
      let inv = c.loop-one.invariant in
      let mid = inv.so_far soon start in
      let to = subst (λ events. HasWalkedTo g.T.Moment.rank c.loop-one.parts.checked events mid.0 (view_of c.loop-one.parts) c.loop-one.tally c.loop-one.walk) (sym (ap (λ s. s.events) inv.store))
      (subst (λ theory. HasWalkedTo g.T.Moment.rank theory c.args.parts.now.store.events mid.0 (view_of c.loop-one.parts) c.loop-one.tally c.loop-one.walk) (sym inv.theory) mid.2) in
      let gone = goes_ok (updated c.loop-one.parts.checked mid.0 (plain_update g.T.Moment.rank c.one-item.result))
      (λ after. HasWalkedTo g.T.Moment.rank c.loop-one.parts.checked c.loop-one.parts.store.events after (view_of c.update.new.parts) c.update.new.tally c.update.new.walk) (c.in-Ok.ensures.goes mid.0 to) in (
        gone.0,
        ap (λ us. updated_from c.args.parts.now.checked 1 soon us) (map-take_more (plain_update g.T.Moment.rank) c.args.batch.now c.loop-one.one-index c.one-item.result c.loop-one-test.true)
            ∙ ap (λ x. updated_from c.args.parts.now.checked 1 soon (map (plain_update g.T.Moment.rank) (take c.loop-one.one-index c.args.batch.now) ++ plain_update g.T.Moment.rank x ∷ [])) (sym c.one-item.is)
            ∙ updated_from-next c.args.parts.now.checked 1 soon mid.0 gone.0 (map (plain_update g.T.Moment.rank) (take c.loop-one.one-index c.args.batch.now)) (plain_update g.T.Moment.rank c.one-item.result) mid.1
            (ap (λ t. updated t mid.0 (plain_update g.T.Moment.rank c.one-item.result)) (sym inv.theory) ∙ gone.1),
        subst (λ events. HasWalkedTo g.T.Moment.rank c.args.parts.now.checked events gone.0 (view_of c.update.new.parts) c.update.new.tally c.update.new.walk) (ap (λ s. s.events) inv.store)
            (subst (λ theory. HasWalkedTo g.T.Moment.rank theory c.loop-one.parts.store.events gone.0 (view_of c.update.new.parts) c.update.new.tally c.update.new.walk) inv.theory (gone.2)),
      );
  walked =
      let was = c.loop-one.invariant.walked in
      let on = goes_ok (updated c.loop-one.parts.checked was.soon (plain_update g.T.Moment.rank c.one-item.result))
      (λ after. HasWalkedTo g.T.Moment.rank c.loop-one.parts.checked c.loop-one.parts.store.events after (view_of c.update.new.parts) c.update.new.tally c.update.new.walk) (c.in-Ok.ensures.goes was.soon was.to) in
      record {
        soon = on.0;
        to = HasWalkedTo-moved g.T.Moment.rank c.loop-one.parts.checked c.update.new.parts.checked c.loop-one.parts.store.events c.update.new.parts.store.events on.0 (view_of c.update.new.parts) c.update.new.tally c.update.new.walk
            c.update.ensures.theory (ap (λ s. s.events) c.update.ensures.store) on.2;
      };
  counted = ap (λ n. n + 1) c.loop-one.invariant.counted;
  theory = c.update.ensures.theory ∙ c.loop-one.invariant.theory;
  store = c.update.ensures.store ∙ c.loop-one.invariant.store;
  len = count-more _ _ _ c.update.ensures.len c.loop-one.invariant.len;
  steps = count-more _ _ _ c.update.ensures.steps c.loop-one.invariant.steps;
}

pub returns-in-Err-Refused-clause-theory : goal.returns-in-Err-Refused-clause-theory
returns-in-Err-Refused-clause-theory g c = c.update.ensures.theory ∙ c.loop-one.invariant.theory

pub returns-in-Err-Refused-clause-store : goal.returns-in-Err-Refused-clause-store
returns-in-Err-Refused-clause-store g c = c.update.ensures.store ∙ c.loop-one.invariant.store

pub returns-in-Err-Refused-clause-len : goal.returns-in-Err-Refused-clause-len
returns-in-Err-Refused-clause-len g c = count-within _ _ _ _ c.update.ensures.len c.loop-one.invariant.len c.loop-one-test.true

pub returns-in-Err-Refused-clause-steps : goal.returns-in-Err-Refused-clause-steps
returns-in-Err-Refused-clause-steps g c = count-within _ _ _ _ c.update.ensures.steps c.loop-one.invariant.steps c.loop-one-test.true

pub returns-in-Err-Memory-clause-theory : goal.returns-in-Err-Memory-clause-theory
returns-in-Err-Memory-clause-theory g c = c.update.ensures.theory ∙ c.loop-one.invariant.theory

pub returns-in-Err-Memory-clause-store : goal.returns-in-Err-Memory-clause-store
returns-in-Err-Memory-clause-store g c = c.update.ensures.store ∙ c.loop-one.invariant.store

pub returns-in-Err-Memory-clause-len : goal.returns-in-Err-Memory-clause-len
returns-in-Err-Memory-clause-len g c = count-within _ _ _ _ c.update.ensures.len c.loop-one.invariant.len c.loop-one-test.true

pub returns-in-Err-Memory-clause-steps : goal.returns-in-Err-Memory-clause-steps
returns-in-Err-Memory-clause-steps g c = count-within _ _ _ _ c.update.ensures.steps c.loop-one.invariant.steps c.loop-one-test.true

pub returns-clause-goes : goal.returns-clause-goes
returns-clause-goes g c soon start =
    let inv = c.loop-one.invariant in
    let mid = inv.so_far soon start in
    let all = ap (λ us. updated_from c.args.parts.now.checked 1 soon (map (plain_update g.T.Moment.rank) us)) (take_all c.loop-one.one-index c.args.batch.now c.loop-one-test.false) in
    subst (λ r. MatchResult r (λ after. HasWalkedTo g.T.Moment.rank c.args.parts.now.checked c.args.parts.now.store.events after (view_of c.loop-one.parts) c.loop-one.tally c.loop-one.walk) (λ cut. ⊥))
    (sym (sym all ∙ mid.1)) mid.2
