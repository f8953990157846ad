-- One list more is evaluated.
use Rattle.std.proofs.Common.{◌<◌, ◌+◌, ◌++◌, length, drop, flat_map, ap, subst, ◌∙◌, length-append, arith}
use Rattle.std.proofs.lemmas.Grind.{common_steps}
use Rattle.ec_sweep.specs.Acting.{IsWordOf, added_turns, up_turns}
use Rattle.ec_sweep.proofs.AddedWords.{AddsWords-next}
use Rattle.ec_sweep.proofs.StepBound.{steps-listed, steps-listed_most}
use Rattle.ec_sweep.proofs.Turning.{drop-next, flat_map-next}
use Rattle.ec_sweep.proofs.turned.turn_up_added.Goals as goal

pub loop-list-preserved : goal.loop-list-preserved
loop-list-preserved g c =
    let within : c.loop-list.list-index < length c.args.lists.now = c.loop-list-test.true in
    let rest = ap (λ ls. length (flat_map (λ list. list) ls)) (drop-next c.args.lists.now c.loop-list.list-index c.list-item.result within c.list-item.is)
    ∙ length-append c.list-item.result (flat_map (λ list. list) (drop (c.loop-list.list-index + 1) c.args.lists.now)) in
    record {
      words =
          AddsWords-next (g.C.Current.is_current c.args.current.now) (g.T.Moment.rank c.args.at) c.args.lists.now c.loop-list.list-index c.list-item.result c.in_ok-word.word c.args.bits.now
          c.loop-list.bits c.push.new.self within c.list-item.is c.loop-list.invariant.words
          (subst (λ list. IsWordOf (g.C.Current.is_current c.args.current.now) (g.T.Moment.rank c.args.at) list c.in_ok-word.word) c.as_slice.ensures.items c.in_ok-word.ensures.word)
          c.in_ok-push.ensures.ok;
      told =
          flat_map-next c.args.lists.now c.loop-list.list-index c.list-item.result within c.list-item.is (up_turns (g.C.Current.is_current c.args.current.now) (g.T.Moment.rank c.args.at))
          (c.args.turns.now.items ++ added_turns (g.C.Current.is_current c.args.current.now) (g.T.Moment.rank c.args.at) c.args.lists.now) c.loop-list.turns.items c.turn_up.new.turns.items c.loop-list.invariant.told
          (c.in_ok-word.ensures.turns
          ∙ ap (λ list. c.loop-list.turns.items ++ up_turns (g.C.Current.is_current c.args.current.now) (g.T.Moment.rank c.args.at) list) c.as_slice.ensures.items);
      counted =
          steps-listed c.args.steps.now _ c.loop-list.steps (length c.list-item.result) _ c.loop-list.invariant.counted rest c.in_ok-word.ensures.steps (ap length c.as_slice.ensures.items);
    }

pub returns-in_err-word-clause-most : goal.returns-in_err-word-clause-most
returns-in_err-word-clause-most g c =
    let within : c.loop-list.list-index < length c.args.lists.now = c.loop-list-test.true in
    let rest = ap (λ ls. length (flat_map (λ list. list) ls)) (drop-next c.args.lists.now c.loop-list.list-index c.list-item.result within c.list-item.is)
    ∙ length-append c.list-item.result (flat_map (λ list. list) (drop (c.loop-list.list-index + 1) c.args.lists.now)) in
    steps-listed_most c.args.steps.now _ c.loop-list.steps (length c.list-item.result) _ c.loop-list.invariant.counted rest c.turn_up.ensures.most (ap length c.as_slice.ensures.items)

pub returns-in_err-push-clause-most : goal.returns-in_err-push-clause-most
returns-in_err-push-clause-most g c =
    let within : c.loop-list.list-index < length c.args.lists.now = c.loop-list-test.true in
    let rest = ap (λ ls. length (flat_map (λ list. list) ls)) (drop-next c.args.lists.now c.loop-list.list-index c.list-item.result within c.list-item.is)
    ∙ length-append c.list-item.result (flat_map (λ list. list) (drop (c.loop-list.list-index + 1) c.args.lists.now)) in
    steps-listed_most c.args.steps.now _ c.loop-list.steps (length c.list-item.result) _ c.loop-list.invariant.counted rest c.turn_up.ensures.most (ap length c.as_slice.ensures.items)

pub returns-clause-turns : goal.returns-clause-turns
returns-clause-turns c = grind (arith, common_steps)

pub loop-list-init : goal.loop-list-init
loop-list-init c = grind (arith, common_steps)

pub returns-clause-bits : goal.returns-clause-bits
returns-clause-bits c = grind (arith, common_steps)

pub returns-clause-steps : goal.returns-clause-steps
returns-clause-steps c = grind (arith, common_steps)
