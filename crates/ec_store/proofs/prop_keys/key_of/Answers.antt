-- All arguments are fed, one more at a time.
use Rattle.std.proofs.Common.{take_all, length, sym, ap, ◌∙◌, arith}
use Rattle.std.proofs.lemmas.Grind.{common_steps}
use Rattle.std.specs.List.{fold}
use Rattle.std.specs.Hash.FoldHasher.{initial, write, finish}
use Rattle.std.proofs.lemmas.List.Folds.{fold-map}
use Rattle.ec_terms.specs.Term.{arg_of}
use Rattle.ec_store.specs.PropKeys.{fed_by, key_of}
use Rattle.ec_store.proofs.prop_keys.key_of.Goals as goal

pub returns : goal.returns
unfolding key_of
returns c =
    let items = c.as_slice-arg-items.ensures.items in
    c.finish.ensures ∙ ap finish (c.loop-arg.invariant
    ∙ ap (fold (λ h r. fed_by write h (arg_of r)) (write initial c.args.term.now.name.now)) (take_all c.loop-arg.arg-index c.args.term.now.args (let l = ap length items in omega arith))
    ∙ sym (fold-map (fed_by write) arg_of (write initial c.args.term.now.name.now) c.args.term.now.args))

pub loop-arg-preserved : goal.loop-arg-preserved
loop-arg-preserved c = grind (arith, common_steps)
