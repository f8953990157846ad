-- The keys of one declaration more.
use Rattle.std.proofs.Common.{◌≡◌, ◌<◌, ◌++◌, length, get_or, sym, ap, ◌∙◌, append_assoc, arith}
use Rattle.std.proofs.lemmas.Grind.{common_steps}
use Rattle.ec_terms.specs.Term.{ground_of}
use Rattle.ec_exclusive.specs.Forms.{texts_of}
use Rattle.ec_exclusive.specs.Keys.{key_if_fits}
use Rattle.ec_exclusive.proofs.KeyLemmas.{keys_from-none, keys_from-more}
use Rattle.ec_exclusive.proofs.keys.keys_of.Goals as goal

pub loop-i-init : goal.loop-i-init
loop-i-init c = ap texts_of c.new-keys.ensures.items ∙ sym (keys_from-none c.args.left c.args.right (ground_of c.args.term.now) 0)

pub loop-i-preserved : goal.loop-i-preserved
loop-i-preserved c =
    let declarations = c.as_slice-declaration-items.ensures in
    let within : c.loop-i.i < length c.args.theory.now.exclusives = omega (arith, c.loop-i-test.true, ap length declarations) in
    let here : c.declaration-item.result ≡ get_or c.args.theory.now.exclusives c.loop-i.i c.declaration-item.result = rw (← declarations) c.declaration-item.is in
    let left = key_if_fits c.loop-i.i c.args.left c.declaration-item.result c.declaration-item.result.left (ground_of c.args.term.now) in
    let right = key_if_fits c.loop-i.i c.args.right c.declaration-item.result c.declaration-item.result.right (ground_of c.args.term.now) in
    c.in_ok-add_key-2.ensures ∙ ap (λ ks. ks ++ right) (c.in_ok-add_key.ensures ∙ ap (λ ks. ks ++ left) c.loop-i.invariant)
    ∙ append_assoc _ left right
    ∙ sym (keys_from-more c.args.left c.args.right (ground_of c.args.term.now) c.args.theory.now.exclusives c.loop-i.i c.declaration-item.result within here)

pub returns : goal.returns
returns c = grind (arith, common_steps)
