-- Each argument is one piece: a `,` goes on to the next, a `)` ends the last, and anything else spells no arguments.
use Rattle.std.proofs.Common.{◌≤◌, ◌<◌, ◌+◌, List, ◌∙◌, Some, ap, arith, rules, length, map, refl, subst, sym}
use Rattle.std.proofs.lemmas.Grind.{common_steps}
use Rattle.std.proofs.lemmas.List.{length-map}
use Rattle.ec_terms.specs.declared.limits.TheConstants.{MOST_ARGS}
use Rattle.ec_terms.specs.declared.ground.Arg.{Arg}
use Rattle.ec_terms.specs.Term.{arg_of}
use Rattle.ec_terms.proofs.Pieces.{ReadSoFar, args_from-front, read_no_arg, read_comma, read_close, read_end, read_other, read_full, map-push, names-push, place-within}
use Rattle.ec_terms.proofs.reading.read_args.Goals as goal

pub loop-args-init : goal.loop-args-init
loop-args-init c = rw c.new-args.ensures (record { within = omega arith; names = refl; so_far = args_from-front c.args.bytes.now })

pub returns-in_err-arg-clause-exact : goal.returns-in_err-arg-clause-exact
returns-in_err-arg-clause-exact c =
    rw c.from_residual.ensures (read_no_arg c.args.bytes.now _ _ c.loop-args.invariant.so_far c.in_err-arg.ensures.exact)

pub overflow_add-at : goal.overflow_add-at
overflow_add-at c =
    let within = place-within c.args.bytes.now _ _ c.loop-args.invariant.within c.in_ok-arg.ensures.within in search rules

pub returns-in_err-mark-clause-exact : goal.returns-in_err-mark-clause-exact
returns-in_err-mark-clause-exact c =
    rw c.from_residual-in_err-mark.ensures
    (read_end c.args.bytes.now _ _ _ _ c.loop-args.invariant.so_far c.in_ok-arg.ensures.exact c.in_err-mark.ensures.lookup.3)

pub returns-then-mark-eq41-clause-exact : goal.returns-then-mark-eq41-clause-exact
returns-then-mark-eq41-clause-exact c =
    let there = c.in_ok-mark.ensures.lookup.3 in
    let args = map-push c.push.new.self c.loop-args.args c.in_ok-arg.arg c.push.ensures in
    let few : length (map arg_of c.loop-args.args) < MOST_ARGS = rw length-map (omega arith) in
    read_close c.args.bytes.now _ _ _ _ c.loop-args.invariant.so_far c.in_ok-arg.ensures.exact there.0 (sym (there.1 0) ∙ c.if-mark-eq41.true) few
    ∙ ap (λ (xs : List Arg). Some (xs, c.loop-args.at + c.in_ok-arg.count + 1)) (sym args)

pub returns-then-mark-ne44-clause-exact : goal.returns-then-mark-ne44-clause-exact
returns-then-mark-ne44-clause-exact c =
    let there = c.in_ok-mark.ensures.lookup.3 in
    read_other c.args.bytes.now _ _ _ _ _ c.loop-args.invariant.so_far c.in_ok-arg.ensures.exact (sym (there.1 0)) c.if-mark-ne44.true c.if-mark-eq41.false

pub loop-args-preserved : goal.loop-args-preserved
loop-args-preserved c =
    let there = c.in_ok-mark.ensures.lookup.3 in
    let args = map-push c.push.new.self c.loop-args.args c.in_ok-arg.arg c.push.ensures in
    let more = read_comma c.args.bytes.now _ _ _ _ c.loop-args.invariant.so_far c.in_ok-arg.ensures.exact there.0 (sym (there.1 0) ∙ c.if-mark-ne44.false) in
    record {
      within = omega (arith, there.0);
      names = names-push c.push.new.self c.loop-args.args c.in_ok-arg.arg c.push.ensures c.loop-args.invariant.names c.in_ok-arg.ensures.name;
      so_far = subst (λ (xs : List Arg). ReadSoFar c.args.bytes.now xs (c.loop-args.at + c.in_ok-arg.count + 1)) (sym args) more;
    }

pub returns-clause-exact : goal.returns-clause-exact
returns-clause-exact c =
    let full : MOST_ARGS ≤ length (map arg_of c.loop-args.args) = rw length-map (omega arith) in
    read_full c.args.bytes.now _ _ c.loop-args.invariant.so_far full

pub returns-in_err-mark-clause-names : goal.returns-in_err-mark-clause-names
returns-in_err-mark-clause-names c = grind (arith, common_steps)

pub returns-in_err-arg-clause-names : goal.returns-in_err-arg-clause-names
returns-in_err-arg-clause-names c = grind (arith, common_steps)

pub loop-args-smaller : goal.loop-args-smaller
loop-args-smaller c = grind (arith, common_steps)

pub returns-in_err-mark-clause-within : goal.returns-in_err-mark-clause-within
returns-in_err-mark-clause-within c = grind (arith, common_steps)

pub returns-then-mark-eq41-clause-names : goal.returns-then-mark-eq41-clause-names
returns-then-mark-eq41-clause-names c = grind (arith, common_steps)

pub returns-then-mark-eq41-clause-within : goal.returns-then-mark-eq41-clause-within
returns-then-mark-eq41-clause-within c = grind (arith, common_steps)

pub overflow_add-result : goal.overflow_add-result
overflow_add-result c = grind (arith, common_steps)

pub returns-in_err-arg-clause-within : goal.returns-in_err-arg-clause-within
returns-in_err-arg-clause-within c = grind (arith, common_steps)

pub overflow_add-at-in-loop-args : goal.overflow_add-at-in-loop-args
overflow_add-at-in-loop-args c = grind (arith, common_steps)
