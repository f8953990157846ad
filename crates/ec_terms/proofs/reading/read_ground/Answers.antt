-- The name in front, and the arguments where a `(` follows it.
use Rattle.std.proofs.Common.{◌∙◌, [], ap, arith, length, refl, sym}
use Rattle.std.proofs.lemmas.Grind.{common_steps}
use Rattle.ec_terms.proofs.Terms.{term_front-no_name, with_args, read_plain, read_parts, rest_of_rest, length-rest_of_rest, names-from}
use Rattle.ec_terms.proofs.reading.read_ground.Goals as goal

pub returns-in_err-name-clause-exact : goal.returns-in_err-name-clause-exact
returns-in_err-name-clause-exact c = rw c.from_residual.ensures (term_front-no_name c.args.bytes.now c.in_err-name.ensures.exact)

pub slice_bounds-read_args-count : goal.slice_bounds-read_args-count
slice_bounds-read_args-count c = c.if-begins_open.ensures.some refl

pub returns-in_err-args-clause-exact : goal.returns-in_err-args-clause-exact
returns-in_err-args-clause-exact c =
    rw c.from_residual-in_err-args.ensures
    (read_parts c.args.bytes.now _ _ _ c.in_ok-name.ensures.exact (sym c.if-begins_open.ensures.open) (rest_of_rest c.args.bytes.now _)
    ∙ ap (with_args _ _) c.in_err-args.ensures.exact)

pub returns-in_ok-args-clause-exact : goal.returns-in_ok-args-clause-exact
returns-in_ok-args-clause-exact c =
    read_parts c.args.bytes.now _ _ _ c.in_ok-name.ensures.exact (sym c.if-begins_open.ensures.open) (rest_of_rest c.args.bytes.now _)
    ∙ ap (with_args _ _) c.in_ok-args.ensures.exact

pub returns-in_ok-args-clause-names : goal.returns-in_ok-args-clause-names
returns-in_ok-args-clause-names c = names-from _ _ c.in_ok-name.ensures.name c.in_ok-args.ensures.names

pub returns-in_ok-args-clause-within : goal.returns-in_ok-args-clause-within
returns-in_ok-args-clause-within c =
    let rest = ap length (rest_of_rest c.args.bytes.now c.in_ok-name.count) in
    let whole = length-rest_of_rest c.args.bytes.now c.in_ok-name.count c.in_ok-name.ensures.within (c.if-begins_open.ensures.some refl) in
    let inside = c.in_ok-args.ensures.within in
    omega arith

pub returns-else-begins_open-clause-exact : goal.returns-else-begins_open-clause-exact
returns-else-begins_open-clause-exact c =
    rw c.new-args.ensures (read_plain c.args.bytes.now _ _ c.in_ok-name.ensures.exact (sym c.if-begins_open.ensures.open))

pub returns-else-begins_open-clause-names : goal.returns-else-begins_open-clause-names
returns-else-begins_open-clause-names c = rw c.new-args.ensures (names-from _ [] c.in_ok-name.ensures.name refl)

pub returns-in_err-args-clause-within : goal.returns-in_err-args-clause-within
returns-in_err-args-clause-within c = grind (arith, common_steps)

pub returns-else-begins_open-clause-within : goal.returns-else-begins_open-clause-within
returns-else-begins_open-clause-within c = grind (arith, common_steps)

pub overflow_add-result : goal.overflow_add-result
overflow_add-result c = grind (arith, common_steps)

pub overflow_add-result-then-begins_open : goal.overflow_add-result-then-begins_open
overflow_add-result-then-begins_open c = grind (arith, common_steps)

pub slice_bounds-read_args-start : goal.slice_bounds-read_args-start
slice_bounds-read_args-start c = grind (arith, common_steps)

pub returns-in_err-args-clause-names : goal.returns-in_err-args-clause-names
returns-in_err-args-clause-names c = grind (arith, common_steps)
