use Rattle.std.proofs.Common.{◌≡◌, ℕ, List, ◌<◌, ◌≤◌, ◌∙◌, ap, sym, true, length, get_or, map, refl, arith}
use Rattle.std.proofs.lemmas.Grind.{common_steps}
use Rattle.std.specs.Prelude.{pos}
use Rattle.std.proofs.lemmas.List.{length-map}
use Rattle.ec_terms.specs.declared.ground.ArgRef.TheVariants.{Int as IntRef}
use Rattle.ec_terms.specs.Binding.{values_of}
use Rattle.ec_terms.specs.Term.{arg_of, ground_of, is_argument}
use Rattle.ec_terms.proofs.MatchingLemmas.{IsFound, walk-Some, walk-None, walk-stops, walk-goes_on, walk-ends, fits-other_args, fits-from_args, arguments_are_named}
use Rattle.ec_terms.proofs.matching.match_places.Goals as goal
use Rattle.std.proofs.lemmas.Bool.{and_parts, eqb-true}
use Rattle.ec_terms.specs.declared.ground.ArgRef.{ArgRef}
use Rattle.ec_terms.specs.declared.pattern.Pattern.{Pattern}
use Rattle.ec_terms.specs.Matching.{has_shape}
use Rattle.ec_lists.proofs.Tests.{list_all-map_get_or}

-- the pattern has as many places as the term has arguments
lengths_of : (pattern : Pattern) (name : List ℕ) (args : List ArgRef) → has_shape pattern (record { name = name; args = map arg_of args }) ≡ true → length pattern.args ≡ length args
lengths_of pattern name args shape = eqb-true _ _ (and_parts _ _ shape).1 ∙ length-map args arg_of

pub place_meets-requires-clause-named : goal.place_meets-requires-clause-named
place_meets-requires-clause-named c =
    let items = c.as_slice-args.ensures.items in
    let within : c.loop-i.i < length c.args.term.now.args =
    omega (arith, c.loop-i-test.true, lengths_of c.args.pattern.now c.args.term.now.name.now c.args.term.now.args c.requires.shape, ap length c.as_slice-place-items.ensures) in
    rw items (list_all-map_get_or is_argument arg_of c.args.term.now.args c.loop-i.i _ (arguments_are_named (ground_of c.args.term.now) c.requires.named) within)

pub returns-then-not-place_meets-clause-none : goal.returns-then-not-place_meets-clause-none
returns-then-not-place_meets-clause-none c =
    let places = c.as_slice-place-items.ensures in
    let items = c.as_slice-args.ensures.items in
    let within : c.loop-i.i < length c.args.pattern.now.args = omega (arith, c.loop-i-test.true, ap length places) in
    let lengths = lengths_of c.args.pattern.now c.args.term.now.name.now c.args.term.now.args c.requires.shape in
    let here : c.place-item.result ≡ get_or c.args.pattern.now.args c.loop-i.i c.place-item.result = rw (← places) c.place-item.is in
    let there : get_or c.as_slice-args.result.now c.loop-i.i (IntRef (pos 0)) ≡ get_or c.args.term.now.args c.loop-i.i (IntRef (pos 0)) = rw items refl in
    let stops =
    walk-stops (values_of c.loop-i.binding) (values_of c.place_meets.new.binding) c.args.pattern.now.args c.args.term.now.args c.loop-i.i c.place-item.result
    (get_or c.as_slice-args.result.now c.loop-i.i (IntRef (pos 0))) (IntRef (pos 0)) within lengths here there c.place_meets.ensures.binding
    (sym c.place_meets.ensures.fits ∙ c.if-not-place_meets.true) in
    λ values more.
    fits-other_args values c.args.pattern.now (ground_of c.args.term.now)
    (walk-None (values_of c.args.start) values c.args.pattern.now.args (map arg_of c.args.term.now.args) (c.loop-i.invariant ∙ stops) more)

pub loop-i-preserved : goal.loop-i-preserved
loop-i-preserved c =
    let places = c.as_slice-place-items.ensures in
    let items = c.as_slice-args.ensures.items in
    let within : c.loop-i.i < length c.args.pattern.now.args = omega (arith, c.loop-i-test.true, ap length places) in
    let lengths = lengths_of c.args.pattern.now c.args.term.now.name.now c.args.term.now.args c.requires.shape in
    let here : c.place-item.result ≡ get_or c.args.pattern.now.args c.loop-i.i c.place-item.result = rw (← places) c.place-item.is in
    let there : get_or c.as_slice-args.result.now c.loop-i.i (IntRef (pos 0)) ≡ get_or c.args.term.now.args c.loop-i.i (IntRef (pos 0)) = rw items refl in
    c.loop-i.invariant
    ∙ walk-goes_on (values_of c.loop-i.binding) (values_of c.place_meets.new.binding) c.args.pattern.now.args c.args.term.now.args c.loop-i.i c.place-item.result
    (get_or c.as_slice-args.result.now c.loop-i.i (IntRef (pos 0))) (IntRef (pos 0)) within lengths here there c.place_meets.ensures.binding
    (sym c.place_meets.ensures.fits ∙ c.if-not-place_meets.false)

-- what the walk has found at its end
found : (c : goal.After-loop-i) → IsFound (values_of c.args.start) (values_of c.loop-i.binding) c.args.pattern.now.args (map arg_of c.args.term.now.args)
found c =
    let places = c.as_slice-place-items.ensures in
    let items = c.as_slice-args.ensures.items in
    let past : length c.args.pattern.now.args ≤ c.loop-i.i = omega (arith, c.loop-i-test.false, ap length places) in
    let lengths = lengths_of c.args.pattern.now c.args.term.now.name.now c.args.term.now.args c.requires.shape in
    walk-Some (values_of c.args.start) (values_of c.loop-i.binding) c.args.pattern.now.args (map arg_of c.args.term.now.args)
    (c.loop-i.invariant ∙ walk-ends (values_of c.loop-i.binding) c.args.pattern.now.args c.args.term.now.args c.loop-i.i past lengths)

pub returns-clause-fits : goal.returns-clause-fits
returns-clause-fits c =
    fits-from_args (values_of c.loop-i.binding) c.args.pattern.now (ground_of c.args.term.now) (and_parts _ _ c.requires.shape).0 (found c).fits

pub returns-clause-extends : goal.returns-clause-extends
returns-clause-extends c = (found c).extends

pub returns-clause-bound : goal.returns-clause-bound
returns-clause-bound c = (found c).bound

pub place_meets-requires-clause-small : goal.place_meets-requires-clause-small
place_meets-requires-clause-small c = grind (arith, common_steps)

pub bounds-args-i : goal.bounds-args-i
bounds-args-i c = grind (arith, common_steps)
