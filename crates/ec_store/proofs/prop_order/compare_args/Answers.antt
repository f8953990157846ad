-- The first two arguments that differ decide.
use Rattle.std.proofs.Common.{◌≡◌, ◌+◌, map, drop, get_or, refl, sym, ap, ◌∙◌}
use Rattle.std.specs.Prelude.{pos}
use Rattle.std.specs.Ordering.{ordering_then}
use Rattle.std.specs.Cmp.Lexicographic.{slice_cmp}
use Rattle.ec_terms.specs.declared.ground.ArgRef.{ArgRef}
use Rattle.ec_terms.specs.declared.ground.ArgRef.TheVariants.{Int as IntRef}
use Rattle.ec_terms.specs.Term.{arg_of, arg_cmp}
use Rattle.ec_terms.proofs.OrderLemmas.{arg_ref_cmp, then-decided, then-left_open}
use Rattle.ec_store.proofs.CompareLemmas.{args_cmp-step}
use Rattle.ec_store.proofs.prop_order.compare_args.Goals as goal
use Rattle.ec_store.proofs.prop_order.compare_args.Goals.{After-is_ne}

-- the other argument at the place
other : (c : After-is_ne) → ArgRef
other c = get_or c.args.others.now c.loop-i.i (IntRef (pos 0))

-- what is left to compare, from one argument on
step : (c : After-is_ne) →
    slice_cmp arg_cmp (drop c.loop-i.i c.args.args.now) (drop c.loop-i.i (map arg_of c.args.others.now))
    ≡ ordering_then c.cmp-step.result (slice_cmp arg_cmp (drop (c.loop-i.i + 1) c.args.args.now) (drop (c.loop-i.i + 1) (map arg_of c.args.others.now)))
unfolding other
step c =
    args_cmp-step c.args.args.now c.args.others.now c.loop-i.i c.index-args-i.result (other c) (IntRef (pos 0)) c.loop-i-test.true c.requires c.index-args-i.is refl
    ∙ ap (λ o. ordering_then o (slice_cmp arg_cmp (drop (c.loop-i.i + 1) c.args.args.now) (drop (c.loop-i.i + 1) (map arg_of c.args.others.now))))
    (ap (λ x. arg_cmp x (arg_of (other c))) (sym c.borrow.ensures.same) ∙ sym (arg_ref_cmp c.borrow.result (other c)) ∙ sym c.cmp-step.ensures)

pub returns-then-is_ne : goal.returns-then-is_ne
returns-then-is_ne c =
    let at = (goal.at.returns-then-is_ne c).After-is_ne in
    then-decided c.cmp-step.result (slice_cmp arg_cmp (drop (c.loop-i.i + 1) c.args.args.now) (drop (c.loop-i.i + 1) (map arg_of c.args.others.now)))
    (sym c.is_ne.ensures ∙ c.if-is_ne.true)
    ∙ sym (step at) ∙ sym c.loop-i.invariant

pub loop-i-preserved : goal.loop-i-preserved
loop-i-preserved c =
    let at = (goal.at.loop-i-preserved c).After-is_ne in
    c.loop-i.invariant ∙ step at
    ∙ sym (then-left_open c.cmp-step.result (slice_cmp arg_cmp (drop (c.loop-i.i + 1) c.args.args.now) (drop (c.loop-i.i + 1) (map arg_of c.args.others.now)))
    (sym c.is_ne.ensures ∙ c.if-is_ne.false))
