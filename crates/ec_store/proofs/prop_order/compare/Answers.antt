-- The name and the number of arguments decide, or leave it to the arguments.
use Rattle.std.proofs.Common.{◌≡◌, length, map, sym, ap, ap₂, ◌∙◌, arith}
use Rattle.std.proofs.lemmas.Grind.{common_steps}
use Rattle.std.specs.Ordering.{ordering_then}
use Rattle.std.specs.Cmp.Lexicographic.{slice_cmp}
use Rattle.ec_terms.specs.Term.{arg_of, arg_cmp}
use Rattle.ec_terms.proofs.OrderLemmas.{then-decided, then-left_open}
use Rattle.ec_store.specs.Table.{arity_cmp}
use Rattle.ec_store.proofs.CompareLemmas.{term_cmp-steps}
use Rattle.ec_store.proofs.prop_order.compare.Goals as goal
use Rattle.ec_store.proofs.prop_order.compare.Goals.{After-is_ne}

-- the first step
first : (c : After-is_ne) → c.compare_arity-first.result ≡ arity_cmp c.args.term.now c.args.other.now.name.now (length c.args.other.now.args)
first c = c.compare_arity-first.ensures ∙ ap (λ refs. arity_cmp c.args.term.now c.args.other.now.name.now (length refs)) c.as_slice-others.ensures.items

pub returns-then-is_ne : goal.returns-then-is_ne
returns-then-is_ne c =
    let at = (goal.at.returns-then-is_ne c).After-is_ne in
    then-decided c.compare_arity-first.result (slice_cmp arg_cmp c.args.term.now.args (map arg_of c.args.other.now.args)) (sym c.is_ne.ensures ∙ c.if-is_ne.true)
    ∙ ap (λ o. ordering_then o (slice_cmp arg_cmp c.args.term.now.args (map arg_of c.args.other.now.args))) (first at)
    ∙ sym (term_cmp-steps c.args.term.now c.args.other.now)

pub returns : goal.returns
returns c =
    let at = (goal.at.returns c).After-is_ne in
    c.compare_args.ensures
    ∙ ap₂ (λ xs refs. slice_cmp arg_cmp xs (map arg_of refs)) c.as_slice.ensures.items c.as_slice-others.ensures.items
    ∙ then-left_open c.compare_arity-first.result (slice_cmp arg_cmp c.args.term.now.args (map arg_of c.args.other.now.args)) (sym c.is_ne.ensures ∙ c.if-is_ne.false)
    ∙ ap (λ o. ordering_then o (slice_cmp arg_cmp c.args.term.now.args (map arg_of c.args.other.now.args))) (first at)
    ∙ sym (term_cmp-steps c.args.term.now c.args.other.now)

pub compare_args-requires : goal.compare_args-requires
compare_args-requires c = grind (arith, common_steps)
