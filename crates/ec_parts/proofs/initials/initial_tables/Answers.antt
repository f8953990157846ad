use Rattle.std.proofs.Common.{IsSome, get_or, sym, subst, ◌∙◌, arith}
use Rattle.std.proofs.lemmas.Grind.{common_steps}
use Rattle.std.specs.List.{All}
use Rattle.ec_exclusive.proofs.InTurn.{has_number-at}
use Rattle.ec_terms.specs.declared.ids.PropId.{PropId}
use Rattle.ec_store.specs.Table.{prop_at}
use Rattle.ec_parts.proofs.initials.initial_tables.Goals as goal

pub neighbours_of-requires-clause-kept : goal.neighbours_of-requires-clause-kept
neighbours_of-requires-clause-kept c =
    subst (All (λ (p : PropId). IsSome (prop_at p.0 c.keep_initials.new.props))) (sym c.as_slice.ensures.items)
    (λ k d below. sym (c.in_ok-numbers.ensures (get_or c.in_ok-numbers.numbers.items k d).0) ∙ has_number-at c.in_ok-numbers.numbers.items k d below)

pub same-props : goal.same-props
same-props c = grind (arith, common_steps)

pub returns-clause-added : goal.returns-clause-added
returns-clause-added c = grind (arith, common_steps)

pub same-numbers : goal.same-numbers
same-numbers c = grind (arith, common_steps)
