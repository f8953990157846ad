-- The head stays under its number while the literals are kept.
use Rattle.std.proofs.Common.{Some, ap, ◌∙◌, arith}
use Rattle.std.proofs.lemmas.Grind.{common_steps}
use Rattle.ec_terms.specs.Binding.{values_of}
use Rattle.ec_axioms.proofs.Givens.{fills-given}
use Rattle.ec_context.proofs.Shown.{shown_entry-filled, term_at-kept}
use Rattle.std.specs.Prelude.{◌==◌}
use Rattle.std.specs.List.{list_any}
use Rattle.ec_context.specs.Entries.{is_of}
use Rattle.ec_context.proofs.NewNumbers.{AddsOnly-then}
use Rattle.ec_context.proofs.entries.entry_with.Goals as goal

pub fill_ref-requires-clause-bound : goal.fill_ref-requires-clause-bound
fill_ref-requires-clause-bound c =
    fills-given c.args.rule.now.event c.args.rule.now.head (values_of c.args.binding.now) c.requires.bound c.requires.rule.head.places

pub returns-clause-shown : goal.returns-clause-shown
returns-clause-shown c =
    shown_entry-filled c.literals_of.new.props
    (record { rule = c.args.number; kind = c.args.rule.now.kind; head = c.in_ok-head.head; literals = c.in_ok-literals.literals }) _ _
    (term_at-kept c.keep.new.props c.literals_of.new.props c.in_ok-literals.ensures.kept.kept c.in_ok-head.head.0 _ (c.in_ok-head.ensures.term ∙ ap Some c.fill_ref.ensures.filled))
    c.in_ok-literals.ensures.shown

pub returns-clause-added : goal.returns-clause-added
returns-clause-added c =
    AddsOnly-then (λ id. c.in_ok-head.head.0 == id) (λ id. list_any (is_of id) c.in_ok-literals.literals) c.args.added.now.items c.keep.new.added.items c.literals_of.new.added.items
    c.in_ok-head.ensures.added c.in_ok-literals.ensures.added

pub returns-clause-kept : goal.returns-clause-kept
returns-clause-kept c = grind (arith, common_steps)
