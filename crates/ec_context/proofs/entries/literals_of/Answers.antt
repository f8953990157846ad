-- Each literal is filled in, and the rule has room for no more than are left.
use Rattle.std.proofs.Common.{rules, length, refl, ap, arith}
use Rattle.std.proofs.lemmas.Grind.{common_steps}
use Rattle.ec_terms.specs.Binding.{values_of}
use Rattle.ec_terms.specs.Domain.{ground_literal_of}
use Rattle.ec_terms.specs.Matchable.{IsGiven}
use Rattle.ec_axioms.proofs.Givens.{fills-given}
use Rattle.ec_context.proofs.Keepings.{HasKept-same, HasKept-then}
use Rattle.ec_context.proofs.Shown.{room-shown_literals, shown_literals-more, shown_literals-none}
use Rattle.std.specs.List.{list_any}
use Rattle.ec_context.specs.Entries.{is_of}
use Rattle.ec_context.proofs.NewNumbers.{AddsOnly-literal, AddsOnly-same}
use Rattle.ec_context.proofs.entries.literals_of.Goals as goal

pub loop-literal-init : goal.loop-literal-init
loop-literal-init c = record {
  kept = HasKept-same c.args.props.now c.args.props.now c.args.added.now.items c.args.added.now.items c.requires.unmentioned refl refl;
  shown = shown_literals-none c.args.props.now c.new-literals.result c.new-literals.ensures;
  added = AddsOnly-same (λ id. list_any (is_of id) c.new-literals.result) c.args.added.now.items c.args.added.now.items refl;
}

pub literal_of-requires-clause-bound : goal.literal_of-requires-clause-bound
literal_of-requires-clause-bound c =
    let given : IsGiven c.args.rule.now.event c.literal-item.result.prop = search rules in
    fills-given c.args.rule.now.event c.literal-item.result.prop (values_of c.args.binding.now) c.requires.bound given.places

pub push-requires : goal.push-requires
push-requires c =
    let room = room-shown_literals c.loop-literal.props c.loop-literal.literals (ground_literal_of (values_of c.args.binding.now)) c.as_slice-literal-items.result.now
    c.loop-literal.literal-index c.loop-literal.invariant.shown c.loop-literal-test.true in
    let as_many = ap length c.as_slice-literal-items.ensures in
    omega (arith, room, as_many, c.requires.few)

pub loop-literal-preserved : goal.loop-literal-preserved
loop-literal-preserved c = record {
  kept = HasKept-then c.args.props.now c.loop-literal.props c.literal_of.new.props c.args.added.now.items c.loop-literal.added.items c.literal_of.new.added.items
      c.loop-literal.invariant.kept c.in_ok-literal_of.ensures.kept;
  shown = shown_literals-more c.loop-literal.props c.literal_of.new.props c.in_ok-literal_of.ensures.kept.kept c.loop-literal.literals c.push.new.self c.in_ok-literal_of.field-0
      (ground_literal_of (values_of c.args.binding.now)) c.as_slice-literal-items.result.now c.loop-literal.literal-index c.literal-item.result
      c.loop-literal-test.true c.literal-item.is c.loop-literal.invariant.shown c.in_ok-literal_of.ensures.shown c.in_ok-push.ensures.ok;
  added = AddsOnly-literal c.args.added.now.items c.loop-literal.added.items c.literal_of.new.added.items c.loop-literal.literals c.push.new.self c.in_ok-literal_of.field-0
      c.in_ok-push.ensures.ok c.loop-literal.invariant.added c.in_ok-literal_of.ensures.added;
}

pub returns-in_err-literal_of-clause-kept : goal.returns-in_err-literal_of-clause-kept
returns-in_err-literal_of-clause-kept c =
    HasKept-then c.args.props.now c.loop-literal.props c.literal_of.new.props c.args.added.now.items c.loop-literal.added.items c.literal_of.new.added.items
    c.loop-literal.invariant.kept c.literal_of.ensures.kept

pub returns-in_err-push-clause-kept : goal.returns-in_err-push-clause-kept
returns-in_err-push-clause-kept c =
    HasKept-then c.args.props.now c.loop-literal.props c.literal_of.new.props c.args.added.now.items c.loop-literal.added.items c.literal_of.new.added.items
    c.loop-literal.invariant.kept c.in_ok-literal_of.ensures.kept

pub returns-clause-shown : goal.returns-clause-shown
returns-clause-shown c = grind (arith, common_steps)
