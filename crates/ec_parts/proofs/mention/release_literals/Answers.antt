use Rattle.std.proofs.Common.{◌+◌, map, take, drop, refl, subst, arith}
use Rattle.std.proofs.lemmas.Grind.{common_steps}
use Rattle.std.proofs.lemmas.List.{take_all}
use Rattle.ec_context.specs.declared.entry.EntryLiteral.{EntryLiteral}
use Rattle.ec_parts.specs.Mentions.{HasReleased}
use Rattle.ec_parts.proofs.Mentioned.{kept-same, HasReleased-then, AreSomeTables-front, AreSomeTables-released, map-take_more, map-cut}
use Rattle.ec_parts.proofs.mention.release_literals.Goals as goal

pub release-requires-clause-kept : goal.release-requires-clause-kept
release-requires-clause-kept g c = kept-same _ _ c.loop-literal.invariant.terms _ (c.requires.kept c.loop-literal.literal-index _ c.loop-literal-test.true)

pub release-requires-clause-tables : goal.release-requires-clause-tables
release-requires-clause-tables g c =
    let rest = map (λ (l : EntryLiteral). l.prop) (drop (c.loop-literal.literal-index + 1) c.args.literals.now) in
    AreSomeTables-front _ rest _ refl
    (AreSomeTables-released (map (λ (l : EntryLiteral). l.prop) (take c.loop-literal.literal-index c.args.literals.now)) _ _
    (map-cut (λ (l : EntryLiteral). l.prop) c.args.literals.now c.loop-literal.literal-index _ c.loop-literal-test.true) c.loop-literal.invariant c.requires.tables)

pub loop-literal-preserved : goal.loop-literal-preserved
loop-literal-preserved g c =
    HasReleased-then (map (λ (l : EntryLiteral). l.prop) (take c.loop-literal.literal-index c.args.literals.now)) _ _
    (map-take_more (λ (l : EntryLiteral). l.prop) c.args.literals.now c.loop-literal.literal-index _ c.loop-literal-test.true) c.loop-literal.invariant c.release.ensures

pub returns : goal.returns
returns g c =
    subst (λ ls. HasReleased c.args.neighbours.now c.args.points.now (map (λ (l : EntryLiteral). l.prop) ls) c.args.props.now c.args.tally.now c.loop-literal.props c.loop-literal.tally)
    (take_all c.loop-literal.literal-index c.args.literals.now c.loop-literal-test.false) c.loop-literal.invariant

pub loop-literal-init : goal.loop-literal-init
loop-literal-init c = grind (arith, common_steps)
