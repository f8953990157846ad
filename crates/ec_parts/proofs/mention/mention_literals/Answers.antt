use Rattle.std.proofs.Common.{[], map, take, refl, subst, arith}
use Rattle.std.proofs.lemmas.Grind.{common_steps}
use Rattle.std.proofs.lemmas.List.{take_all}
use Rattle.ec_context.specs.declared.entry.EntryLiteral.{EntryLiteral}
use Rattle.ec_parts.specs.Mentions.{HasMentioned}
use Rattle.ec_parts.proofs.Mentioned.{HasMentioned-none, HasMentioned-then, AreSomeTables-mentioned, map-take_more}
use Rattle.ec_parts.proofs.mention.mention_literals.Goals as goal

pub loop-literal-init : goal.loop-literal-init
loop-literal-init g c = HasMentioned-none c.args.props.now c.args.tally.now [] refl

pub mention-requires-clause-tables : goal.mention-requires-clause-tables
mention-requires-clause-tables g c = AreSomeTables-mentioned (map (λ (l : EntryLiteral). l.prop) (take c.loop-literal.literal-index c.args.literals.now)) c.loop-literal.invariant c.requires.tables

pub loop-literal-preserved : goal.loop-literal-preserved
loop-literal-preserved g c =
    HasMentioned-then (map (λ (l : EntryLiteral). l.prop) (take c.loop-literal.literal-index c.args.literals.now)) _ _
    (map-take_more (λ (l : EntryLiteral). l.prop) c.args.literals.now c.loop-literal.literal-index _ c.loop-literal-test.true) c.loop-literal.invariant c.mention.ensures

pub returns : goal.returns
returns g c =
    subst (λ ls. HasMentioned c.args.neighbours.now c.args.points.now (map (λ (l : EntryLiteral). l.prop) ls) c.args.props.now c.args.tally.now c.loop-literal.props c.loop-literal.tally)
    (take_all c.loop-literal.literal-index c.args.literals.now c.loop-literal-test.false) c.loop-literal.invariant

pub mention-requires-clause-few : goal.mention-requires-clause-few
mention-requires-clause-few c = grind (arith, common_steps)
