use Rattle.std.proofs.Common.{take, map}
use Rattle.ec_context.specs.declared.entry.EntryLiteral.{EntryLiteral}
use Rattle.ec_parts.specs.Mentions.{HasMentioned}
use Rattle.ec_parts.proofs.mention.mention_literals.Given as goal

abbrev pub invariant-loop-literal : goal.invariant-loop-literal
invariant-loop-literal g l =
    HasMentioned l.neighbours l.points (map (λ (literal : EntryLiteral). literal.prop) (take l.literal-index l.literals)) l.initial.props l.initial.tally l.props l.tally
