use Rattle.std.proofs.Common.{take}
use Rattle.ec_parts.specs.Mentions.{HasMentioned, list_props}
use Rattle.ec_parts.proofs.mention.mention_entries.Given as goal

abbrev pub invariant-loop-entry : goal.invariant-loop-entry
invariant-loop-entry g l = HasMentioned l.neighbours l.points (list_props (take l.entry-index l.entries)) l.initial.props l.initial.tally l.props l.tally
