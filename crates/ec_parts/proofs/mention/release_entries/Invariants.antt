use Rattle.std.proofs.Common.{take}
use Rattle.ec_parts.specs.Mentions.{HasReleased, list_props}
use Rattle.ec_parts.proofs.mention.release_entries.Given as goal

abbrev pub invariant-loop-entry : goal.invariant-loop-entry
invariant-loop-entry g l = HasReleased l.neighbours l.points (list_props (take l.entry-index l.entries)) l.initial.props l.initial.tally l.props l.tally
