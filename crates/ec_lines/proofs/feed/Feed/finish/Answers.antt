-- The line is long where it was before, and else where it has more bytes than the longest.
use Rattle.std.proofs.Common.{rules}
use Rattle.ec_commands.specs.Lines.{is_long}
use Rattle.ec_lines.proofs.feed.Feed.finish.Goals as goal

pub returns-clause-long : goal.returns-clause-long
unfolding is_long
returns-clause-long c = search rules
