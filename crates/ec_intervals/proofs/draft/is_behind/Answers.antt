-- A mark lies behind a time that is before its own.
use Rattle.std.proofs.Common.{rules}
use Rattle.ec_intervals.proofs.draft.is_behind.Goals as goal

pub returns-in-Some : goal.returns-in-Some
returns-in-Some g c = search rules
