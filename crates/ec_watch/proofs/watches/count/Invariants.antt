-- So many of the rows so far are the session's.
use Rattle.std.proofs.Common.{◌≡◌, ◌≤◌, length, take}
use Rattle.ec_watch.specs.Watched.{watched_by}
use Rattle.ec_watch.proofs.watches.count.Given as goal

abbrev pub invariant-loop-row : goal.invariant-loop-row
invariant-loop-row l = record { counted : l.count ≡ length (watched_by l.fn.session (take l.row-index l.fn.rows)); few : l.count ≤ l.row-index }
