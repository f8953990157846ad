-- The line ends so far, and those that both have in common from here on, are all that they have in common.
use Rattle.std.proofs.Common.{◌≡◌, ◌+◌, drop}
use Rattle.ec_cert.proofs.Differences.{common_ends}
use Rattle.ec_cert.proofs.comparing.bad_line.Given as goal

abbrev pub invariant-loop-at : goal.invariant-loop-at
invariant-loop-at l = l.line + common_ends (drop l.at l.certificate) (drop l.at l.label) ≡ 1 + common_ends l.certificate l.label
