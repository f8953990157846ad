-- No record from the place on has the identity.
use Rattle.std.proofs.Common.{◌≡◌, ◌≤◌, None, length, drop}
use Rattle.ec_past.specs.Logged.{last_with, plain_records}
use Rattle.ec_past.proofs.log_record.last_of.Given as goal

abbrev pub invariant-loop-place : goal.invariant-loop-place
invariant-loop-place g l = record {
  in_range : l.place ≤ length l.records;
  behind : last_with l.id (plain_records g.T.Moment.rank (drop l.place l.records)) ≡ None;
}

abbrev pub decreases-loop-place : goal.decreases-loop-place
decreases-loop-place g l = l.place
