-- Each group is taken in.
use Rattle.std.proofs.Common.{◌/◌, true}
use Rattle.ec_intervals.specs.declared.near.TheConstants.{GROUP, GROUPS}
use Rattle.ec_lists.proofs.Places.{get_or-copies}
use Rattle.ec_intervals.proofs.near.Near.all.Goals as goal

pub returns : goal.returns
returns c = λ n. get_or-copies GROUPS (n / GROUP) true
