-- The numbers that are left are unmentioned, and without them the table is what it is to become.
use Rattle.std.proofs.Common.{◌≡◌, vec_len}
use Rattle.ec_context.specs.Widened.{AreUnmentioned, without_props}
use Rattle.ec_context.proofs.keeping.forget_each.Given as goal

abbrev pub invariant-loop-p : goal.invariant-loop-p
invariant-loop-p l = record {
  unmentioned : AreUnmentioned l.added.items l.props;
  back : without_props l.added.items l.props ≡ without_props l.initial.added.items l.initial.props;
}

abbrev pub decreases-loop-p : goal.decreases-loop-p
decreases-loop-p l = vec_len l.added
