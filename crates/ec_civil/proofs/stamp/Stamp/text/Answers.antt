-- The pieces, joined.
use Rattle.std.proofs.Common.{refl}
use Rattle.ec_civil.specs.Civil.{stamp_text}
use Rattle.ec_civil.proofs.stamp.Stamp.text.Goals as goal

pub returns : goal.returns
unfolding stamp_text
returns c =
    rw (
      c.push_str-6.ensures,
      c.push_two-7.ensures,
      c.push_str-5.ensures,
      c.push_two-6.ensures,
      c.push_str-4.ensures,
      c.push_two-5.ensures,
      c.push_str-3.ensures,
      c.push_two-4.ensures,
      c.push_str-2.ensures,
      c.push_two-3.ensures,
      c.push_str.ensures,
      c.push_two-2.ensures,
      c.push_two.ensures,
      c.new-text.ensures,
    ) refl
