-- How two points at which intervals begin or end are ordered.
use Rattle.std.specs.Prelude.{if◌then◌else◌}
use Rattle.std.specs.declared.cmp.Ordering.{Ordering}
use Rattle.std.specs.declared.cmp.Ordering.TheVariants.{Less, Equal, Greater}
use Rattle.ec_commands.specs.Relations.{Point, point_lt, point_eq}

-- the order of a point and another
abbrev pub point_cmp : Point → Point → Ordering
point_cmp p q = if point_lt p q then Less else (if point_eq p q then Equal else Greater)
