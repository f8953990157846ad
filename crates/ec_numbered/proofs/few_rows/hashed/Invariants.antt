-- The map finds what the rows so far have.
use Rattle.std.proofs.Common.{◌≡◌, take}
use Rattle.std.specs.Map.{lookup}
use Rattle.ec_numbered.proofs.few_rows.hashed.Given as goal

abbrev pub invariant-loop-row : goal.invariant-loop-row
invariant-loop-row g l = (k : g.row.K.Denot) → lookup (g.K.PartialEq.eq k) l.map.entries ≡ lookup (g.K.PartialEq.eq k) (take l.row-index l.rows)
