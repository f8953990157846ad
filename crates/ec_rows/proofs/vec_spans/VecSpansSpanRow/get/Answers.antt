-- The row's spans are those of the `Vec`.
use Rattle.std.proofs.Common.{refl}
use Rattle.std.proofs.lemmas.Option.{slice_get_read}
use Rattle.ec_rows.proofs.vec_spans.VecSpansSpanRow.get.Goals as goal

pub returns-clause-span : goal.returns-clause-span
returns-clause-span g c = slice_get_read c.args.self.now.items _ c.args.i c.index.result.now refl c.requires (rw (← c.self.view_is) c.index.ensures)

pub returns-clause-row : goal.returns-clause-row
returns-clause-row g c = rw (← c.self.view_is) c.self.invariant
