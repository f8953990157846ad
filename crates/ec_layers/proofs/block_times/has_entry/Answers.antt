-- An entry more is the one or not.
use Rattle.std.proofs.Common.{Bool, ◌||◌, sym, ap, ap₂, ◌∙◌, arith}
use Rattle.std.proofs.lemmas.List.Folds.{list_any_at, list_any_more}
use Rattle.std.proofs.lemmas.Option.{get_or_from_slice_get}
use Rattle.ec_moment.specs.declared.tick.Tick.{Tick}
use Rattle.ec_rows.specs.Times.{Entry, is_entry}
use Rattle.ec_layers.proofs.block_times.has_entry.Goals as goal

pub returns-then-is_entry : goal.returns-then-is_entry
returns-then-is_entry g c =
    let p : Entry Tick → Bool = λ entry. is_entry (λ (tick : Tick). tick.0) c.args.at.0 c.args.id.now entry in
    sym (list_any_at p (g.X.TimeRow.times c.args.row.now) c.loop-i.i c.get.result (omega (arith, c.loop-i.invariant.end, c.loop-i-test.true))
    (ap p (get_or_from_slice_get (g.X.TimeRow.times c.args.row.now) c.loop-i.i c.get.result c.get.result c.get.ensures.entry) ∙ sym c.is_entry.ensures ∙ c.if-is_entry.true))

pub loop-i-preserved : goal.loop-i-preserved
loop-i-preserved g c = record {
  none =
      let p : Entry Tick → Bool = λ entry. is_entry (λ (tick : Tick). tick.0) c.args.at.0 c.args.id.now entry in
      list_any_more p (g.X.TimeRow.times c.args.row.now) c.loop-i.i c.get.result (omega (arith, c.loop-i.invariant.end, c.loop-i-test.true))
      ∙ ap₂ (λ a b. a || b) c.loop-i.invariant.none
      (ap p (get_or_from_slice_get (g.X.TimeRow.times c.args.row.now) c.loop-i.i c.get.result c.get.result c.get.ensures.entry) ∙ sym c.is_entry.ensures ∙ c.if-is_entry.false);
  end = c.loop-i.invariant.end;
}
