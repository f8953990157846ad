-- The search cuts the rows behind those that come before the property.
use Rattle.std.proofs.Common.{arith, sym, ◌∙◌, ap}
use Rattle.std.specs.Ordering.{is_eq}
use Rattle.ec_watch.specs.Watched.{is_below}
use Rattle.ec_terms.specs.Term.{ground_of}
use Rattle.ec_watch.proofs.Cuts.{above-cut, equal-from_test, there-cut, free-cut, free-end}
use Rattle.ec_watch.proofs.watches.place_of.Goals as goal

pub returns-then-place-rows-clause-free : goal.returns-then-place-rows-clause-free
returns-then-place-rows-clause-free c =
    free-end (ground_of c.args.p.now) c.args.rows.now c.count_before-place.result c.count_before-place.ensures.cut c.count_before-place.ensures.within (grind arith)

pub returns-then-is_eq-clause-there : goal.returns-then-is_eq-clause-there
returns-then-is_eq-clause-there c =
    there-cut (ground_of c.args.p.now) c.args.rows.now c.count_before-place.result c.index-rows-place.result c.count_before-place.ensures.cut c.requires.ascend (grind arith) c.index-rows-place.is
    (sym c.order.ensures ∙ equal-from_test c.order.result (sym c.if-is_eq.ensures))

pub returns-else-is_eq-clause-free : goal.returns-else-is_eq-clause-free
returns-else-is_eq-clause-free c =
    free-cut (ground_of c.args.p.now) c.args.rows.now c.count_before-place.result c.index-rows-place.result c.count_before-place.ensures.cut c.requires.ascend (grind arith) c.index-rows-place.is
    (above-cut (ground_of c.args.p.now) c.index-rows-place.result
    (ap (is_below (ground_of c.args.p.now)) c.index-rows-place.is ∙ c.count_before-place.ensures.cut.1 c.count_before-place.result c.index-rows-place.result (omega arith) (grind arith))
    (ap is_eq (sym c.order.ensures) ∙ sym c.if-is_eq.ensures))
