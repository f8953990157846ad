-- A way has no more updates than what is kept weighs.
use Rattle.std.proofs.Common.{sym, ap, ◌∙◌, arith}
use Rattle.ec_axioms.specs.Events.{plain_update}
use Rattle.ec_past.specs.Journals.{PlainJournal, weights_of}
use Rattle.ec_past.specs.Logged.{plain_record}
use Rattle.ec_past.proofs.WayLemmas.{few-redos, few-undos}
use Rattle.ec_past.proofs.Windows.{weights_of-map}
use Rattle.ec_past.proofs.journal.Journal.way.Goals as goal

pub returns-then-to-from-clause-few : goal.returns-then-to-from-clause-few
returns-then-to-from-clause-few g c =
    let rank = g.T.Moment.rank in
    let same = ap (λ (j : PlainJournal). weights_of j.kept) (sym c.self.view_is) ∙ weights_of-map (plain_record rank) c.self.inside.kept.items in
    few-undos (plain_update rank) c.undos.result _ _ c.args.self.now.kept (omega (arith, same, c.self.invariant.weighs, c.self.invariant.few)) c.undos.ensures

pub returns-else-to-from-clause-few : goal.returns-else-to-from-clause-few
returns-else-to-from-clause-few g c =
    let rank = g.T.Moment.rank in
    let same = ap (λ (j : PlainJournal). weights_of j.kept) (sym c.self.view_is) ∙ weights_of-map (plain_record rank) c.self.inside.kept.items in
    few-redos (plain_update rank) c.redos.result _ _ c.args.self.now.kept (omega (arith, same, c.self.invariant.weighs, c.self.invariant.few)) c.redos.ensures
