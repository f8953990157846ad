-- One property more is in the tally.
use Rattle.std.proofs.Common.{◌||◌, get_or, take, sym, ap, subst, ◌∙◌, arith}
use Rattle.std.specs.Prelude.{◌==◌}
use Rattle.std.specs.List.{list_any}
use Rattle.std.proofs.lemmas.Grind.{common_steps}
use Rattle.ec_lists.proofs.Booleans.{or_turned}
use Rattle.ec_terms.specs.declared.ids.PropId.{PropId}
use Rattle.ec_numbered.specs.PropSet.{has_number}
use Rattle.ec_exclusive.proofs.InTurn.{has_number-more}
use Rattle.ec_revise.specs.TurnCounts.{IsTallyAt, counts_at}
use Rattle.ec_sweep.proofs.settle_rows.tally_of.Goals as goal

pub returns-clause-rows : goal.returns-clause-rows
returns-clause-rows c = grind (arith, common_steps)

pub returns-clause-tallied : goal.returns-clause-tallied
returns-clause-tallied c = grind (arith, common_steps)

pub loop-p-preserved : goal.loop-p-preserved
loop-p-preserved c =
    let none : PropId = record { 0 = 0 } in
    let p : PropId = get_or c.args.due.now c.loop-p.p-index none in
    record {
      tallied = λ q. subst (IsTallyAt c.args.neighbours.now.rows c.args.turns.now q) (sym (c.in_ok-note.ensures.kept q)) (c.loop-p.invariant.tallied q);
      rows = λ q.
          c.in_ok-note.ensures.rows q
          ∙ ap (λ b. (p.0 == q.0) || b) (c.loop-p.invariant.rows q)
          ∙ or_turned (p.0 == q.0) (has_number q.0 (take c.loop-p.p-index c.args.due.now)) (list_any (counts_at c.args.neighbours.now.rows q) c.args.turns.now)
          ∙ ap (λ b. b || list_any (counts_at c.args.neighbours.now.rows q) c.args.turns.now) (sym (has_number-more q c.args.due.now c.loop-p.p-index none c.loop-p-test.true));
    }
