-- Each run is the next of what is to be listed.
use Rattle.std.proofs.Common.{map, take, sym, arith}
use Rattle.std.proofs.lemmas.Grind.{common_steps}
use Rattle.ec_store.specs.Table.{number_of}
use Rattle.ec_axioms.specs.Timeline.{is_held_at}
use Rattle.ec_intervals.specs.Table.{members_at, plain_intervals}
use Rattle.ec_query.specs.Holding.{held_numbers}
use Rattle.ec_query.proofs.ListedLemmas.{filter-take_run, Lists-renamed}
use Rattle.ec_query.proofs.held_list.list_held.Goals as goal

pub loop-i-preserved : goal.loop-i-preserved
loop-i-preserved g c =
    let rank = g.T.Moment.rank in
    let intervals = c.args.held.now.intervals.now in
    let t = rank c.args.at in
    let ns = map number_of c.args.held.now.props.now in
    record {
      listed =
          Lists-renamed c.list_run.new.list
          (sym (filter-take_run (λ p. is_held_at (plain_intervals rank (members_at p.0 intervals)) t) ns c.run_in_order-run.result.now c.loop-i.i c.run_in_order-run.ensures.run))
          (c.list_run.ensures.listed (held_numbers rank intervals t (take c.loop-i.i ns)) c.loop-i.invariant.listed);
      within = omega (arith, c.list_run.ensures.within, c.loop-i.invariant.within);
    }

pub list_run-requires-clause-count : goal.list_run-requires-clause-count
list_run-requires-clause-count c = grind (arith, common_steps)

pub overflow_add-i : goal.overflow_add-i
overflow_add-i c = grind (arith, common_steps)

pub list_run-requires-clause-near : goal.list_run-requires-clause-near
list_run-requires-clause-near c = grind (arith, common_steps)

pub returns : goal.returns
returns c = grind (arith, common_steps)
