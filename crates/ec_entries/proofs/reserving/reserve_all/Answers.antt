-- One list more is wanted.
use Rattle.std.proofs.Common.{◌+◌, List, get_or, sym, ap, ◌∙◌, arith}
use Rattle.std.proofs.lemmas.Grind.{common_steps}
use Rattle.std.proofs.lemmas.List.Sums.{sum_by_more}
use Rattle.ec_context.specs.declared.entry.Entry.{Entry}
use Rattle.ec_entries.specs.Dependents.{count_on}
use Rattle.ec_entries.specs.Wanted.{wanted_at}
use Rattle.ec_entries.proofs.Wanting.{IsWider-then}
use Rattle.ec_entries.proofs.reserving.reserve_all.Goals as goal

pub returns-clause-ok : goal.returns-clause-ok
returns-clause-ok c = grind (arith, common_steps)

pub loop-list-preserved : goal.loop-list-preserved
loop-list-preserved g c = record {
  wider = IsWider-then c.args.rows.now c.loop-list.rows c.want_list.new.rows c.loop-list.invariant.wider c.in_ok-want_list.ensures.wider;
  wanted = λ q.
      c.in_ok-want_list.ensures.ok.wanted q
      ∙ ap (λ (list : List Entry). wanted_at q c.loop-list.wanted + count_on q list) (c.as_slice.ensures.items ∙ c.list-item.is)
      ∙ ap (λ n. n + count_on q (get_or c.args.lists.now c.loop-list.list-index c.list-item.result)) (c.loop-list.invariant.wanted q)
      ∙ sym (sum_by_more (count_on q) c.args.lists.now c.loop-list.list-index c.list-item.result c.loop-list-test.true);
  room = c.in_ok-want_list.ensures.ok.room;
}

pub want_list-requires : goal.want_list-requires
want_list-requires c = grind (arith, common_steps)
