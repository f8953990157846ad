use Rattle.std.proofs.Common.{◌∙◌, sym, arith}
use Rattle.std.proofs.lemmas.Grind.{common_steps}
use Rattle.ec_outside.proofs.Waiting.{NothingAppended-some, NothingAppended-all, from_on_ok}
use Rattle.ec_outside.proofs.buffered.Buffered.send.Goals as goal

pub returns-then-is_ok-clause-kept : goal.returns-then-is_ok-clause-kept
returns-then-is_ok-clause-kept g c =
    let appended = rw c.deref.ensures.value at c.write_counted-count.ensures.appended in
    let all = rw c.deref.ensures.value at (from_on_ok c.write_counted-count.result.1 (sym c.is_ok.ensures.value ∙ c.if-is_ok.true) c.write_counted-count.ensures.all) in
    rw (c.clear.ensures.items, ← c.self.view_is) (NothingAppended-all c.self.inside.buffer.items c.self.inside.sent c.write_counted-count.result.0 appended all)

pub returns-else-is_ok-clause-kept : goal.returns-else-is_ok-clause-kept
returns-else-is_ok-clause-kept g c =
    let appended = rw c.deref.ensures.value at c.write_counted-count.ensures.appended in
    rw (← c.self.view_is) (NothingAppended-some c.self.inside.buffer.items c.self.inside.sent c.write_counted-count.result.0 appended)

pub returns-else-is_ok-clause-failed : goal.returns-else-is_ok-clause-failed
returns-else-is_ok-clause-failed c = grind (arith, common_steps)

pub returns-then-is_ok-clause-failed : goal.returns-then-is_ok-clause-failed
returns-then-is_ok-clause-failed c = grind (arith, common_steps)

pub returns-else-is_ok-clause-all : goal.returns-else-is_ok-clause-all
returns-else-is_ok-clause-all c = grind (arith, common_steps)

pub returns-else-is_ok-clause-quiet : goal.returns-else-is_ok-clause-quiet
returns-else-is_ok-clause-quiet c = grind (arith, common_steps)

pub returns-else-is_ok-clause-bounded : goal.returns-else-is_ok-clause-bounded
returns-else-is_ok-clause-bounded c = grind (arith, common_steps)

pub returns-then-is_ok-clause-counted : goal.returns-then-is_ok-clause-counted
returns-then-is_ok-clause-counted c = grind (arith, common_steps)

pub returns-then-is_ok-clause-all : goal.returns-then-is_ok-clause-all
returns-then-is_ok-clause-all c = grind (arith, common_steps)

pub returns-then-is_ok-clause-bounded : goal.returns-then-is_ok-clause-bounded
returns-then-is_ok-clause-bounded c = grind (arith, common_steps)

pub returns-then-is_ok-clause-quiet : goal.returns-then-is_ok-clause-quiet
returns-then-is_ok-clause-quiet c = grind (arith, common_steps)

pub returns-else-is_ok-clause-counted : goal.returns-else-is_ok-clause-counted
returns-else-is_ok-clause-counted c = grind (arith, common_steps)
