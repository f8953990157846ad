use Rattle.std.proofs.Common.{drop, arith}
use Rattle.std.proofs.lemmas.Grind.{common_steps}
use Rattle.std.proofs.lemmas.Result.{IfOk-weaker, on_err_weaker}
use Rattle.ec_outside.specs.BufferedState.{stands_with_waiting}
use Rattle.ec_outside.proofs.Waiting.{Appended-whole, Appended-waited, Appended-passed, NothingAppended-passed}
use Rattle.ec_outside.proofs.buffered.BufferedSink.write.Goals as goal

pub returns-then-keep-clause-appended : goal.returns-then-keep-clause-appended
returns-then-keep-clause-appended g c =
    Appended-whole (stands_with_waiting g.K.Sink.stands) c.args.self.now c.keep.new.self c.args.from.now c.if-keep.ensures.added

pub returns-then-keep-2-clause-appended : goal.returns-then-keep-2-clause-appended
returns-then-keep-2-clause-appended g c =
    Appended-waited g.K.Sink.stands c.args.self.now c.keep.new.self c.send.new.self c.keep-2.new.self c.args.from.now
    c.if-keep.ensures.full c.send.ensures.kept c.if-keep-2.ensures.added

pub returns-clause-appended : goal.returns-clause-appended
returns-clause-appended g c =
    IfOk-weaker c.write.result _ _
    (λ n appended. Appended-passed (drop c.self.inside.sent c.self.inside.buffer.items)
    c.if-keep.ensures.full c.send.ensures.kept c.in_ok-send.ensures.all c.if-keep-2.ensures.full c.self.view_is appended)
    c.write.ensures.appended

pub returns-clause-kept : goal.returns-clause-kept
returns-clause-kept g c =
    on_err_weaker c.write.result
    (λ kept. NothingAppended-passed (drop c.self.inside.sent c.self.inside.buffer.items)
    c.if-keep.ensures.full c.send.ensures.kept c.if-keep-2.ensures.full c.self.view_is kept)
    c.write.ensures.kept

pub returns-clause-counted : goal.returns-clause-counted
returns-clause-counted c = grind (arith, common_steps)

pub returns-clause-quiet : goal.returns-clause-quiet
returns-clause-quiet c = grind (arith, common_steps)

pub returns-then-keep-2-clause-bounded : goal.returns-then-keep-2-clause-bounded
returns-then-keep-2-clause-bounded c = grind (arith, common_steps)

pub returns-clause-failed : goal.returns-clause-failed
returns-clause-failed c = grind (arith, common_steps)

pub returns-then-keep-2-clause-counted : goal.returns-then-keep-2-clause-counted
returns-then-keep-2-clause-counted c = grind (arith, common_steps)

pub returns-then-keep-clause-bounded : goal.returns-then-keep-clause-bounded
returns-then-keep-clause-bounded c = grind (arith, common_steps)

pub returns-then-keep-2-clause-quiet : goal.returns-then-keep-2-clause-quiet
returns-then-keep-2-clause-quiet c = grind (arith, common_steps)

pub returns-clause-bounded : goal.returns-clause-bounded
returns-clause-bounded c = grind (arith, common_steps)
