use Rattle.std.proofs.lemmas.Result.{on_ok_weaker, on_err_weaker}
use Rattle.ec_outside.proofs.Streams.{Appended-counted, AppendedPart-counted}
use Rattle.ec_outside.proofs.sink.write_all.Goals as goal

pub returns-clause-written : goal.returns-clause-written
returns-clause-written g c =
    on_ok_weaker c.write_counted.result.1 (λ all. Appended-counted c.write_counted.ensures.appended all) c.write_counted.ensures.all

pub returns-clause-part : goal.returns-clause-part
returns-clause-part g c =
    on_err_weaker c.write_counted.result.1 (λ _. AppendedPart-counted c.args.bytes.now c.write_counted.result.0 c.write_counted.ensures.appended) c.write_counted.ensures.failed
