-- The generated lines were served to their end, and memory ran out for none of them.
use Rattle.std.proofs.Common.{◌<◌, length, arith}
use Rattle.ec_soak.specs.Load.{generated_load}
use Rattle.ec_server.proofs.Soaks.{IsSoaked-of, IsSoaked-told, length-generated_load}
use Rattle.ec_server.proofs.soaked.soak.Goals as goal

pub returns-in-Done : goal.returns-in-Done
returns-in-Done c =
    let below : length (generated_load c.args.lines c.args.seed) < 18446744073709551615 = omega (arith, c.ranges.lines.fits, length-generated_load c.args.lines c.args.seed) in
    IsSoaked-told c.args.lines c.args.seed c.counts.result c.without_refusals.result c.without_refusals.ensures.same c.without_refusals.ensures.none
    (λ none. IsSoaked-of c.args.lines c.args.seed 18446744073709551615 c.in-Ok.checked c.soak_text.result.now c.new-input.result c.serve.new.input c.new-output.result c.serve.new.output
    c.serve.result c.counts.result below c.soak_text.ensures.text c.in-Ok.ensures.ok c.new-input.ensures c.new-output.ensures c.in-Done.is c.serve.ensures.served c.counts.ensures.counted none)
