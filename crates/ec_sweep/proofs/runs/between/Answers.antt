-- A part of a part.
use Rattle.std.proofs.Common.{◌≡◌, ◌+◌, ◌-◌, drop, take, sym, ap, ◌∙◌, arith}
use Rattle.std.proofs.lemmas.List.{drop-take}
use Rattle.ec_sweep.proofs.runs.between.Goals as goal

pub returns : goal.returns
returns g c =
    let whole : c.args.from + (c.args.to - c.args.from) ≡ c.args.to = omega arith in
    sym (drop-take c.args.from (c.args.to - c.args.from) c.args.items.now) ∙ ap (λ n. drop c.args.from (take n c.args.items.now)) whole
