-- Where no time is given, all clashes are behind it.
use Rattle.std.proofs.Common.{filter, Option, sym, ap, ◌∙◌, arith}
use Rattle.std.proofs.lemmas.Grind.{common_steps}
use Rattle.ec_lists.proofs.Filters.{filter-each}
use Rattle.ec_points.specs.declared.clashes.Clash.{Clash}
use Rattle.ec_points.specs.Clashes.{is_behind}
use Rattle.ec_points.proofs.clashes.Clashes.place_behind.Goals as goal

pub returns-in-None : goal.returns-in-None
returns-in-None g c =
    sym (ap (λ (after : Option _). filter (λ (clash : Clash _). is_behind g.T.Moment.rank after (g.T.Moment.rank clash.at)) c.args.self.now.items) c.in-None.is
    ∙ filter-each c.args.self.now.items)

pub returns-in-Some : goal.returns-in-Some
returns-in-Some c = grind (arith, common_steps)
