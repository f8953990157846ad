-- A property is added where its number has a row.
use Rattle.std.proofs.Common.{ap, ◌∙◌, is_some}
use Rattle.ec_exclusive.specs.Neighbours.{Neighbourhoods}
use Rattle.ec_exclusive.proofs.RowLemmas.{is_some-row, are_ascending-rows, is_some-copied}
use Rattle.ec_exclusive.proofs.neighbours.Neighbours.is_added.Goals as goal

pub returns-clause-added : goal.returns-clause-added
returns-clause-added c =
    c.is_some.ensures ∙ is_some-copied c.get.result ∙ ap is_some c.get.ensures
    ∙ is_some-row c.self.inside.rows c.args.self.now.rows c.args.p (ap (λ (v : Neighbourhoods). v.rows) c.self.view_is)

pub returns-clause-order : goal.returns-clause-order
returns-clause-order c = are_ascending-rows c.self.inside.rows c.args.self.now.rows (ap (λ (v : Neighbourhoods). v.rows) c.self.view_is)
