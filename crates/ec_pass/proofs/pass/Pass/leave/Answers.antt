-- What settled is what is current at the next instant, and what is known there follows.
use Rattle.std.proofs.Common.{refl, ap, ◌∙◌}
use Rattle.std.specs.Ordering.{is_lt}
use Rattle.ec_pass.specs.declared.pass.Pass.{Pass}
use Rattle.ec_pass.proofs.Earlier.{is_lt-int_cmp}
use Rattle.ec_pass.proofs.PassingLemmas.{IsPassing-left, looked_up-by}
use Rattle.ec_pass.proofs.pass.Pass.leave.Goals as goal

pub returns-clause-passing : goal.returns-clause-passing
returns-clause-passing g c events done left q passing coming =
    let after : Pass g.row.T.Denot = record {
      p = c.args.self.now.p;
      at = c.args.self.now.at;
      instant = c.args.next;
      present = c.settle.new.self;
      holding = c.look_up-self.result;
    } in
    IsPassing-left g.T.Moment.rank c.args.theory.now events done left q c.args.self.now passing after c.requires.later coming
    c.in_ok-settle.ensures.members c.in_ok-settle.ensures.forms c.in_ok-settle.ensures.props c.in_ok-settle.ensures.started c.in_ok-settle.ensures.ended refl refl
    (c.look_up-self.ensures
    ∙ looked_up-by c.judged-judged.result _ c.is_lt-reached.result _ c.contains.result _ (c.judged-judged.ensures q passing.number)
    (c.is_lt-reached.ensures ∙ ap is_lt c.order.ensures.order ∙ is_lt-int_cmp (g.T.Moment.rank c.args.next) (g.T.Moment.rank c.args.self.now.at))
    c.contains.ensures)
