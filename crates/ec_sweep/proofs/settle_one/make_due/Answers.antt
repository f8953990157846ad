-- The property is due at the next time.
use Rattle.std.proofs.Common.{arith}
use Rattle.std.proofs.lemmas.Grind.{common_steps}
use Rattle.ec_sweep.proofs.AddedDues.{has_due-added}
use Rattle.ec_sweep.proofs.SettledNumbers.{AddsDue-next, IsDueWithin-next}
use Rattle.ec_sweep.proofs.settle_one.make_due.Goals as goal

pub returns-in_ok-add-clause-adds : goal.returns-in_ok-add-clause-adds
returns-in_ok-add-clause-adds g c =
    AddsDue-next g.T.Moment.rank c.args.parts.now.points c.args.parts.now.entries.slots c.args.at c.args.p c.in-Some.next c.args.agenda.now c.add.new.self
    (λ n u. has_due-added g.T.Moment.rank (c.in-Some.next, c.args.p) u n c.args.agenda.now c.add.new.self c.in_ok-add.ensures.there c.in_ok-add.ensures.ok)
    c.in-Some.ensures.some

pub returns-in_ok-add-clause-due : goal.returns-in_ok-add-clause-due
returns-in_ok-add-clause-due g c = λ u later bears.
    IsDueWithin-next g.T.Moment.rank c.args.parts.now.points c.args.parts.now.entries.slots c.args.at c.args.p c.in-Some.next c.args.agenda.now c.add.new.self
    (λ n v. has_due-added g.T.Moment.rank (c.in-Some.next, c.args.p) v n c.args.agenda.now c.add.new.self c.in_ok-add.ensures.there c.in_ok-add.ensures.ok)
    c.in-Some.ensures.some u (c.in-Some.ensures.least u later bears)

pub returns-in_default-clause-adds : goal.returns-in_default-clause-adds
returns-in_default-clause-adds c = grind (arith, common_steps)

pub returns-in_default-clause-due : goal.returns-in_default-clause-due
returns-in_default-clause-due c = grind (arith, common_steps)
