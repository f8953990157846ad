-- The parts of the settling of a property, put together.
use Rattle.std.proofs.Common.{sym, ◌∙◌, inl}
use Rattle.std.proofs.lemmas.Bool.{false≢true}
use Rattle.ec_sweep.proofs.SettledNumbers.{LeavesNumber-from, SettlesNumber-from}
use Rattle.ec_sweep.proofs.settle_one.settle_one.Goals as goal

pub returns-in_ok-make_due-clause-settles : goal.returns-in_ok-make_due-clause-settles
returns-in_ok-make_due-clause-settles g c =
    SettlesNumber-from g.T.Moment.rank c.args.parts.now.points c.args.parts.now.entries.slots c.args.at c.args.parts.now.neighbours c.args.p c.args.tallied.now
    c.read_old-old.result.mark c.read_old-old.result.current c.settle-settled.result
    (record { dirty = c.args.dirty.now; agenda = c.args.agenda.now; planned = c.args.planned.now })
    (record { dirty = c.set.new.self; agenda = c.make_due.new.agenda; planned = c.plan_mark.new.planned })
    c.read_old-old.ensures.mark c.read_old-old.ensures.current
    (record { mark_is = c.settle-settled.ensures.mark; changed = c.settle-settled.ensures.changed; dirty = c.settle-settled.ensures.dirty; matters = c.settle-settled.ensures.matters })
    c.in_ok-plan_mark.ensures c.in_ok-set.ensures.ok (λ u dirty later bears. c.in_ok-make_due.ensures.due u later bears)

pub returns-else-is_some-clause-settles : goal.returns-else-is_some-clause-settles
returns-else-is_some-clause-settles g c =
    SettlesNumber-from g.T.Moment.rank c.args.parts.now.points c.args.parts.now.entries.slots c.args.at c.args.parts.now.neighbours c.args.p c.args.tallied.now
    c.read_old-old.result.mark c.read_old-old.result.current c.settle-settled.result
    (record { dirty = c.args.dirty.now; agenda = c.args.agenda.now; planned = c.args.planned.now })
    (record { dirty = c.set.new.self; agenda = c.args.agenda.now; planned = c.plan_mark.new.planned })
    c.read_old-old.ensures.mark c.read_old-old.ensures.current
    (record { mark_is = c.settle-settled.ensures.mark; changed = c.settle-settled.ensures.changed; dirty = c.settle-settled.ensures.dirty; matters = c.settle-settled.ensures.matters })
    c.in_ok-plan_mark.ensures c.in_ok-set.ensures.ok
    (λ u dirty later bears. absurd (false≢true (sym (sym c.is_some.ensures ∙ c.if-is_some.false) ∙ dirty)))

pub returns-in_ok-make_due-clause-leaves : goal.returns-in_ok-make_due-clause-leaves
returns-in_ok-make_due-clause-leaves g c =
    LeavesNumber-from c.args.parts.now.neighbours c.args.p c.read_old-old.result.mark c.settle-settled.result
    (record { dirty = c.args.dirty.now; agenda = c.args.agenda.now; planned = c.args.planned.now })
    (record { dirty = c.set.new.self; agenda = c.make_due.new.agenda; planned = c.plan_mark.new.planned })
    c.in_ok-plan_mark.ensures c.in_ok-set.ensures.ok

pub returns-else-is_some-clause-leaves : goal.returns-else-is_some-clause-leaves
returns-else-is_some-clause-leaves g c =
    LeavesNumber-from c.args.parts.now.neighbours c.args.p c.read_old-old.result.mark c.settle-settled.result
    (record { dirty = c.args.dirty.now; agenda = c.args.agenda.now; planned = c.args.planned.now })
    (record { dirty = c.set.new.self; agenda = c.args.agenda.now; planned = c.plan_mark.new.planned })
    c.in_ok-plan_mark.ensures c.in_ok-set.ensures.ok

pub make_due-requires : goal.make_due-requires
make_due-requires g c = c.read_old-old.ensures.next

pub returns-else-is_some-clause-dues : goal.returns-else-is_some-clause-dues
returns-else-is_some-clause-dues g c = record { still = λ n u due. due; only = λ n u due. inl due }

pub returns-in_ok-make_due-clause-dues : goal.returns-in_ok-make_due-clause-dues
returns-in_ok-make_due-clause-dues g c = c.in_ok-make_due.ensures.adds
