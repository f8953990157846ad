-- What is settled by numbers is settled by terms.
use Rattle.std.proofs.Common.{◌≡◌, ◌*◌, ◌≤◌, ℤ, ◌+ℤ◌, ◌<ℤ◌, pos, length, arith}
use Rattle.std.proofs.lemmas.Int.{ints}
use Rattle.ec_axioms.specs.declared.limits.TheConstants.{MOST_MENTIONS}
use Rattle.ec_store.specs.Store.{history_of}
use Rattle.ec_parts.specs.StandFor.{view_of}
use Rattle.ec_sweep.proofs.Oks.{then_ok}
use Rattle.ec_sweep.proofs.SettledTerms.{added-rows, has_settled, room}
use Rattle.ec_sweep.proofs.TurnedTerms.{AreShown-added, length-turns_few}
use Rattle.ec_sweep.proofs.settle_all.settle_all.Goals as goal

-- a whole number comes before the next
before-next : (r t : ℤ) → t ≡ r +ℤ pos 1 → r <ℤ t
before-next r t next = omega (arith, ints)

pub tally_of-requires-clause-few : goal.tally_of-requires-clause-few
tally_of-requires-clause-few g c =
    let few : length c.args.turns.now ≤ 4 * MOST_MENTIONS =
    length-turns_few c.args.parts.now.checked (history_of g.T.Moment.rank c.args.parts.now.store.events) c.requires.may_settle.new (g.T.Moment.rank c.args.at)
    c.args.parts.now.props c.args.parts.now.neighbours.rows c.args.turns.now c.requires.may_settle.plains c.requires.may_settle.can.turned c.requires.may_settle.can.turns_at
    c.requires.may_settle.can.underway.few_old c.requires.may_settle.can.underway.few_new in
    omega (arith, few)

pub tally_of-requires-clause-added : goal.tally_of-requires-clause-added
tally_of-requires-clause-added g c =
    AreShown-added c.args.parts.now.props c.args.parts.now.neighbours.rows c.args.turns.now c.requires.may_settle.plains c.requires.may_settle.can.turned

pub settle_rows-settled-requires-clause-added : goal.settle_rows-settled-requires-clause-added
settle_rows-settled-requires-clause-added g c =
    added-rows g.T.Moment.rank c.args.parts.now.checked c.requires.may_settle.new (view_of c.args.parts.now) c.requires.may_settle.tally c.requires.may_settle.change c.requires.may_settle.r c.args.at
    c.args.dirty.now c.requires.may_settle.agenda c.args.agenda.now c.args.due.now c.args.turns.now c.requires.may_settle.plains c.requires.may_settle.looked c.args.planned.now c.requires.may_settle.active
    c.requires.may_settle.can c.len.ensures.order c.len.ensures.numbers c.len-2.ensures.slots c.in_ok-tally.tally c.in_ok-tally.ensures.tallied c.in_ok-tally.ensures.rows

pub settle_rows-settled-requires-clause-room : goal.settle_rows-settled-requires-clause-room
settle_rows-settled-requires-clause-room g c =
    room g.T.Moment.rank c.args.parts.now.checked c.requires.may_settle.new (view_of c.args.parts.now) c.requires.may_settle.tally c.requires.may_settle.change c.requires.may_settle.r c.args.at
    c.args.dirty.now c.requires.may_settle.agenda c.args.agenda.now c.args.due.now c.args.turns.now c.requires.may_settle.plains c.requires.may_settle.looked c.args.planned.now c.requires.may_settle.active
    c.requires.may_settle.can c.len.ensures.order c.len.ensures.numbers c.len-2.ensures.slots c.in_ok-tally.tally c.in_ok-tally.ensures.tallied c.in_ok-tally.ensures.rows

pub returns : goal.returns
returns g c =
    then_ok c.settle_rows-settled.result
    (λ settles. λ new tally change r before plains looked active can.
    has_settled g.T.Moment.rank c.args.parts.now.checked new (view_of c.args.parts.now) tally change r c.args.at
    c.args.dirty.now before c.args.agenda.now c.args.due.now c.args.turns.now plains looked c.args.planned.now active
    can c.len.ensures.order c.len.ensures.numbers c.len-2.ensures.slots c.in_ok-tally.tally c.in_ok-tally.ensures.tallied c.in_ok-tally.ensures.rows
    (record { dirty = c.settle_rows-settled.new.dirty; agenda = c.settle_rows-settled.new.agenda; planned = c.settle_rows-settled.new.planned }) settles)
    c.settle_rows-settled.ensures

pub settle_rows-settled-requires-clause-marks_free : goal.settle_rows-settled-requires-clause-marks_free
settle_rows-settled-requires-clause-marks_free g c = λ n. c.requires.may_settle.can.planned_up_to.none_yet n (g.T.Moment.rank c.args.at) (before-next _ _ c.requires.may_settle.can.next)

pub settle_rows-settled-requires-clause-initiations_free : goal.settle_rows-settled-requires-clause-initiations_free
settle_rows-settled-requires-clause-initiations_free g c = λ n. c.requires.may_settle.can.planned_up_to.not_yet n (g.T.Moment.rank c.args.at) (before-next _ _ c.requires.may_settle.can.next)
