-- First the new properties, then those that may have died.
use Rattle.std.proofs.Common.{refl, sym, subst}
use Rattle.ec_numbered.specs.PropSet.{has_number}
use Rattle.ec_parts.specs.StandFor.{StandFor, StandForBoth, view_of}
use Rattle.ec_batch.proofs.Moved.{AreLiveOrListed-moved}
use Rattle.ec_engine.proofs.carrying.forget_listed.Goals as goal

pub forget_idle-requires-2 : goal.forget_idle-requires-2
forget_idle-requires-2 g c = record {
  events = c.requires.stand.events;
  tally = c.requires.stand.tally;
  both = subst (λ t. StandForBoth g.T.Moment.rank t c.requires.stand.events c.requires.stand.events (view_of c.forget_idle.new.parts) c.requires.stand.tally) (sym c.forget_idle.ensures.theory)
      (c.forget_idle.ensures.unlisted c.requires.stand.events c.requires.stand.tally c.requires.stand.both).0;
}

pub returns-clause-stands : goal.returns-clause-stands
returns-clause-stands g c events tally stand listed =
    let rank = g.T.Moment.rank in
    let theory = c.args.parts.now.checked in
    let mid = c.forget_idle.new.parts in
    let first = c.forget_idle.ensures.unlisted events tally stand in
    let left = first.1 (λ id. has_number id c.args.dying.now) listed in
    let last = c.forget_idle-2.ensures.stands events tally (subst (λ t. StandForBoth rank t events events (view_of mid) tally) (sym c.forget_idle.ensures.theory) first.0)
    (AreLiveOrListed-moved theory mid.checked events mid.props mid.props _ c.forget_idle.ensures.theory refl left) in
    subst (λ t. StandFor rank t events (view_of c.forget_idle-2.new.parts) tally) c.forget_idle.ensures.theory last
