-- Each change finds the room that is kept for it.
use Rattle.std.proofs.Common.{arith}
use Rattle.ec_points.proofs.NotedChanges.{IsNoted-none, IsNoted-more, room-noted, has-noted, room-left}
use Rattle.ec_points.proofs.noted.note_changes.Goals as goal

pub loop-i-init : goal.loop-i-init
loop-i-init g c = record { noted = IsNoted-none g.T.Moment.rank c.args.change.now c.args.noted.now.items c.args.noted.now.spare; known = tt }

pub note-known-requires-clause-room : goal.note-known-requires-clause-room
note-known-requires-clause-room g c =
    room-noted g.T.Moment.rank c.args.change.now c.loop-i.i c.args.noted.now.items c.loop-i.noted.items c.args.noted.now.spare c.loop-i.noted.spare
    c.get.result.now c.get.ensures c.loop-i.invariant.noted c.requires

pub loop-i-preserved : goal.loop-i-preserved
loop-i-preserved g c =
    record {
      noted = IsNoted-more g.T.Moment.rank c.args.change.now c.loop-i.i c.args.noted.now.items c.loop-i.noted.items c.args.noted.now.spare c.loop-i.noted.spare
          c.get.result.now c.get.ensures c.loop-i.invariant.noted c.len-i-end.ensures.apart c.note-known.new.noted.items c.note-known.new.noted.spare c.note-known.ensures.has c.note-known.ensures.spare;
      known = c.note-known.ensures.known;
    }

pub returns-clause-has : goal.returns-clause-has
returns-clause-has g c =
    has-noted g.T.Moment.rank c.args.change.now c.loop-i.i c.args.noted.now.items c.loop-i.noted.items c.args.noted.now.spare c.loop-i.noted.spare
    c.loop-i.invariant.noted (omega (arith, c.loop-i-test.false, c.len-i-end.ensures.len))

pub returns-clause-spare : goal.returns-clause-spare
returns-clause-spare g c =
    room-left g.T.Moment.rank c.args.change.now c.loop-i.i c.args.noted.now.items c.loop-i.noted.items c.args.noted.now.spare c.loop-i.noted.spare
    c.loop-i.invariant.noted (omega (arith, c.loop-i-test.false, c.len-i-end.ensures.len))
