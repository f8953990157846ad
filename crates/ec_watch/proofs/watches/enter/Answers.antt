-- The row comes in between those below and those above.
use Rattle.std.proofs.Common.{arith, rules}
use Rattle.ec_watch.proofs.Cuts.{entered_at, has_property-free, room_at}
use Rattle.ec_terms.specs.Term.{ground_of}
use Rattle.ec_watch.proofs.watches.enter.Goals as goal

pub returns-then-count-ge-MOST_WATCHED-clause-refused : goal.returns-then-count-ge-MOST_WATCHED-clause-refused
returns-then-count-ge-MOST_WATCHED-clause-refused c = (has_property-free (ground_of c.args.p.now) c.args.session c.args.rows.now.items c.args.place c.requires.free, search rules)

pub unreachable-requires : goal.unreachable-requires
unreachable-requires c =
    let done = entered_at (ground_of c.args.p.now) c.args.session c.args.rows.now.items c.args.place c.new.result c.requires.session c.requires.free c.new.ensures.prop c.new.ensures.sessions c.requires.rows (grind arith) in
    let room = room_at (ground_of c.args.p.now) c.args.session c.args.rows.now.items c.args.place c.new.result done in grind (arith, room)

pub returns-clause-capacity : goal.returns-clause-capacity
returns-clause-capacity c = grind arith

pub returns-clause-ok : goal.returns-clause-ok
returns-clause-ok c =
    let done = entered_at (ground_of c.args.p.now) c.args.session c.args.rows.now.items c.args.place c.new.result c.requires.session c.requires.free c.new.ensures.prop c.new.ensures.sessions c.requires.rows (grind arith) in grind (arith, done)
