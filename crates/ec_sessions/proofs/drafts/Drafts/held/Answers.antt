-- A kept draft holds no more than it may.
use Rattle.std.proofs.Common.{arith}
use Rattle.ec_sessions.proofs.DraftLists.{held-few}
use Rattle.ec_sessions.proofs.drafts.Drafts.held.Goals as goal

pub returns-in-Some-clause-few : goal.returns-in-Some-clause-few
returns-in-Some-clause-few g c =
    let few = held-few g.T.Moment.rank c.self.inside.places.items c.args.session c.index.result.now c.in-Some.held c.self.invariant c.requires c.index.ensures c.in-Some.is in
    grind (arith, few, c.as_slice.ensures)
