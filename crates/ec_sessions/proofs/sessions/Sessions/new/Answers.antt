-- Before the first line there is no event, no past, no change and no open draft.
use Rattle.std.proofs.Common.{List, ap₂}
use Rattle.ec_past.specs.Chronicles.{PlainChronicle}
use Rattle.ec_replies.specs.State.{Draft, empty_state, no_change}
use Rattle.ec_sessions.specs.SessionsState.{kept_state}
use Rattle.ec_sessions.proofs.sessions.Sessions.new.Goals as goal

pub returns-clause-empty : goal.returns-clause-empty
unfolding empty_state
returns-clause-empty g c =
    ap₂ (λ (s : PlainChronicle) (ds : List Draft). kept_state s.events s.past no_change ds) c.in_ok-chronicle.ensures c.in_ok-drafts.ensures
