-- The event file was read, and then its events, or it was not.
use Rattle.std.proofs.Common.{◌≡◌, ℕ, Bool, List, Ok, subst}
use Rattle.ec_replies.specs.Replies.{Language}
use Rattle.ec_store.specs.Store.{history_of}
use Rattle.ec_cert.specs.EventFile.{event_file}
use Rattle.ec_files.specs.ShownShape.{plain_claim}
use Rattle.ec_files.proofs.Claims.{IsReason-lines}
use Rattle.ec_files.proofs.answering.read_claimed.Goals as goal

pub returns-in-Err-clause-reason : goal.returns-in-Err-clause-reason
returns-in-Err-clause-reason g c = λ t.
    IsReason-lines (g.F.Folder.files c.args.files.now) (record { theory = c.args.checked; spelt = g.T.Moment.spelt; canon = g.T.Moment.canon }) (plain_claim c.args.claim.now) t
    (g.F.Folder.faults c.args.files.now) (g.F.Folder.faults c.read_lines.new.files) c.in-Err.reason c.in-Err.ensures.reason

pub returns-in-Ok-read_events-clause-events : goal.returns-in-Ok-read_events-clause-events
returns-in-Ok-read_events-clause-events g c =
    let language : Language = record { theory = c.args.checked; spelt = g.T.Moment.spelt; canon = g.T.Moment.canon } in
    record {
      lines = c.in-Ok.lines.items;
      file = c.in-Ok.ensures.bytes;
      read =
          subst (λ (all : Bool). event_file language all c.in-Ok.lines.items ≡ Ok (history_of g.T.Moment.rank c.in-Ok-read_events.file.store.events)) c.keeps_all_limits.ensures
          (subst (λ (bytes : List ℕ). event_file language c.keeps_all_limits.result bytes ≡ Ok (history_of g.T.Moment.rank c.in-Ok-read_events.file.store.events)) c.deref.ensures.value
          c.in-Ok-read_events.ensures.events);
    }
