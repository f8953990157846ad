-- Nothing is touched.
use Rattle.std.proofs.Common.{sym, ap, ◌∙◌}
use Rattle.std.specs.Prelude.{bytes_eq}
use Rattle.std.specs.Map.{lookup}
use Rattle.std.proofs.lemmas.List.{length-map}
use Rattle.ec_store.specs.Store.{plain_of}
use Rattle.ec_parts.specs.StandFor.{view_of}
use Rattle.ec_batch.proofs.Attempts.{HasWalkedTo-start}
use Rattle.ec_batch.proofs.attempting.start.Goals as goal

pub returns-clause-walked : goal.returns-clause-walked
returns-clause-walked g c =
    HasWalkedTo-start g.T.Moment.rank c.args.parts.now.checked (view_of c.args.parts.now) c.args.tally.now _ c.requires.stand c.requires.within
    (λ id. ap (λ es. lookup (bytes_eq id) es) c.new.ensures.empty)
    (c.len.ensures.len ∙ sym (length-map c.args.parts.now.store.events (plain_of g.T.Moment.rank)))
