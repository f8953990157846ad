-- There is room for one update more, and the latest are kept.
use Rattle.std.proofs.Common.{◌+◌, ℕ, List, ◌∷◌, map, sym, ap, ◌∙◌, arith}
use Rattle.ec_commands.specs.declared.limits.TheConstants.{MOST_PAST}
use Rattle.ec_past.specs.Journals.{PlainJournal, latest_within, with_records}
use Rattle.ec_past.specs.Logged.{plain_record, plain_records}
use Rattle.ec_past.specs.Records.{PlainRecord}
use Rattle.ec_past.proofs.Windows.{length-weights_of, latest_within-map}
use Rattle.ec_past.proofs.journal.Journal.settle.Goals as goal

pub push_front_reserved-requires : goal.push_front_reserved-requires
push_front_reserved-requires g c =
    let few = length-weights_of c.self.inside.kept.items in
    let counted = c.self.inside.kept.ok in
    let inside = c.self.invariant in
    omega (arith, few, counted.0, inside.weighs, inside.few, inside.room)

pub returns : goal.returns
returns g c =
    let rank = g.T.Moment.rank in
    let latest = c.drop_oldest-self-inside.ensures.kept ∙ ap (latest_within MOST_PAST) c.push_front_reserved.ensures.items in
    ap (journal c.self.inside.count) (ap (map (plain_records rank)) latest ∙ sym (latest_within-map (plain_record rank) MOST_PAST (c.args.records ∷ c.self.inside.kept.items)))
    ∙ ap (with_records (plain_records rank c.args.records)) c.self.view_is
  where
    journal : ℕ → List (List PlainRecord) → PlainJournal
    journal count kept = record { count = count + 1; kept = kept }
