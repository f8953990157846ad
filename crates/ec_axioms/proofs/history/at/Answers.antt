-- Of what is not before the time, what is not after it stands in front.
use Rattle.std.specs.Prelude.{int_le, IsTrue}
use Rattle.std.proofs.lemmas.List.Sorted.{IsPartitionPoint-from_clause}
use Rattle.std.proofs.Common.{◌≡◌, sym, subst, ap, ◌∙◌, map, filter, arith}
use Rattle.std.proofs.lemmas.Grind.{common_steps}
use Rattle.ec_axioms.specs.Changes.{is_history}
use Rattle.ec_axioms.specs.Events.{event_of}
use Rattle.ec_axioms.specs.Plain.{events_from}
use Rattle.ec_axioms.proofs.OrderedEvents.{IsPartitionedBy-up_to, is_history-filter, filter-front, events_at-from}
use Rattle.ec_axioms.proofs.history.at.Goals as goal

pub returns : goal.returns
returns g c =
    let plain = event_of g.T.Moment.rank in
    let t = g.T.Moment.rank c.args.at in
    let events = c.args.events.now in
    let rest = c.from-rest.result.now in
    let is_rest : map plain rest ≡ events_from t (map plain events) = c.from-rest.ensures in
    let ordered : IsTrue (is_history (map plain rest)) =
    subst (λ es. IsTrue (is_history es)) (sym is_rest) (is_history-filter (λ e. int_le t e.rank) (map plain events) c.requires.ordered) in
    let parted = IsPartitionedBy-up_to plain rest t ordered in
    let point = IsPartitionPoint-from_clause (λ e. int_le (plain e).rank t) _ _ c.partition_point-end.ensures.partitioned parted (λ a r q k. grind (arith, common_steps)) in
    sym (filter-front plain (λ e. int_le e.rank t) rest c.partition_point-end.result point)
    ∙ ap (filter (λ e. int_le e.rank t)) is_rest
    ∙ events_at-from t (map plain events)
