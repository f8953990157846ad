-- In the zone are those that pass, and no others.
use Rattle.std.proofs.Common.{filter, sym, ap, ◌∙◌, arith}
use Rattle.std.proofs.lemmas.List.{length-map}
use Rattle.ec_commands.specs.Relations.{stands_in}
use Rattle.ec_intervals.specs.Table.{members_at, plain_interval, plain_intervals}
use Rattle.ec_query.proofs.WritingLemmas.{OnErr-renamed, OnOk-renamed}
use Rattle.ec_compare.specs.Stretches.{front_text, fronted_text}
use Rattle.ec_compare.proofs.Loops.{OnOk-anyway}
use Rattle.ec_compare.proofs.Walks.{ahead-first}
use Rattle.ec_compare.proofs.Zones.{ends_ahead, few-filtered, zone-after, zone-before}
use Rattle.ec_compare.proofs.standing.write_standing.Goals as goal

pub write_zone-requires : goal.write_zone-requires
write_zone-requires g c =
    record {
      within = few-filtered (ends_ahead (plain_interval g.T.Moment.rank c.args.left.now)) (plain_interval g.T.Moment.rank) (members_at c.args.id.0 c.args.intervals.now) c.count_ended.result c.count_ended.ensures;
    }

pub returns-in-After-clause-written : goal.returns-in-After-clause-written
returns-in-After-clause-written g c = λ row few.
    let left = plain_interval g.T.Moment.rank c.args.left.now in
    let all = plain_intervals g.T.Moment.rank (members_at c.args.id.0 c.args.intervals.now) in
    OnOk-renamed g.K.Sink.stands c.args.out.now c.write_zone.new.out c.write_zone.result
    (ap (fronted_text (front_text c.args.shown g.T.Moment.canon left) g.T.Moment.canon)
    (zone-after left all row c.count_ended.result c.count_ended.ensures ∙ ap (λ r. filter (stands_in r left) all) (sym c.in-After.is)))
    c.write_zone.ensures.written

pub returns-in-After-clause-part : goal.returns-in-After-clause-part
returns-in-After-clause-part g c = λ row few.
    let left = plain_interval g.T.Moment.rank c.args.left.now in
    let all = plain_intervals g.T.Moment.rank (members_at c.args.id.0 c.args.intervals.now) in
    OnErr-renamed g.K.Sink.stands c.args.out.now c.write_zone.new.out c.write_zone.result
    (ap (fronted_text (front_text c.args.shown g.T.Moment.canon left) g.T.Moment.canon)
    (zone-after left all row c.count_ended.result c.count_ended.ensures ∙ ap (λ r. filter (stands_in r left) all) (sym c.in-After.is)))
    c.write_zone.ensures.part

pub returns-in-After-clause-from : goal.returns-in-After-clause-from
returns-in-After-clause-from g c = λ row few.
    let more = ahead-first (plain_interval g.T.Moment.rank c.args.left.now) c.requires.proper (plain_intervals g.T.Moment.rank (members_at c.args.id.0 c.args.intervals.now)) in
    OnOk-anyway c.write_zone.result (omega (arith, few, more))

pub returns-in-Before-clause-written : goal.returns-in-Before-clause-written
returns-in-Before-clause-written g c = λ row few.
    let left = plain_interval g.T.Moment.rank c.args.left.now in
    let members = members_at c.args.id.0 c.args.intervals.now in
    let all = plain_intervals g.T.Moment.rank members in
    OnOk-renamed g.K.Sink.stands c.args.out.now c.write_zone-in-Before.new.out c.write_zone-in-Before.result
    (ap (fronted_text (front_text c.args.shown g.T.Moment.canon left) g.T.Moment.canon)
    (zone-before left all row c.count_begun.result c.len.result c.count_begun.ensures (c.len.ensures ∙ sym (length-map members (plain_interval g.T.Moment.rank)))
    ∙ ap (λ r. filter (stands_in r left) all) (sym c.in-Before.is)))
    c.write_zone-in-Before.ensures.written

pub returns-in-Before-clause-part : goal.returns-in-Before-clause-part
returns-in-Before-clause-part g c = λ row few.
    let left = plain_interval g.T.Moment.rank c.args.left.now in
    let members = members_at c.args.id.0 c.args.intervals.now in
    let all = plain_intervals g.T.Moment.rank members in
    OnErr-renamed g.K.Sink.stands c.args.out.now c.write_zone-in-Before.new.out c.write_zone-in-Before.result
    (ap (fronted_text (front_text c.args.shown g.T.Moment.canon left) g.T.Moment.canon)
    (zone-before left all row c.count_begun.result c.len.result c.count_begun.ensures (c.len.ensures ∙ sym (length-map members (plain_interval g.T.Moment.rank)))
    ∙ ap (λ r. filter (stands_in r left) all) (sym c.in-Before.is)))
    c.write_zone-in-Before.ensures.part

pub returns-in-Before-clause-from : goal.returns-in-Before-clause-from
returns-in-Before-clause-from g c = λ row few.
    let more = ahead-first (plain_interval g.T.Moment.rank c.args.left.now) c.requires.proper (plain_intervals g.T.Moment.rank (members_at c.args.id.0 c.args.intervals.now)) in
    OnOk-anyway c.write_zone-in-Before.result (omega (arith, few, more))
