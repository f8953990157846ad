-- Where all that hold had room, their list is what is to be written.
use Rattle.std.proofs.Common.{All, IsSome, map, refl, ap, sym, subst, ◌∙◌}
use Rattle.std.specs.Prelude.{List}
use Rattle.ec_terms.specs.declared.ids.PropId.{PropId}
use Rattle.ec_store.specs.Table.{number_of, prop_at}
use Rattle.ec_query.specs.Holding.{held_numbers, number_text}
use Rattle.ec_query.specs.Members.{members_text}
use Rattle.ec_query.proofs.HoldingLemmas.{held_numbers-kept}
use Rattle.ec_query.proofs.ListedLemmas.{Lists-whole}
use Rattle.ec_query.proofs.WritingLemmas.{OnErr-renamed, OnOk-renamed}
use Rattle.ec_query.proofs.property_reply.write_listed.Goals as goal

pub write_members-requires : goal.write_members-requires
write_members-requires g c =
    let rank = g.T.Moment.rank in
    let table = c.args.held.now.props.now in
    let intervals = c.args.held.now.intervals.now in
    let t = rank c.args.at in
    let numbers = held_numbers rank intervals t (map number_of table) in
    subst (λ (ps : List PropId). All (λ (p : PropId). IsSome (prop_at p.0 table)) ps)
    (sym (c.in-Some.ensures.first ∙ Lists-whole c.args.list.now numbers c.requires (c.in-Some.ensures.some.0 refl)))
    (held_numbers-kept rank table intervals t c.len.ensures.numbers)

pub returns-in-Some-clause-written : goal.returns-in-Some-clause-written
returns-in-Some-clause-written g c =
    let rank = g.T.Moment.rank in
    let table = c.args.held.now.props.now in
    let numbers = held_numbers rank c.args.held.now.intervals.now (rank c.args.at) (map number_of table) in
    OnOk-renamed g.K.Sink.stands c.args.out.now c.write_members.new.out c.write_members.result
    (ap (members_text (number_text table)) (c.in-Some.ensures.first ∙ Lists-whole c.args.list.now numbers c.requires (c.in-Some.ensures.some.0 refl)))
    c.write_members.ensures.written

pub returns-in-Some-clause-part : goal.returns-in-Some-clause-part
returns-in-Some-clause-part g c =
    let rank = g.T.Moment.rank in
    let table = c.args.held.now.props.now in
    let numbers = held_numbers rank c.args.held.now.intervals.now (rank c.args.at) (map number_of table) in
    OnErr-renamed g.K.Sink.stands c.args.out.now c.write_members.new.out c.write_members.result
    (ap (members_text (number_text table)) (c.in-Some.ensures.first ∙ Lists-whole c.args.list.now numbers c.requires (c.in-Some.ensures.some.0 refl)))
    c.write_members.ensures.part
