-- What the numbers say is what holds, in term order.
use Rattle.std.proofs.Common.{◌++◌, length, map, refl, sym, ap, ◌∙◌, arith}
use Rattle.std.proofs.lemmas.Grind.{common_steps}
use Rattle.std.specs.Prelude.{decimal}
use Rattle.ec_lists.proofs.Results.{OnErr-anyway}
use Rattle.ec_store.specs.Table.{number_of}
use Rattle.ec_query.specs.Holding.{held_numbers, number_text}
use Rattle.ec_query.specs.Members.{members_text}
use Rattle.ec_query.proofs.HoldingLemmas.{at_reply-held}
use Rattle.ec_query.proofs.WritingLemmas.{IsLeft-start, IsLeft-next, IsLeft-part, IsLeft-last, IsLeft-last_part, OnErr-renamed, OnOk-renamed}
use Rattle.ec_query.proofs.property_reply.at.Goals as goal

pub returns-in_err-write_count-clause-part : goal.returns-in_err-write_count-clause-part
returns-in_err-write_count-clause-part g c = λ theory events held lists.
    let rank = g.T.Moment.rank in
    let table = c.args.held.now.props.now in
    let numbers = held_numbers rank c.args.held.now.intervals.now (rank c.args.at) (map number_of table) in
    OnErr-renamed g.K.Sink.stands c.args.out.now c.write_count.new.out c.from_residual.result
    (at_reply-held rank theory events table c.args.held.now.intervals.now held c.len.ensures.numbers (rank c.args.at) c.len.ensures.order lists)
    (OnErr-anyway c.from_residual.result
    (IsLeft-part (decimal c.count.result) (members_text (number_text table) numbers)
    (IsLeft-start {faults = g.K.Sink.faults} c.args.out.now (decimal (length numbers) ++ members_text (number_text table) numbers) (decimal c.count.result ++ members_text (number_text table) numbers)
    (ap (λ n. decimal n ++ members_text (number_text table) numbers) (sym (c.count.ensures ∙ c.list_held-list.ensures.count))))
    refl c.in_err-write_count.ensures.part))

pub returns-clause-written : goal.returns-clause-written
returns-clause-written g c = λ theory events held lists.
    let rank = g.T.Moment.rank in
    let table = c.args.held.now.props.now in
    let numbers = held_numbers rank c.args.held.now.intervals.now (rank c.args.at) (map number_of table) in
    OnOk-renamed g.K.Sink.stands c.args.out.now c.write_listed.new.out c.write_listed.result
    (at_reply-held rank theory events table c.args.held.now.intervals.now held c.len.ensures.numbers (rank c.args.at) c.len.ensures.order lists)
    (IsLeft-last c.write_listed.new.out c.write_listed.result (members_text (number_text table) numbers)
    (IsLeft-next (decimal c.count.result) (members_text (number_text table) numbers)
    (IsLeft-start {faults = g.K.Sink.faults} c.args.out.now (decimal (length numbers) ++ members_text (number_text table) numbers) (decimal c.count.result ++ members_text (number_text table) numbers)
    (ap (λ n. decimal n ++ members_text (number_text table) numbers) (sym (c.count.ensures ∙ c.list_held-list.ensures.count))))
    refl c.in_ok-write_count.ensures.written c.in_ok-write_count.ensures.quiet)
    refl c.write_listed.ensures.written)

pub returns-clause-part : goal.returns-clause-part
returns-clause-part g c = λ theory events held lists.
    let rank = g.T.Moment.rank in
    let table = c.args.held.now.props.now in
    let numbers = held_numbers rank c.args.held.now.intervals.now (rank c.args.at) (map number_of table) in
    OnErr-renamed g.K.Sink.stands c.args.out.now c.write_listed.new.out c.write_listed.result
    (at_reply-held rank theory events table c.args.held.now.intervals.now held c.len.ensures.numbers (rank c.args.at) c.len.ensures.order lists)
    (IsLeft-last_part c.write_listed.new.out c.write_listed.result (members_text (number_text table) numbers)
    (IsLeft-next (decimal c.count.result) (members_text (number_text table) numbers)
    (IsLeft-start {faults = g.K.Sink.faults} c.args.out.now (decimal (length numbers) ++ members_text (number_text table) numbers) (decimal c.count.result ++ members_text (number_text table) numbers)
    (ap (λ n. decimal n ++ members_text (number_text table) numbers) (sym (c.count.ensures ∙ c.list_held-list.ensures.count))))
    refl c.in_ok-write_count.ensures.written c.in_ok-write_count.ensures.quiet)
    refl c.write_listed.ensures.part)

pub returns-clause-failed : goal.returns-clause-failed
returns-clause-failed c = grind (arith, common_steps)

pub returns-in_err-write_count-clause-failed : goal.returns-in_err-write_count-clause-failed
returns-in_err-write_count-clause-failed c = grind (arith, common_steps)

pub returns-clause-quiet : goal.returns-clause-quiet
returns-clause-quiet c = grind (arith, common_steps)
