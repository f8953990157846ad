-- It is written where it is not found.
use Rattle.std.proofs.Common.{◌∷◌, [], refl, sym, ap, ◌∙◌, append-nil, true, false}
use Rattle.ec_commands.specs.QueryTexts.{interval_text}
use Rattle.ec_intervals.specs.Table.{plain_interval, plain_intervals}
use Rattle.ec_query.specs.Members.{members_text}
use Rattle.ec_query.proofs.WritingLemmas.{IsLeft-start, IsLeft-end, OnErr-renamed, OnOk-renamed}
use Rattle.ec_replies.specs.Notes.{missing_from}
use Rattle.ec_compare.proofs.Found.{missing-one}
use Rattle.ec_compare.proofs.missing.write_one.Goals as goal

pub returns-then-contains-clause-written : goal.returns-then-contains-clause-written
returns-then-contains-clause-written g c = λ row.
    let those = plain_intervals g.T.Moment.rank (g.B.Listed.members c.args.those.now) in
    let interval = plain_interval g.T.Moment.rank c.args.interval in
    let text = members_text (interval_text g.T.Moment.canon) (missing_from those (interval ∷ [])) in
    IsLeft-end (IsLeft-start {faults = g.K.Sink.faults} c.args.out.now text text refl)
    (ap (members_text (interval_text g.T.Moment.canon)) (missing-one those interval true (sym c.if-contains.true ∙ c.contains.ensures row)))

pub returns-clause-written : goal.returns-clause-written
returns-clause-written g c = λ row.
    let those = plain_intervals g.T.Moment.rank (g.B.Listed.members c.args.those.now) in
    let interval = plain_interval g.T.Moment.rank c.args.interval in
    OnOk-renamed g.K.Sink.stands c.args.out.now c.write_all.new.out c.write_all.result
    (c.as_bytes.ensures ∙ c.set_interval.ensures ∙ sym (append-nil (32 ∷ interval_text g.T.Moment.canon interval))
    ∙ sym (ap (members_text (interval_text g.T.Moment.canon)) (missing-one those interval false (sym c.if-contains.false ∙ c.contains.ensures row))))
    c.write_all.ensures.written

pub returns-clause-part : goal.returns-clause-part
returns-clause-part g c = λ row.
    let those = plain_intervals g.T.Moment.rank (g.B.Listed.members c.args.those.now) in
    let interval = plain_interval g.T.Moment.rank c.args.interval in
    OnErr-renamed g.K.Sink.stands c.args.out.now c.write_all.new.out c.write_all.result
    (c.as_bytes.ensures ∙ c.set_interval.ensures ∙ sym (append-nil (32 ∷ interval_text g.T.Moment.canon interval))
    ∙ sym (ap (members_text (interval_text g.T.Moment.canon)) (missing-one those interval false (sym c.if-contains.false ∙ c.contains.ensures row))))
    c.write_all.ensures.part
