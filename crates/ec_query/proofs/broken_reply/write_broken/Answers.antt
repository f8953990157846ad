-- The count and the members follow one another.
use Rattle.std.proofs.Common.{◌≡◌, ◌++◌, length, map, refl, ap, ◌∙◌, arith}
use Rattle.std.proofs.lemmas.Grind.{common_steps}
use Rattle.std.specs.Prelude.{decimal}
use Rattle.ec_axioms.specs.Marks.{broken_spans_of}
use Rattle.ec_commands.specs.QueryTexts.{broken_text, counted_text}
use Rattle.ec_rows.specs.PlainMarks.{plain_marks}
use Rattle.ec_query.specs.Members.{members_text}
use Rattle.ec_query.proofs.WritingLemmas.{IsLeft-start, IsLeft-next, IsLeft-last, IsLeft-last_part, counted_text-of}
use Rattle.ec_query.proofs.broken_reply.write_broken.Goals as goal

pub returns-clause-written : goal.returns-clause-written
returns-clause-written g c = λ few.
    let text = broken_text g.T.Moment.canon in
    let all = broken_spans_of (plain_marks g.T.Moment.rank (g.M.MarkRow.marks c.args.row.now)) c.args.strong c.args.is_initial in
    let count : length all ≡ c.count_broken.result = omega (arith, few, c.count_broken.ensures) in
    IsLeft-last c.write_members.new.out c.write_members.result (members_text text all)
    (IsLeft-next (decimal c.count_broken.result) (members_text text all)
    (IsLeft-start {faults = g.K.Sink.faults} c.args.out.now (counted_text (map text all)) (decimal c.count_broken.result ++ members_text text all)
    (counted_text-of text all ∙ ap (λ n. decimal n ++ members_text text all) count))
    refl c.in_ok-write_count.ensures.written c.in_ok-write_count.ensures.quiet)
    refl c.write_members.ensures.written

pub returns-clause-part : goal.returns-clause-part
returns-clause-part g c = λ few.
    let text = broken_text g.T.Moment.canon in
    let all = broken_spans_of (plain_marks g.T.Moment.rank (g.M.MarkRow.marks c.args.row.now)) c.args.strong c.args.is_initial in
    let count : length all ≡ c.count_broken.result = omega (arith, few, c.count_broken.ensures) in
    IsLeft-last_part c.write_members.new.out c.write_members.result (members_text text all)
    (IsLeft-next (decimal c.count_broken.result) (members_text text all)
    (IsLeft-start {faults = g.K.Sink.faults} c.args.out.now (counted_text (map text all)) (decimal c.count_broken.result ++ members_text text all)
    (counted_text-of text all ∙ ap (λ n. decimal n ++ members_text text all) count))
    refl c.in_ok-write_count.ensures.written c.in_ok-write_count.ensures.quiet)
    refl c.write_members.ensures.part

pub returns-in_err-write_count-clause-part : goal.returns-in_err-write_count-clause-part
returns-in_err-write_count-clause-part c = grind (arith, common_steps)

pub returns-clause-failed : goal.returns-clause-failed
returns-clause-failed c = grind (arith, common_steps)

pub returns-clause-quiet : goal.returns-clause-quiet
returns-clause-quiet c = grind (arith, common_steps)
