-- Each number is the next of what is left.
use Rattle.std.proofs.Common.{◌+◌, ◌∷◌, [], ◌++◌, drop, get_or, ap, sym, ◌∙◌, append-nil, arith}
use Rattle.std.proofs.lemmas.Grind.{common_steps}
use Rattle.std.proofs.lemmas.Option.{slice_get-get_or}
use Rattle.ec_lists.proofs.Results.{OnErr-anyway}
use Rattle.ec_terms.specs.declared.ids.PropId.{PropId}
use Rattle.ec_query.specs.Holding.{number_text}
use Rattle.ec_query.specs.Members.{members_text}
use Rattle.ec_query.proofs.WritingLemmas.{IsLeft-next, IsLeft-part, members_text-next}
use Rattle.ec_query.proofs.property_reply.write_members.Goals as goal

pub returns-in_err-write_member-clause-part : goal.returns-in_err-write_member-clause-part
returns-in_err-write_member-clause-part g c =
    let item : PropId = get_or c.args.numbers.now c.loop-p.p-index (record { 0 = 0 }) in
    let text = number_text c.args.props.now in
    let behind = drop (c.loop-p.p-index + 1) c.args.numbers.now in
    OnErr-anyway c.from_residual.result
    (IsLeft-part (members_text text (item ∷ [])) (members_text text behind) c.loop-p.invariant
    (members_text-next text c.args.numbers.now c.loop-p.p-index item (slice_get-get_or c.args.numbers.now c.loop-p.p-index (record { 0 = 0 }) (omega arith))
    ∙ ap (λ bytes. bytes ++ members_text text behind) (sym (append-nil (32 ∷ text item))))
    c.in_err-write_member.ensures.part)

pub loop-p-preserved : goal.loop-p-preserved
loop-p-preserved g c =
    let item : PropId = get_or c.args.numbers.now c.loop-p.p-index (record { 0 = 0 }) in
    let text = number_text c.args.props.now in
    let behind = drop (c.loop-p.p-index + 1) c.args.numbers.now in
    IsLeft-next (members_text text (item ∷ [])) (members_text text behind) c.loop-p.invariant
    (members_text-next text c.args.numbers.now c.loop-p.p-index item (slice_get-get_or c.args.numbers.now c.loop-p.p-index (record { 0 = 0 }) (omega arith))
    ∙ ap (λ bytes. bytes ++ members_text text behind) (sym (append-nil (32 ∷ text item))))
    c.in_ok-write_member.ensures.written c.in_ok-write_member.ensures.quiet

pub returns-clause-written : goal.returns-clause-written
returns-clause-written c = grind (arith, common_steps)
