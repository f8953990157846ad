-- The times that the marks tell are those of the calculus; their count and they themselves follow one another.
use Rattle.std.proofs.Common.{◌≡◌, ◌++◌, length, map, refl, ap, ◌∙◌, arith}
use Rattle.std.proofs.lemmas.Grind.{common_steps}
use Rattle.std.specs.Prelude.{decimal}
use Rattle.ec_lists.proofs.Results.{OnErr-anyway}
use Rattle.ec_axioms.specs.Calculus.{clashes_of}
use Rattle.ec_commands.specs.QueryTexts.{counted_text}
use Rattle.ec_query.specs.Members.{members_text}
use Rattle.ec_query.proofs.ClashTimes.{AreClashTimes-of, clashes_of-few, clashes_reply-of}
use Rattle.ec_query.proofs.WritingLemmas.{IsLeft-start, IsLeft-next, IsLeft-part, IsLeft-last, IsLeft-last_part, OnErr-renamed, OnOk-renamed, counted_text-of}
use Rattle.ec_query.proofs.clash_reply.clashes.Goals as goal

pub returns-in_err-write_count-clause-part : goal.returns-in_err-write_count-clause-part
returns-in_err-write_count-clause-part g c = λ events marked.
    let rank = g.T.Moment.rank in
    let canon = g.T.Moment.canon in
    let theory = c.args.marked.now.theory.now in
    let times = clashes_of theory events in
    let are = AreClashTimes-of rank theory events c.args.marked.now.props.now c.args.marked.now.points.now marked c.len.ensures.numbers in
    let few = clashes_of-few rank theory events c.args.marked.now.props.now c.args.marked.now.points.now marked c.len.ensures.numbers in
    let counted = c.count_clashes.ensures times are in
    let count : length times ≡ c.count_clashes.result = omega (arith, few, counted) in
    OnErr-renamed g.K.Sink.stands c.args.out.now c.write_count.new.out c.from_residual.result (clashes_reply-of theory events canon)
    (OnErr-anyway c.from_residual.result
    (IsLeft-part (decimal c.count_clashes.result) (members_text canon times)
    (IsLeft-start {faults = g.K.Sink.faults} c.args.out.now (counted_text (map canon times)) (decimal c.count_clashes.result ++ members_text canon times)
    (counted_text-of canon times ∙ ap (λ n. decimal n ++ members_text canon times) count))
    refl c.in_err-write_count.ensures.part))

pub returns-clause-written : goal.returns-clause-written
returns-clause-written g c = λ events marked.
    let rank = g.T.Moment.rank in
    let canon = g.T.Moment.canon in
    let theory = c.args.marked.now.theory.now in
    let times = clashes_of theory events in
    let are = AreClashTimes-of rank theory events c.args.marked.now.props.now c.args.marked.now.points.now marked c.len.ensures.numbers in
    let few = clashes_of-few rank theory events c.args.marked.now.props.now c.args.marked.now.points.now marked c.len.ensures.numbers in
    let counted = c.count_clashes.ensures times are in
    let count : length times ≡ c.count_clashes.result = omega (arith, few, counted) in
    OnOk-renamed g.K.Sink.stands c.args.out.now c.write_members.new.out c.write_members.result (clashes_reply-of theory events canon)
    (IsLeft-last c.write_members.new.out c.write_members.result (members_text canon times)
    (IsLeft-next (decimal c.count_clashes.result) (members_text canon times)
    (IsLeft-start {faults = g.K.Sink.faults} c.args.out.now (counted_text (map canon times)) (decimal c.count_clashes.result ++ members_text canon times)
    (counted_text-of canon times ∙ ap (λ n. decimal n ++ members_text canon times) count))
    refl c.in_ok-write_count.ensures.written c.in_ok-write_count.ensures.quiet)
    refl (c.write_members.ensures.written times are))

pub returns-clause-part : goal.returns-clause-part
returns-clause-part g c = λ events marked.
    let rank = g.T.Moment.rank in
    let canon = g.T.Moment.canon in
    let theory = c.args.marked.now.theory.now in
    let times = clashes_of theory events in
    let are = AreClashTimes-of rank theory events c.args.marked.now.props.now c.args.marked.now.points.now marked c.len.ensures.numbers in
    let few = clashes_of-few rank theory events c.args.marked.now.props.now c.args.marked.now.points.now marked c.len.ensures.numbers in
    let counted = c.count_clashes.ensures times are in
    let count : length times ≡ c.count_clashes.result = omega (arith, few, counted) in
    OnErr-renamed g.K.Sink.stands c.args.out.now c.write_members.new.out c.write_members.result (clashes_reply-of theory events canon)
    (IsLeft-last_part c.write_members.new.out c.write_members.result (members_text canon times)
    (IsLeft-next (decimal c.count_clashes.result) (members_text canon times)
    (IsLeft-start {faults = g.K.Sink.faults} c.args.out.now (counted_text (map canon times)) (decimal c.count_clashes.result ++ members_text canon times)
    (counted_text-of canon times ∙ ap (λ n. decimal n ++ members_text canon times) count))
    refl c.in_ok-write_count.ensures.written c.in_ok-write_count.ensures.quiet)
    refl (c.write_members.ensures.part times are))

pub returns-clause-quiet : goal.returns-clause-quiet
returns-clause-quiet c = grind (arith, common_steps)

pub returns-clause-failed : goal.returns-clause-failed
returns-clause-failed c = grind (arith, common_steps)
