-- The count and the pairs follow one another.
use Rattle.std.proofs.Common.{◌++◌, map, refl, sym, ap, ◌∙◌}
use Rattle.std.specs.Prelude.{decimal}
use Rattle.ec_terms.specs.Term.{ground_of}
use Rattle.ec_commands.specs.QueryTexts.{counted_text, pair_text}
use Rattle.ec_commands.specs.Relations.{pairs_of}
use Rattle.ec_query.specs.Members.{members_text}
use Rattle.ec_query.proofs.WritingLemmas.{IsLeft-start, IsLeft-next, IsLeft-last, IsLeft-last_part, counted_text-of}
use Rattle.ec_compare.proofs.pairs.write_pairs.Goals as goal

pub returns-clause-written : goal.returns-clause-written
returns-clause-written g c = λ theory events held count.
    let pairs = pairs_of theory events (ground_of c.args.p.now) c.args.wanted (ground_of c.args.q.now) in
    let rest = members_text (pair_text g.T.Moment.canon) pairs in
    IsLeft-last c.write_members.new.out c.write_members.result rest
    (IsLeft-next (decimal c.args.count) rest
    (IsLeft-start {faults = g.K.Sink.faults} c.args.out.now (counted_text (map (pair_text g.T.Moment.canon) pairs)) (decimal c.args.count ++ rest)
    (counted_text-of (pair_text g.T.Moment.canon) pairs ∙ ap (λ n. decimal n ++ rest) (sym count)))
    refl c.in_ok-write_count.ensures.written c.in_ok-write_count.ensures.quiet)
    refl (c.write_members.ensures.written theory events held)

pub returns-clause-part : goal.returns-clause-part
returns-clause-part g c = λ theory events held count.
    let pairs = pairs_of theory events (ground_of c.args.p.now) c.args.wanted (ground_of c.args.q.now) in
    let rest = members_text (pair_text g.T.Moment.canon) pairs in
    IsLeft-last_part c.write_members.new.out c.write_members.result rest
    (IsLeft-next (decimal c.args.count) rest
    (IsLeft-start {faults = g.K.Sink.faults} c.args.out.now (counted_text (map (pair_text g.T.Moment.canon) pairs)) (decimal c.args.count ++ rest)
    (counted_text-of (pair_text g.T.Moment.canon) pairs ∙ ap (λ n. decimal n ++ rest) (sym count)))
    refl c.in_ok-write_count.ensures.written c.in_ok-write_count.ensures.quiet)
    refl (c.write_members.ensures.part theory events held)
