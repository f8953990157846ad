-- The words of all hits are the new bits.
use Rattle.std.proofs.Common.{◌+◌, not, ◌++◌, filter_map, ap, ◌∙◌}
use Rattle.std.specs.Prelude.{count_by}
use Rattle.ec_revise.specs.declared.turn.Turn.{Turn}
use Rattle.ec_sweep.specs.Acting.{turn_at}
use Rattle.ec_sweep.proofs.HitLemmas.{FlipsHits-from_words}
use Rattle.ec_sweep.proofs.look_hits.look_at_hits.Goals as goal

pub returns-clause-flips : goal.returns-clause-flips
returns-clause-flips g c =
    FlipsHits-from_words (g.C.Current.is_current c.args.current.now) (g.T.Moment.rank c.args.at) c.args.entries.now.slots c.args.hits.now c.take_words-words.result c.look_at_each.new.words
    c.args.looked.now.flips c.count.new.looked.flips c.take_words-words.ensures c.in_ok-look_at_each.ensures.words c.in_ok-push_flips.ensures.apart
    (c.in_ok-count.ensures.flips ∙ c.in_ok-push_flips.ensures.flips)

pub returns-clause-turns : goal.returns-clause-turns
returns-clause-turns g c =
    c.in_ok-look_at_each.ensures.turns
    ∙ ap (λ ts. ts ++ filter_map (turn_at (g.C.Current.is_current c.args.current.now) (g.T.Moment.rank c.args.at) c.args.entries.now.slots) c.args.hits.now) c.take_turns-turns.ensures

pub returns-clause-seen : goal.returns-clause-seen
returns-clause-seen g c = c.in_ok-count.ensures.seen ∙ ap (λ n. c.args.looked.now.seen + n) c.len.ensures

pub returns-clause-on : goal.returns-clause-on
returns-clause-on g c = c.in_ok-count.ensures.on ∙ ap (λ ts. c.args.looked.now.on + count_by (λ (turn : Turn). turn.up) ts) c.as_slice.ensures.value

pub returns-clause-off : goal.returns-clause-off
returns-clause-off g c = c.in_ok-count.ensures.off ∙ ap (λ ts. c.args.looked.now.off + count_by (λ (turn : Turn). not turn.up) ts) c.as_slice.ensures.value

pub returns-clause-steps : goal.returns-clause-steps
returns-clause-steps g c = c.in_ok-look_at_each.ensures.steps

pub returns-clause-most : goal.returns-clause-most
returns-clause-most g c = c.look_at_each.ensures.most
