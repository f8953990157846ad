-- A mark or an entry, whichever is earlier.
use Rattle.std.proofs.Common.{inl, inr, ⊎_elim}
use Rattle.ec_sweep.proofs.NextTimes.{earlier-by, earlier-none, earlier-one}
use Rattle.ec_sweep.proofs.next_time.next_time.Goals as goal

pub returns-clause-some : goal.returns-clause-some
returns-clause-some g c =
    earlier-one c.args.next_mark c.next_entry.result c.earlier.result _ _ _ (λ next there. (there.0, inl there.1)) (λ next there. (there.0, inr there.1)) c.earlier.ensures.either
    c.requires.some c.next_entry.ensures.some

pub returns-clause-least : goal.returns-clause-least
returns-clause-least g c = λ u later bears.
    ⊎_elim
    (λ has.
    earlier-by g.T.Moment.rank (g.T.Moment.rank c.args.at) c.args.next_mark c.earlier.result u (λ none. (earlier-none c.args.next_mark c.next_entry.result c.earlier.result c.earlier.ensures.none none).0)
    c.earlier.ensures.first (c.requires.least u later has))
    (λ read.
    earlier-by g.T.Moment.rank (g.T.Moment.rank c.args.at) c.next_entry.result c.earlier.result u (λ none. (earlier-none c.args.next_mark c.next_entry.result c.earlier.result c.earlier.ensures.none none).1)
    c.earlier.ensures.second (c.next_entry.ensures.least u later read))
    bears
