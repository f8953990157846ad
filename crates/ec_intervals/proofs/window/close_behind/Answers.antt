-- The end is that of the interval that goes on behind the time.
use Rattle.std.proofs.Common.{◌++◌, ap, ◌∙◌}
use Rattle.std.specs.Prelude.{option_map}
use Rattle.std.specs.Option.{option_to_list}
use Rattle.ec_intervals.specs.Drafts.{drafted}
use Rattle.ec_intervals.specs.Steps.{lasting}
use Rattle.ec_intervals.specs.Table.{plain_begin, plain_intervals}
use Rattle.ec_intervals.proofs.window.close_behind.Goals as goal

pub returns-in-Some-clause-intervals : goal.returns-in-Some-clause-intervals
returns-in-Some-clause-intervals g c =
    c.close.ensures.intervals
    ∙ ap (λ end. plain_intervals g.T.Moment.rank (drafted c.args.draft.now) ++ option_to_list (lasting end (option_map (plain_begin g.T.Moment.rank) c.args.draft.now.begun))) c.in-Some.ensures
