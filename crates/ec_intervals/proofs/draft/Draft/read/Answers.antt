-- What the mark ends is added, and its begin is open.
use Rattle.std.proofs.Common.{option_map, ap, ◌∙◌}
use Rattle.ec_rows.specs.PlainMarks.{plain_mark}
use Rattle.ec_intervals.specs.Steps.{open_behind}
use Rattle.ec_intervals.specs.Table.{plain_begin}
use Rattle.ec_intervals.proofs.Reading.{IsReadOver-mark}
use Rattle.ec_intervals.proofs.draft.Draft.read.Goals as goal

pub returns : goal.returns
returns g c =
    let mark = plain_mark g.T.Moment.rank c.args.mark in
    IsReadOver-mark g.T.Moment.rank c.args.strong mark c.args.self.now (record c.add_ended.new.self { begun = c.open_behind-self.result }) c.requires.fresh
    (c.open_behind-self.ensures ∙ ap (λ begun. open_behind c.args.strong (option_map (plain_begin g.T.Moment.rank) begun) mark) c.add_ended.ensures.begun)
    c.add_ended.ensures.intervals c.add_ended.ensures.len c.add_ended.ensures.capacity
