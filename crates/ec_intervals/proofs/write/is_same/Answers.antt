-- The members are the same where the front is and the spans of the window are.
use Rattle.std.proofs.Common.{sym, ap, ◌∙◌}
use Rattle.std.proofs.lemmas.Bool.{false≢true}
use Rattle.ec_intervals.specs.Table.{plain_spans}
use Rattle.ec_intervals.proofs.Spliced.{same-members, members-same}
use Rattle.ec_intervals.proofs.write.is_same.Goals as goal

pub returns-then-not-is_same_front : goal.returns-then-not-is_same_front
returns-then-not-is_same_front g c = (
  λ never. absurd (false≢true never),
  λ same. absurd (false≢true (sym c.if-not-is_same_front.true
      ∙ c.is_same_front.ensures.1 (members-same g.T.Moment.rank c.args.kept.now.front c.args.draft.now.front (g.I.SpanRow.spans c.args.kept.now.spans) c.args.draft.now.spans.items c.args.start c.args.end c.requires.ordered same).0)),
)

pub returns : goal.returns
returns g c =
    let with = ap (plain_spans g.T.Moment.rank) c.deref.ensures.value in (
      λ same. same-members g.T.Moment.rank c.args.kept.now.front c.args.draft.now.front (g.I.SpanRow.spans c.args.kept.now.spans) c.args.draft.now.spans.items c.args.start c.args.end c.requires.ordered
          (c.is_same_front.ensures.0 c.if-not-is_same_front.false) (c.has_spans.ensures.0 same ∙ with),
      λ same. c.has_spans.ensures.1
          ((members-same g.T.Moment.rank c.args.kept.now.front c.args.draft.now.front (g.I.SpanRow.spans c.args.kept.now.spans) c.args.draft.now.spans.items c.args.start c.args.end c.requires.ordered same).1 ∙ sym with),
    )
