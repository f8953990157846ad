use Rattle.ec_parts.specs.StandFor.{view_of}
use Rattle.ec_parts.proofs.LinksByNumber.{IsOneToOne}
use Rattle.ec_parts.proofs.Forgotten.{ForgetsOne-out}
use Rattle.std.proofs.Common.{refl}
use Rattle.ec_parts.proofs.forgetting.forget.Goals as goal

pub returns-clause-both : goal.returns-clause-both
returns-clause-both g c =
    let one : IsOneToOne c.args.parts.now.props = record { in_order = c.len.ensures.order; numbers = c.len.ensures.numbers } in
    ForgetsOne-out g.T.Moment.rank c.args.parts.now.checked c.args.p (view_of c.args.parts.now) _ one
    (record {
      store = refl;
      entries = refl;
      table = c.forget.ensures.props;
      rows = c.drop_prop.ensures.rows;
      neighbours = c.drop_prop.ensures.neighbours c.args.parts.now.checked;
      points = record { marks = c.clear.ensures.marks; others = c.clear.ensures.others; initials = c.clear.ensures.initials };
      initiations = record { marks = c.clear-2.ensures.marks; others = c.clear-2.ensures.others; initials = c.clear-2.ensures.initials };
      intervals = record { front = c.clear-3.ensures.front; spans = c.clear-3.ensures.spans; others = c.clear-3.ensures.others };
    })
    c.requires.unmentioned
