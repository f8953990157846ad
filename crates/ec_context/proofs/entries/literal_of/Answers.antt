-- The term is the literal's property, filled in.
use Rattle.std.proofs.Common.{Some, ap, ◌∙◌}
use Rattle.ec_context.proofs.Shown.{shown_literal-filled}
use Rattle.ec_context.proofs.entries.literal_of.Goals as goal

pub returns-clause-shown : goal.returns-clause-shown
returns-clause-shown c =
    shown_literal-filled c.keep.new.props (record { positive = c.args.literal.now.positive; prop = c.in_ok-prop.prop }) _ (c.in_ok-prop.ensures.term ∙ ap Some c.fill_ref.ensures.filled)
