-- The definitions are computed.
use Rattle.std.proofs.Common.{refl}
use Rattle.ec_soak.specs.Draws.{next_state, draw}
use Rattle.ec_soak.specs.Load.{drawn_assert, drawn_retract, drawn_holds_lit, drawn_holds_at, drawn_intervals, drawn_line, drawn_lines}
use Rattle.ec_soak.proofs.laws.first_draws_law.Goals as goal

pub returns-clause-state : goal.returns-clause-state
unfolding next_state
returns-clause-state c = refl

pub returns-clause-command : goal.returns-clause-command
unfolding draw next_state
returns-clause-command c = refl

pub returns-clause-lines : goal.returns-clause-lines
unfolding draw next_state drawn_assert drawn_retract drawn_holds_lit drawn_holds_at drawn_intervals drawn_line drawn_lines
returns-clause-lines c = refl
