-- How many steps an update, a commit and a line may take, where the draft is known.
use Rattle.std.proofs.Common.{◌≡◌, ◌+◌, ℕ, length, true, false, List, [], ◌∷◌, Option, Some, None}
use Rattle.ec_terms.specs.declared.theory.Theory.{Theory}
use Rattle.ec_axioms.specs.Changes.{PlainUpdate}
use Rattle.ec_commands.specs.Commands.{parsed_of}
use Rattle.ec_commands.specs.Lines.{is_long}
use Rattle.ec_replies.specs.State.{State, draft_of}
use Rattle.ec_replies.specs.Replies.{Language}
use Rattle.ec_engine.specs.Revise.{most_steps}
use Rattle.ec_sessions.specs.LineSteps.{most_update_steps, most_commit_steps, most_parsed_steps, most_line_steps}

module _ (theory : Theory) (session : ℕ) (state : State) where
  pub most_update_steps-closed : (update : PlainUpdate) → draft_of session state ≡ None → most_update_steps theory session state update ≡ most_steps theory state.events (update ∷ []) + 1
  unfolding most_update_steps
  most_update_steps-closed update closed = rw (closed, most_update_steps)

  pub most_update_steps-open : (update : PlainUpdate) (held : List PlainUpdate) → draft_of session state ≡ Some held → most_update_steps theory session state update ≡ 0
  unfolding most_update_steps
  most_update_steps-open update held opened = rw (opened, most_update_steps)

  pub most_commit_steps-open : (held : List PlainUpdate) → draft_of session state ≡ Some held → most_commit_steps theory session state ≡ most_steps theory state.events held + length held
  unfolding most_commit_steps
  most_commit_steps-open held opened = rw (opened, most_commit_steps)

pub most_line_steps-short : (language : Language) (viewed : Option ℕ) (state : State) (line : List ℕ) → is_long line ≡ false
    → most_line_steps language viewed state line ≡ most_parsed_steps language.theory viewed state (parsed_of language.spelt line)
unfolding most_line_steps
most_line_steps-short language viewed state line short = rw (short, most_line_steps)

pub most_line_steps-long : (language : Language) (viewed : Option ℕ) (state : State) (line : List ℕ) → is_long line ≡ true → most_line_steps language viewed state line ≡ 0
unfolding most_line_steps
most_line_steps-long language viewed state line long = rw (long, most_line_steps)
