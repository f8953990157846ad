-- The replies to updates and to what is done with drafts, where the session's draft is known.
use Rattle.std.proofs.Common.{◌≡◌, ◌==◌, ◌||◌, ℕ, false, ltb, length, List, [], Option, Some, None}
use Rattle.ec_terms.specs.declared.theory.Theory.{Theory}
use Rattle.ec_axioms.specs.Changes.{PlainUpdate}
use Rattle.ec_commands.specs.declared.limits.TheConstants.{MOST_DRAFTED}
use Rattle.ec_commands.specs.Answers.{answer_ok, refused_in_draft, refused_no_draft}
use Rattle.ec_replies.specs.Past.{commit_weight}
use Rattle.ec_replies.specs.State.{State, draft_of, with_draft}
use Rattle.ec_replies.specs.Updates.{updated, updated_by}
use Rattle.ec_replies.specs.Replies.{answering, update_reply, drafted_reply, commit_reply, reply_to_update, reply_to_begin, reply_to_commit, reply_to_abort}
use Rattle.ec_replies.specs.Runs.{may_want_by, update_may_want_memory, batch_may_want_memory, commit_may_want_memory}

module _ (prefix : Option ℕ) (session : ℕ) (state : State) where
  -- ---- the draft is closed

  pub reply_to_update-closed : (theory : Theory) (update : PlainUpdate) → draft_of session state ≡ None
      → reply_to_update theory prefix session state update ≡ update_reply theory prefix state (updated theory state.events update)
  unfolding reply_to_update
  reply_to_update-closed theory update closed = rw (closed, reply_to_update)

  pub reply_to_begin-closed : draft_of session state ≡ None → reply_to_begin prefix session state ≡ answering prefix answer_ok (with_draft session (Some []) state)
  unfolding reply_to_begin
  reply_to_begin-closed closed = rw (closed, reply_to_begin)

  pub reply_to_commit-closed : (theory : Theory) → draft_of session state ≡ None → reply_to_commit theory prefix session state ≡ answering prefix refused_no_draft state
  unfolding reply_to_commit
  reply_to_commit-closed theory closed = rw (closed, reply_to_commit)

  pub reply_to_abort-closed : draft_of session state ≡ None → reply_to_abort prefix session state ≡ answering prefix refused_no_draft state
  unfolding reply_to_abort
  reply_to_abort-closed closed = rw (closed, reply_to_abort)

  -- ---- the draft is open

  pub reply_to_update-open : (theory : Theory) (update : PlainUpdate) (held : List PlainUpdate) → draft_of session state ≡ Some held
      → reply_to_update theory prefix session state update ≡ drafted_reply prefix session state held update
  unfolding reply_to_update
  reply_to_update-open theory update held opened = rw (opened, reply_to_update)

  pub reply_to_begin-open : (held : List PlainUpdate) → draft_of session state ≡ Some held → reply_to_begin prefix session state ≡ answering prefix refused_in_draft state
  unfolding reply_to_begin
  reply_to_begin-open held opened = rw (opened, reply_to_begin)

  pub reply_to_commit-open : (theory : Theory) (held : List PlainUpdate) → draft_of session state ≡ Some held
      → reply_to_commit theory prefix session state ≡ commit_reply theory prefix session state (commit_weight held) (updated_by theory state.events held)
  unfolding reply_to_commit
  reply_to_commit-open theory held opened = rw (opened, reply_to_commit)

  pub reply_to_abort-open : (held : List PlainUpdate) → draft_of session state ≡ Some held → reply_to_abort prefix session state ≡ answering prefix answer_ok (with_draft session None state)
  unfolding reply_to_abort
  reply_to_abort-open held opened = rw (opened, reply_to_abort)

module _ (session : ℕ) (state : State) where
  -- ---- memory

  pub update_may_want_memory-closed : (theory : Theory) (update : PlainUpdate) → draft_of session state ≡ None
      → update_may_want_memory theory session state update ≡ may_want_by (updated theory state.events update)
  unfolding update_may_want_memory
  update_may_want_memory-closed theory update closed = rw (closed, update_may_want_memory)

  pub update_may_want_memory-open : (theory : Theory) (update : PlainUpdate) (held : List PlainUpdate) → draft_of session state ≡ Some held
      → update_may_want_memory theory session state update ≡ ltb (length held) MOST_DRAFTED
  unfolding update_may_want_memory
  update_may_want_memory-open theory update held opened = rw (opened, update_may_want_memory)

  pub commit_may_want_memory-closed : (theory : Theory) → draft_of session state ≡ None → commit_may_want_memory theory session state ≡ false
  unfolding commit_may_want_memory
  commit_may_want_memory-closed theory closed = rw (closed, commit_may_want_memory)

  pub commit_may_want_memory-open : (theory : Theory) (held : List PlainUpdate) → draft_of session state ≡ Some held
      → commit_may_want_memory theory session state ≡ (length held == 0 || batch_may_want_memory theory state.events held)
  unfolding commit_may_want_memory
  commit_may_want_memory-open theory held opened = rw (opened, commit_may_want_memory)
