-- What the engine says of a batch is the reply to an update or to a commit.
use Rattle.std.proofs.Common.{◌≡◌, ℕ, List, [], ◌∷◌, Option, Some, None, Result, Ok, Err, IsTrue, sym, ap, ◌∙◌}
use Rattle.ec_lists.specs.declared.no_memory.NoMemory.{NoMemory}
use Rattle.ec_terms.specs.declared.theory.Theory.{Theory}
use Rattle.ec_axioms.specs.declared.event.Cut.{Cut}
use Rattle.ec_axioms.specs.declared.event.Seen.{Seen}
use Rattle.ec_commands.specs.Answers.{answer_ok, refused_commit, refused_update}
use Rattle.ec_axioms.specs.Calculus.{PlainEvent}
use Rattle.ec_axioms.specs.Changes.{PlainUpdate, PlacedCut, after_update}
use Rattle.ec_replies.specs.Past.{Past, commit_weight, with_accepted}
use Rattle.ec_replies.specs.State.{State, draft_of, with_draft}
use Rattle.ec_replies.specs.Updates.{updated, updated_by, updated_from}
use Rattle.ec_replies.specs.Replies.{answering, commit_reply, reply_to_commit, update_reply}
use Rattle.ec_replies.specs.Runs.{batch_may_want_memory, may_want_by}
use Rattle.ec_replies.proofs.ByDraft.{reply_to_commit-open}
use Rattle.ec_batch.specs.declared.refusal.Refusal.TheVariants.{Update, Memory}
use Rattle.ec_engine.specs.Revise.{IsRevised}
use Rattle.ec_sessions.specs.SessionsState.{revised_state}

-- ---- one update

-- a batch of one update does what the update does
one-made : (theory : Theory) (events after : List PlainEvent) (update : PlainUpdate) → updated_by theory events (update ∷ []) ≡ Ok after → updated theory events update ≡ Ok after
unfolding updated_from
one-made theory events after update is = by_outcome (updated theory events update) is
  where
    by_outcome : (r : Result (List PlainEvent) Cut) → after_update 1 r (λ a. Ok a) ≡ Ok after → r ≡ Ok after
    by_outcome (Ok a) so = let same : a ≡ after = cc in ap (λ (events : List PlainEvent). Ok events) same
    by_outcome (Err cut) so = cc

one-refused : (theory : Theory) (events : List PlainEvent) (update : PlainUpdate) (place : ℕ) (cut : Cut) → updated_by theory events (update ∷ []) ≡ Err (place, cut)
    → updated theory events update ≡ Err cut
unfolding updated_from
one-refused theory events update place cut is = by_outcome (updated theory events update) is
  where
    by_outcome : (r : Result (List PlainEvent) Cut) → after_update 1 r (λ a. Ok a) ≡ Err (place, cut) → r ≡ Err cut
    by_outcome (Ok a) so = cc
    by_outcome (Err c) so = let same : (1, c) ≡ (place, cut) = cc in ap (λ (placed : PlacedCut). Err placed.1) same

module _ (theory : Theory) (state : State) where
  -- the state with its own events and its own past
  pub state-same : (after : List PlainEvent) (past : Past) → after ≡ state.events → past ≡ state.past → revised_state after past state.last state ≡ state
  state-same after past events same =
      ap (λ (es : List PlainEvent). revised_state es past state.last state) events ∙ ap (λ (b : Past). revised_state state.events b state.last state) same

  pub update_reply-made : (update : PlainUpdate) (seen : Seen) (after : List PlainEvent) (past : Past) → IsRevised theory state.events (update ∷ []) (Ok seen) after
      → past ≡ with_accepted (record { before = state.events; weight = 1 }) state.past → (prefix : Option ℕ)
      → update_reply theory prefix state (updated theory state.events update) ≡ answering prefix answer_ok (revised_state after past seen state)
  update_reply-made update seen after past made accepted prefix =
      ap (update_reply theory prefix state) (one-made theory state.events after update made.0)
      ∙ ap (λ (last : Seen). answering prefix answer_ok (revised_state after (with_accepted (record { before = state.events; weight = 1 }) state.past) last state)) (sym made.1)
      ∙ ap (λ (b : Past). answering prefix answer_ok (revised_state after b seen state)) (sym accepted)

  pub update_reply-refused : (update : PlainUpdate) (place : ℕ) (cut : Cut) (after : List PlainEvent) (past : Past)
      → IsRevised theory state.events (update ∷ []) (Err (Update place cut)) after → past ≡ state.past → (prefix : Option ℕ)
      → update_reply theory prefix state (updated theory state.events update) ≡ answering prefix (refused_update cut) (revised_state after past state.last state)
  update_reply-refused update place cut after past refused same prefix =
      ap (update_reply theory prefix state) (one-refused theory state.events update place cut refused.0)
      ∙ ap (λ (s : State). answering prefix (refused_update cut) s) (sym (state-same after past refused.1 same))

  -- memory may run out for it
  pub may_want-one : (update : PlainUpdate) (after : List PlainEvent) (none : NoMemory) → IsRevised theory state.events (update ∷ []) (Err (Memory none)) after → IsTrue (may_want_by (updated theory state.events update))
  unfolding batch_may_want_memory
  may_want-one update after none wanting = wanting.0

  -- ---- a commit

  pub reply_to_commit-made : (session : ℕ) (held : List PlainUpdate) (seen : Seen) (after : List PlainEvent) (past : Past) → draft_of session state ≡ Some held
      → IsRevised theory state.events held (Ok seen) after → past ≡ with_accepted (record { before = state.events; weight = commit_weight held }) state.past → (prefix : Option ℕ)
      → reply_to_commit theory prefix session state ≡ answering prefix answer_ok (with_draft session None (revised_state after past seen state))
  reply_to_commit-made session held seen after past opened made accepted prefix =
      reply_to_commit-open prefix session state theory held opened ∙ ap (commit_reply theory prefix session state (commit_weight held)) made.0
      ∙ ap (λ (last : Seen). answering prefix answer_ok (with_draft session None (revised_state after (with_accepted (record { before = state.events; weight = commit_weight held }) state.past) last state))) (sym made.1)
      ∙ ap (λ (b : Past). answering prefix answer_ok (with_draft session None (revised_state after b seen state))) (sym accepted)

  pub reply_to_commit-refused : (session : ℕ) (held : List PlainUpdate) (place : ℕ) (cut : Cut) (after : List PlainEvent) (past : Past) → draft_of session state ≡ Some held
      → IsRevised theory state.events held (Err (Update place cut)) after → past ≡ state.past → (prefix : Option ℕ)
      → reply_to_commit theory prefix session state ≡ answering prefix (refused_commit place cut) (revised_state after past state.last state)
  reply_to_commit-refused session held place cut after past opened refused same prefix =
      reply_to_commit-open prefix session state theory held opened ∙ ap (commit_reply theory prefix session state (commit_weight held)) refused.0
      ∙ ap (λ (s : State). answering prefix (refused_commit place cut) s) (sym (state-same after past refused.1 same))
