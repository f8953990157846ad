-- An update by the draft of its session: made at once where it is closed, held where it has room, and refused where it is full.
use Rattle.std.proofs.Common.{◌≡◌, ◌+◌, inl, inr, ℕ, Bool, List, [], ◌∷◌, ◌++◌, length, Option, Some, None, IsTrue, sym, ap, ap₂, ◌∙◌, arith}
use Rattle.std.proofs.lemmas.Bool.{lt-ltb, le-ltb}
use Rattle.std.specs.Prelude.{slice_set, if◌then◌else◌}
use Rattle.ec_terms.specs.declared.theory.Theory.{Theory}
use Rattle.ec_commands.specs.declared.limits.TheConstants.{MOST_DRAFTED}
use Rattle.ec_commands.specs.Answers.{PlainAnswer, answer_drafted, refused_full_draft}
use Rattle.ec_axioms.specs.Changes.{PlainUpdate}
use Rattle.ec_replies.specs.State.{Draft, State, draft_of, with_draft}
use Rattle.ec_replies.specs.Updates.{updated}
use Rattle.ec_replies.specs.Replies.{answering, reply_to_update, update_reply}
use Rattle.ec_replies.specs.Runs.{may_want_by, update_may_want_memory}
use Rattle.ec_replies.proofs.ByDraft.{reply_to_update-closed, reply_to_update-open, update_may_want_memory-closed, update_may_want_memory-open}
use Rattle.ec_sessions.specs.Answering.{IsAnswerBy}
use Rattle.ec_sessions.specs.Drafts.{IsFull, IsOpenWithRoom}

module _ (theory : Theory) (session : ℕ) (state : State) (update : PlainUpdate) where
  pub IsAnswerBy-closed : (answer : PlainAnswer) (after : State) → draft_of session state ≡ None
      → IsAnswerBy (λ prefix. update_reply theory prefix state (updated theory state.events update)) (may_want_by (updated theory state.events update)) state answer after
      → IsAnswerBy (λ prefix. reply_to_update theory prefix session state update) (update_may_want_memory theory session state update) state answer after
  IsAnswerBy-closed answer after closed (inl replies) = inl (λ prefix. reply_to_update-closed prefix session state theory update closed ∙ replies prefix)
  IsAnswerBy-closed answer after closed (inr wanting) = inr (update_may_want_memory-closed session state theory update closed ∙ wanting.0, wanting.1, wanting.2)

  pub reply_to_update-held : (count : ℕ) (drafts : List Draft) → IsOpenWithRoom (draft_of session state)
      → ((held : List PlainUpdate) → draft_of session state ≡ Some held → (drafts ≡ slice_set state.drafts session (Some (held ++ update ∷ []))) × (count ≡ length held + 1))
      → (prefix : Option ℕ) → reply_to_update theory prefix session state update ≡ answering prefix (answer_drafted count) (record state { drafts = drafts })
  reply_to_update-held count drafts room pushed prefix =
      let held = room.0 in
      let told = pushed held room.1 in
      reply_to_update-open prefix session state theory update held room.1
      ∙ ap (λ (b : Bool). if b then answering prefix (answer_drafted (length held + 1)) (with_draft session (Some (held ++ update ∷ [])) state) else answering prefix refused_full_draft state)
      (lt-ltb (length held) MOST_DRAFTED room.2)
      ∙ ap₂ (λ (ds : List Draft) (n : ℕ). answering prefix (answer_drafted n) (record state { drafts = ds })) (sym told.0) (sym told.1)

  pub update_may_want_memory-room : IsOpenWithRoom (draft_of session state) → IsTrue (update_may_want_memory theory session state update)
  update_may_want_memory-room room = update_may_want_memory-open session state theory update room.0 room.1 ∙ lt-ltb (length room.0) MOST_DRAFTED room.2

  pub reply_to_update-full : IsFull (draft_of session state) → (prefix : Option ℕ) → reply_to_update theory prefix session state update ≡ answering prefix refused_full_draft state
  reply_to_update-full full prefix =
      reply_to_update-open prefix session state theory update full.0 full.1
      ∙ ap (λ (b : Bool). if b then answering prefix (answer_drafted (length full.0 + 1)) (with_draft session (Some (full.0 ++ update ∷ [])) state) else answering prefix refused_full_draft state)
      (le-ltb (length full.0) MOST_DRAFTED (omega (arith, full.2)))
