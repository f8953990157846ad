-- The update is made, or refused, or memory ran out.
use Rattle.std.proofs.Common.{◌≡◌, [], ◌∷◌, inl, inr, refl, sym, ap, subst, ◌∙◌}
use Rattle.std.specs.Prelude.{Err, Result}
use Rattle.ec_axioms.specs.declared.event.Seen.{Seen}
use Rattle.ec_commands.specs.Answers.{refused_update}
use Rattle.ec_replies.specs.Replies.{update_reply}
use Rattle.ec_replies.specs.Runs.{may_want_by}
use Rattle.ec_replies.specs.Updates.{updated}
use Rattle.ec_batch.specs.declared.refusal.Refusal.{Refusal}
use Rattle.ec_engine.specs.Revise.{IsRevised}
use Rattle.ec_past.specs.Chronicles.{IsPastAfter}
use Rattle.ec_sessions.specs.Answering.{IsAnswerBy}
use Rattle.ec_sessions.specs.SessionsState.{revised_state}
use Rattle.ec_sessions.proofs.Revisions.{may_want-one, state-same, update_reply-made, update_reply-refused}
use Rattle.ec_sessions.proofs.updating.answer_revised.Goals as goal

pub returns-in-Ok-clause-reply : goal.returns-in-Ok-clause-reply
returns-in-Ok-clause-reply c theory state update after past same revised accepted =
    inl (update_reply-made theory state update c.in-Ok.seen after past
    (subst (λ (r : Result Seen Refusal). IsRevised theory state.events (update ∷ []) r after) c.in-Ok.is revised)
    (subst (λ (r : Result Seen Refusal). IsPastAfter 1 state.events state.past r past) c.in-Ok.is accepted))

pub returns-in-Err-Update-clause-reply : goal.returns-in-Err-Update-clause-reply
returns-in-Err-Update-clause-reply c theory state update after past same revised accepted =
    let refused = subst (λ (r : Refusal). IsRevised theory state.events (update ∷ []) (Err r) after) c.in-Err-Update.field-0-is
    (subst (λ (r : Result Seen Refusal). IsRevised theory state.events (update ∷ []) r after) c.in-Err-Update.is revised) in
    let kept : past ≡ state.past = subst (λ (r : Result Seen Refusal). IsPastAfter 1 state.events state.past r past) c.in-Err-Update.is accepted in
    subst (λ (last : Seen). IsAnswerBy (λ prefix. update_reply theory prefix state (updated theory state.events update)) (may_want_by (updated theory state.events update)) state (refused_update c.in-Err-Update.cut) (revised_state after past last state)) same
    (inl (update_reply-refused theory state update c.in-Err-Update.field-0-0 c.in-Err-Update.cut after past refused kept))

pub returns-in-Err-Memory-clause-reply : goal.returns-in-Err-Memory-clause-reply
returns-in-Err-Memory-clause-reply c theory state update after past same revised accepted =
    let wanting = subst (λ (r : Refusal). IsRevised theory state.events (update ∷ []) (Err r) after) c.in-Err-Memory.field-0-is
    (subst (λ (r : Result Seen Refusal). IsRevised theory state.events (update ∷ []) r after) c.in-Err-Memory.is revised) in
    let kept : past ≡ state.past = subst (λ (r : Result Seen Refusal). IsPastAfter 1 state.events state.past r past) c.in-Err-Memory.is accepted in
    inr (may_want-one theory state update after c.in-Err-Memory.none wanting, refl, ap (λ (last : Seen). revised_state after past last state) (sym same) ∙ state-same theory state after past wanting.1 kept)
