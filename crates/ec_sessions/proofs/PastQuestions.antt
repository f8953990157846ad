-- What refuses a question about the past, and which list answers one that is not refused.
use Rattle.std.proofs.Common.{◌≡◌, ◌<◌, ◌≤◌, ◌&&◌, ℕ, true, false, not, Option, IsTrue, inl, inr, refl, ap}
use Rattle.std.specs.Prelude.{nat_le}
use Rattle.std.proofs.lemmas.Bool.{and_from, and_parts, cond-true, le-leb, le-ltb, leb-true, lt-ltb, not-true}
use Rattle.ec_commands.specs.Answers.{PlainAnswer, answer_text, refused_future, refused_gone, refused_memory, refused_order}
use Rattle.ec_commands.specs.Commands.{PlainQuery, ask_past}
use Rattle.ec_replies.specs.Past.{first_kept, list_after}
use Rattle.ec_replies.specs.State.{State}
use Rattle.ec_replies.specs.Replies.{Language, command_reply, is_backwards, past_text, query_text, reply_line}
use Rattle.ec_replies.specs.Runs.{command_may_want_memory, past_may_want_memory}
use Rattle.ec_sessions.specs.Answering.{IsAnswerTo, is_bye}
use Rattle.ec_sessions.specs.LineSteps.{unless_refused}
use Rattle.ec_sessions.proofs.AnsweredLines.{CommandStep}

module _ (language : Language) (state : State) (k : ℕ) (query : PlainQuery) where
  -- ---- refusals, in their order

  pub past_text-order : is_backwards query ≡ true → past_text language state k query ≡ answer_text refused_order
  unfolding past_text
  past_text-order backwards = rw backwards refl

  pub past_text-future : is_backwards query ≡ false → state.past.count < k → past_text language state k query ≡ answer_text (refused_future state.past.count)
  unfolding past_text
  past_text-future forwards later = rw (forwards, lt-ltb state.past.count k later) refl

  pub past_text-gone : is_backwards query ≡ false → k ≤ state.past.count → k < first_kept state.past
      → past_text language state k query ≡ answer_text (refused_gone (first_kept state.past))
  unfolding past_text
  past_text-gone forwards past gone = rw (forwards, le-ltb state.past.count k past, lt-ltb k (first_kept state.past) gone) refl

  -- ---- a question that is not refused

  pub asked-from : is_backwards query ≡ false → k ≤ state.past.count → first_kept state.past ≤ k → IsTrue (past_may_want_memory state k query)
  asked-from forwards past kept =
      and_from _ _ (and_from _ _ (ap not forwards) (le-leb k state.past.count past)) (le-leb (first_kept state.past) k kept)

  module _ (asked : IsTrue (past_may_want_memory state k query)) where
    kept_part : (not (is_backwards query) && nat_le k state.past.count ≡ true) × (nat_le (first_kept state.past) k ≡ true)
    kept_part = and_parts (not (is_backwards query) && nat_le k state.past.count) (nat_le (first_kept state.past) k) asked

    past_part : (not (is_backwards query) ≡ true) × (nat_le k state.past.count ≡ true)
    past_part = and_parts (not (is_backwards query)) (nat_le k state.past.count) kept_part.0

    pub asked-kept : first_kept state.past ≤ k
    asked-kept = leb-true (first_kept state.past) k kept_part.1

    pub asked-past : k ≤ state.past.count
    asked-past = leb-true k state.past.count past_part.1

    pub past_text-asked : past_text language state k query ≡ query_text language (list_after k state.events state.past) query
    unfolding past_text
    past_text-asked =
        rw (not-true (is_backwards query) past_part.0, le-ltb state.past.count k asked-past, le-ltb k (first_kept state.past) asked-kept) refl

    pub unless_refused-asked : (steps : ℕ) → unless_refused state k query steps ≡ steps
    unfolding unless_refused
    unless_refused-asked steps = cond-true _ _ _ asked

    -- it is answered by the text of its query at that list
    pub CommandStep-past : (prefix : Option ℕ) (session : ℕ)
        → CommandStep language prefix session state (ask_past k query) (reply_line prefix (query_text language (list_after k state.events state.past) query)) state
    unfolding command_reply
    CommandStep-past prefix session = inl (ap (λ text. record { text = reply_line prefix text; after = state }) past_text-asked)

    -- or memory ran out
    pub IsAnswerTo-past-memory : (session : ℕ) → IsAnswerTo language session state (ask_past k query) refused_memory state
    unfolding command_may_want_memory
    IsAnswerTo-past-memory session = record { by = inr (asked, refl, refl); quits = refl }

  -- and one that is refused, by its refusal
  pub IsAnswerTo-past-refused : (session : ℕ) (answer : PlainAnswer) → past_text language state k query ≡ answer_text answer → is_bye answer ≡ false
      → IsAnswerTo language session state (ask_past k query) answer state
  unfolding command_reply
  IsAnswerTo-past-refused session answer is goes_on =
      record { by = inl (λ prefix. ap (λ text. record { text = reply_line prefix text; after = state }) is); quits = goes_on }
