-- What is always told of a first update, and what memory may be wanting for.
use Rattle.std.proofs.Common.{◌≡◌, ◌≤◌, ◌<◌, ℕ, Bool, true, false, cond, List, ◌∷◌, length, Err, Ok, IsTrue, IsFalse, refl, ap, ◌∙◌, leb, ltb}
use Rattle.std.proofs.lemmas.Bool.{cond-true, cond-false, le-leb, lt-leb}
use Rattle.ec_terms.specs.declared.theory.Theory.{Theory}
use Rattle.ec_axioms.specs.declared.event.Cut.TheVariants.{Duplicate, Unknown, FullEvents, FullMentions, FullLinks}
use Rattle.ec_axioms.specs.Calculus.{PlainEvent}
use Rattle.ec_axioms.specs.Changes.{PlainUpdate, after_update, asserting, has_id, retracting, with_event, without_event}
use Rattle.ec_axioms.specs.Links.{link_count, mentions_of, most_events, most_links, most_mentions}
use Rattle.ec_replies.specs.Runs.{batch_may_want_memory, may_want_by}
use Rattle.ec_replies.specs.Updates.{asserted, retracted, updated_by, updated_from, with_few_mentions}

module _ (theory : Theory) (events : List PlainEvent) (e : PlainEvent) (rest : List PlainUpdate) where
  -- an identity that is present
  pub duplicate-first : IsTrue (has_id e.id events) → updated_by theory events (asserting e ∷ rest) ≡ Err (1, Duplicate e.id)
  unfolding updated_from asserted
  duplicate-first present =
      ap (λ r. after_update 1 r (λ after. updated_from theory 2 after rest))
      (cond-true (has_id e.id events) (Err (Duplicate e.id)) (cond (leb most_events (length events)) (Err FullEvents) (with_few_mentions theory (with_event e events))) present)

  -- a full list
  pub full-first : IsFalse (has_id e.id events) → most_events ≤ length events → updated_by theory events (asserting e ∷ rest) ≡ Err (1, FullEvents)
  unfolding updated_from asserted
  full-first absent full =
      ap (λ r. after_update 1 r (λ after. updated_from theory 2 after rest))
      (cond-false (has_id e.id events) (Err (Duplicate e.id)) (cond (leb most_events (length events)) (Err FullEvents) (with_few_mentions theory (with_event e events))) absent
      ∙ cond-true (leb most_events (length events)) (Err FullEvents) (with_few_mentions theory (with_event e events)) (le-leb most_events (length events) full))

  -- for any other event memory may be wanting
  pub may_want-first : IsFalse (has_id e.id events) → length events < most_events → IsTrue (batch_may_want_memory theory events (asserting e ∷ rest))
  unfolding batch_may_want_memory asserted with_few_mentions
  may_want-first absent room =
      ap may_want_by
      (cond-false (has_id e.id events) (Err (Duplicate e.id)) (cond (leb most_events (length events)) (Err FullEvents) (with_few_mentions theory (with_event e events))) absent
      ∙ cond-false (leb most_events (length events)) (Err FullEvents) (with_few_mentions theory (with_event e events)) (lt-leb most_events (length events) room))
      ∙ by_tests (ltb most_mentions (length (mentions_of theory (with_event e events)))) (ltb most_links (link_count theory (with_event e events)))
    where
      by_tests : (many linked : Bool) → may_want_by (cond many (Err FullMentions) (cond linked (Err FullLinks) (Ok (with_event e events)))) ≡ true
      by_tests true linked = refl
      by_tests false true = refl
      by_tests false false = refl

module _ (theory : Theory) (events : List PlainEvent) (id : List ℕ) (rest : List PlainUpdate) where
  -- an identity that is absent
  pub unknown-first : IsFalse (has_id id events) → updated_by theory events (retracting id ∷ rest) ≡ Err (1, Unknown id)
  unfolding updated_from retracted
  unknown-first absent =
      ap (λ r. after_update 1 r (λ after. updated_from theory 2 after rest)) (cond-false (has_id id events) (Ok (without_event id events)) (Err (Unknown id)) absent)

  -- for one that is present memory may be wanting
  pub may_want-departure : IsTrue (has_id id events) → IsTrue (batch_may_want_memory theory events (retracting id ∷ rest))
  unfolding batch_may_want_memory retracted
  may_want-departure present = ap may_want_by (cond-true (has_id id events) (Ok (without_event id events)) (Err (Unknown id)) present)
