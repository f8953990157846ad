-- Events that are taken one by one, the history that they make, and a text that is read twice.
use Rattle.std.proofs.Common.{◌≡◌, ℕ, Bool, true, false, cond, List, [], ◌∷◌, length, codes, refl, sym, subst}
use Rattle.std.specs.Prelude.{Ok, Err, bytes_eq, nat_le, nat_lt}
use Rattle.std.specs.List.{IsDistinct}
use Rattle.ec_terms.specs.declared.theory.Theory.{Theory}
use Rattle.ec_axioms.specs.declared.event.Cut.TheVariants.{Duplicate, FullEvents, FullMentions, FullLinks}
use Rattle.ec_axioms.specs.Calculus.{PlainEvent}
use Rattle.ec_axioms.specs.Changes.{after_update, asserting, has_id, with_event}
use Rattle.ec_axioms.specs.Links.{link_count, mentions_of, most_events, most_links, most_mentions}
use Rattle.ec_replies.specs.Updates.{asserted, updated_by, updated_from, with_few_mentions}
use Rattle.ec_batch.specs.Build.{HaveOwnIds}
use Rattle.ec_theory.specs.Accepted.{IsAccepted}
use Rattle.ec_theory.specs.Reading.{Reads}
use Rattle.ec_theory.proofs.OneReading.{reading_same}

-- an event that is taken stands in its place
pub with_event-taken : (theory : Theory) (events after : List PlainEvent) (e : PlainEvent) → updated_by theory events (asserting e ∷ []) ≡ Ok after → after ≡ with_event e events
unfolding updated_from asserted with_few_mentions
with_event-taken theory events after e is =
    by_tests (has_id e.id events) (nat_le most_events (length events)) (nat_lt most_mentions (length (mentions_of theory (with_event e events)))) (nat_lt most_links (link_count theory (with_event e events))) is
  where
    by_tests : (present full many linked : Bool)
        → after_update 1 (cond present (Err (Duplicate e.id)) (cond full (Err FullEvents) (cond many (Err FullMentions) (cond linked (Err FullLinks) (Ok (with_event e events)))))) (λ es. Ok es) ≡ Ok after
        → after ≡ with_event e events
    by_tests true full many linked so = cc
    by_tests false true many linked so = cc
    by_tests false false true linked so = cc
    by_tests false false false true so = cc
    by_tests false false false false so = cc

-- a text has one theory
pub IsAccepted-one : (bytes : List ℕ) (a b : Theory) → IsAccepted bytes a → IsAccepted bytes b → a ≡ b
IsAccepted-one bytes a b first second =
    let cut = first.cut in
    let again = second.cut in
    let same : second.tokens ≡ first.tokens = cc in
    reading_same first.reads (subst (λ tokens. Reads tokens b) same second.reads)

-- three events have their own identities
pub HaveOwnIds-three : (a b c : PlainEvent) → a.id ≡ codes "e3" → b.id ≡ codes "e1" → c.id ≡ codes "e2" → HaveOwnIds (a ∷ b ∷ c ∷ [])
unfolding IsDistinct
HaveOwnIds-three a b c first second third =
    subst (λ x. IsDistinct bytes_eq (x ∷ b.id ∷ c.id ∷ [])) (sym first)
    (subst (λ y. IsDistinct bytes_eq (codes "e3" ∷ y ∷ c.id ∷ [])) (sym second)
    (subst (λ z. IsDistinct bytes_eq (codes "e3" ∷ codes "e1" ∷ z ∷ [])) (sym third) ((refl, (refl, tt)), ((refl, tt), (tt, tt)))))
