-- One event that comes in: which properties are listed, and what it comes to as a batch.
use Rattle.std.proofs.Common.{◌≡◌, ℕ, Bool, true, false, List, [], ◌∷◌, None, IsSome, sym, ap, ◌∙◌}
use Rattle.std.specs.Prelude.{Ok, Err}
use Rattle.std.proofs.lemmas.Bool.{false≢true, or_left}
use Rattle.ec_terms.specs.declared.theory.Theory.{Theory}
use Rattle.ec_axioms.specs.declared.event.Cut.{Cut}
use Rattle.ec_axioms.specs.Calculus.{PlainEvent}
use Rattle.ec_axioms.specs.Changes.{after_update, asserting}
use Rattle.ec_store.specs.Table.{KeptProp, prop_at, term_at}
use Rattle.ec_parts.specs.Tables.{KeepsOnlyLive}
use Rattle.ec_replies.specs.Runs.{batch_may_want_memory, may_want_by}
use Rattle.ec_replies.specs.Updates.{asserted, updated_by, updated_from}
use Rattle.ec_batch.specs.Walk.{AreLiveOrListed}
use Rattle.ec_batch.proofs.WalkSteps.{listed-more, new_terms}

-- ---- what is listed

-- what is kept once new properties are listed is live or listed, where what was kept before is live
pub listed_entered : (theory : Theory) (events : List PlainEvent) (before after : List KeptProp) (listed : ℕ → Bool) → KeepsOnlyLive theory events before
    → ((id : ℕ) → IsSome (prop_at id before) → prop_at id after ≡ prop_at id before)
    → ((id : ℕ) → IsSome (prop_at id after) → prop_at id before ≡ None → listed id ≡ true) → AreLiveOrListed theory events after listed
listed_entered theory events before after listed lives same fresh =
    listed-more theory events events before after (λ id. false) listed (new_terms before after listed same fresh) (λ id p is live. or_left _ _ live) (λ id was. absurd (false≢true was))
    (λ id p is. or_left _ _ (lives id p is))

-- and so it is in a table of the same terms
pub listed_terms : (theory : Theory) (events : List PlainEvent) (before after : List KeptProp) (listed : ℕ → Bool) → ((id : ℕ) → term_at id after ≡ term_at id before)
    → AreLiveOrListed theory events before listed → AreLiveOrListed theory events after listed
listed_terms theory events before after listed terms were id p is = were id p (sym (terms id) ∙ is)

-- ---- a batch of this event

-- what is made of the event is made of the batch
pub made_alone : (theory : Theory) (before after : List PlainEvent) (e : PlainEvent) → asserted theory before e ≡ Ok after → updated_by theory before (asserting e ∷ []) ≡ Ok after
unfolding updated_from
made_alone theory before after e is = ap (λ r. after_update 1 r (λ es. updated_from theory 2 es [])) is

-- and so it is refused, at its first place
pub refused_alone : (theory : Theory) (before : List PlainEvent) (cut : Cut) (e : PlainEvent) → asserted theory before e ≡ Err cut → updated_by theory before (asserting e ∷ []) ≡ Err (1, cut)
unfolding updated_from
refused_alone theory before cut e is = ap (λ r. after_update 1 r (λ es. updated_from theory 2 es [])) is

-- memory may run out for it where it may for the event
pub may_want_alone : (theory : Theory) (before : List PlainEvent) (e : PlainEvent) → may_want_by (asserted theory before e) ≡ true → batch_may_want_memory theory before (asserting e ∷ []) ≡ true
unfolding batch_may_want_memory
may_want_alone theory before e may = may
