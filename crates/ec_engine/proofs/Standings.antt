-- An engine of no event, and what its parts stand for.
use Rattle.std.proofs.Common.{◌≡◌, ℤ, List, [], sym, ap, subst, ◌∙◌, arith}
use Rattle.ec_terms.specs.declared.theory.Theory.{Theory}
use Rattle.ec_axioms.specs.Calculus.{PlainEvent}
use Rattle.ec_axioms.specs.Links.{link_count, mentions_of}
use Rattle.ec_store.specs.Store.{history_of}
use Rattle.ec_parts.specs.declared.parts.Parts.{Parts}
use Rattle.ec_parts.specs.declared.tally.Tally.{Tally}
use Rattle.ec_parts.specs.StandFor.{StandFor, View}
use Rattle.ec_batch.specs.Limits.{IsWithinLimits}
use Rattle.ec_engine.specs.Standing.{IsEngine, IsStanding, Standing}

-- no events are within the limits
pub IsWithinLimits-none : (theory : Theory) → IsWithinLimits theory []
unfolding mentions_of link_count
IsWithinLimits-none theory = record { few_events = omega arith; few_mentions = omega arith; few_links = omega arith }

-- an engine of no event
pub IsEngine-new : {T : Type 0} (rank : T → ℤ) (checked theory : Theory) (view : View T) (tally : Tally) → StandFor rank checked [] view tally → theory ≡ checked
    → IsEngine rank theory view tally
IsEngine-new rank checked theory view tally stand same =
    let events : [] ≡ history_of rank view.store.events = sym stand.both.caches.events_of in
    record {
      stand = subst (λ es. StandFor rank theory es view tally) events (subst (λ t. StandFor rank t [] view tally) (sym same) stand);
      within = subst (λ es. IsWithinLimits theory es) events (IsWithinLimits-none theory);
    }

-- it is seen as the theory and no event
pub seen-new : {T : Type 0} (rank : T → ℤ) (checked theory : Theory) (view : View T) (tally : Tally) → StandFor rank checked [] view tally → theory ≡ checked
    → (let made : Theory → List PlainEvent → Standing = λ t es. record { theory = t; events = es } in made theory (history_of rank view.store.events) ≡ made checked [])
seen-new rank checked theory view tally stand same =
    let made : Theory → List PlainEvent → Standing = λ t es. record { theory = t; events = es } in
    ap (λ t. made t (history_of rank view.store.events)) same ∙ ap (made checked) stand.both.caches.events_of

-- the parts of an engine stand for what it is seen as
pub IsStanding-seen : {T : Type 0} (rank : T → ℤ) (theory : Theory) (view : View T) (tally : Tally) (seen : Standing) → IsEngine rank theory view tally
    → (let made : Theory → List PlainEvent → Standing = λ t es. record { theory = t; events = es } in made theory (history_of rank view.store.events) ≡ seen)
    → IsStanding rank seen.theory seen.events view
IsStanding-seen rank theory view tally seen engine is =
    subst (λ (s : Standing). IsStanding rank s.theory s.events view) is (record { tally = tally; stand = engine.stand; within = engine.within })

-- parts that stand for a list within the limits are those of an engine
pub IsEngine-standing : {T : Type 0} (rank : T → ℤ) (theory : Theory) (events : List PlainEvent) (view : View T) (tally : Tally) → StandFor rank theory events view tally → IsWithinLimits theory events
    → IsEngine rank theory view tally
IsEngine-standing rank theory events view tally stand within =
    let same : events ≡ history_of rank view.store.events = sym stand.both.caches.events_of in
    record { stand = subst (λ es. StandFor rank theory es view tally) same stand; within = subst (λ es. IsWithinLimits theory es) same within }

-- the same parts are within the same limits
pub within-same : {T M I X : Type 0} (rank : T → ℤ) (one other : Parts T M I X) → one ≡ other → IsWithinLimits other.checked (history_of rank other.store.events) → IsWithinLimits one.checked (history_of rank one.store.events)
within-same rank one other same within = subst (λ (p : Parts _ _ _ _). IsWithinLimits p.checked (history_of rank p.store.events)) (sym same) within

-- the same parts are seen as the same
pub seen-same : {T M I X : Type 0} (rank : T → ℤ) (one other : Parts T M I X) (seen : Standing) → one ≡ other
    → (let made : Theory → List PlainEvent → Standing = λ t es. record { theory = t; events = es } in made other.checked (history_of rank other.store.events) ≡ seen)
    → (let made : Theory → List PlainEvent → Standing = λ t es. record { theory = t; events = es } in made one.checked (history_of rank one.store.events) ≡ seen)
seen-same rank one other seen same is =
    let made : Theory → List PlainEvent → Standing = λ t es. record { theory = t; events = es } in
    ap (λ (p : Parts _ _ _ _). made p.checked (history_of rank p.store.events)) same ∙ is
