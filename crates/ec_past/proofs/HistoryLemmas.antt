-- A history that is built of its own events is itself.
use Rattle.std.proofs.Common.{◌≡◌, ◌+◌, ◌*◌, ℕ, List, [], ◌∷◌, ◌++◌, length, map, IsTrue, IsFalse, refl, sym, ap, subst, ◌∙◌, inl, inr}
use Rattle.std.specs.Prelude.{bytes_eq, Ok}
use Rattle.std.specs.List.{fold}
use Rattle.std.proofs.lemmas.Bool.{cond-false, false_from_ne_true}
use Rattle.std.proofs.lemmas.List.{append_assoc}
use Rattle.ec_lists.proofs.Numbers.{bytes_eq-turned}
use Rattle.ec_terms.specs.declared.theory.Theory.{Theory}
use Rattle.ec_axioms.specs.Calculus.{PlainEvent}
use Rattle.ec_axioms.specs.Changes.{PlainUpdate, comes_before, has_id, is_history, with_event, work_between}
use Rattle.ec_axioms.proofs.Histories.{comes_before-trans, history_parts}
use Rattle.ec_axioms.proofs.Members.{IsMember, IsPairwise, list_any-false}
use Rattle.ec_changes.proofs.DistinctLists.{IsDistinct-from_pairwise}
use Rattle.ec_changes.proofs.KeptEvents.{IsPairwise-from_history, comes_before-itself}
use Rattle.ec_replies.specs.RunLaws.{IsListWithinLimits}
use Rattle.ec_replies.specs.Updates.{updated_by}
use Rattle.ec_batch.specs.Build.{HaveOwnIds, history_from}
use Rattle.ec_batch.specs.Limits.{IsWithinLimits}
use Rattle.ec_engine.specs.Revise.{most_steps, steps_by}

-- an absent identity is that of no event
differs : (e : PlainEvent) (rest : List PlainEvent) → IsFalse (has_id e.id rest) → (f : PlainEvent) → IsMember rest f → IsFalse (bytes_eq e.id f.id)
unfolding has_id
differs e rest absent f member = bytes_eq-turned f.id e.id (list_any-false (λ (g : PlainEvent). bytes_eq g.id e.id) rest f absent member)

-- no two of its events have the same identity
pub HaveOwnIds-history : (events : List PlainEvent) → IsTrue (is_history events) → HaveOwnIds events
HaveOwnIds-history events history = IsDistinct-from_pairwise bytes_eq (map (λ (e : PlainEvent). e.id) events) (apart events history)
  where
    others : (e : PlainEvent) (rest : List PlainEvent) → ((f : PlainEvent) → IsMember rest f → IsFalse (bytes_eq e.id f.id)) → (id : List ℕ) → IsMember (map (λ (f : PlainEvent). f.id) rest) id → IsFalse (bytes_eq e.id id)
    others e [] differ id member = absurd member
    others e (f ∷ rest) differ id (inl same) = subst (λ (i : List ℕ). IsFalse (bytes_eq e.id i)) same (differ f (inl refl))
    others e (f ∷ rest) differ id (inr later) = others e rest (λ h member. differ h (inr member)) id later

    apart : (es : List PlainEvent) → IsTrue (is_history es) → IsPairwise (λ j k. IsFalse (bytes_eq j k)) (map (λ (e : PlainEvent). e.id) es)
    apart [] is = tt
    apart (e ∷ es) is = (others e es (differs e es (history_parts e es is).1), apart es (history_parts e es is).2)

-- an event behind all others is put at the end
with_event-last : (e : PlainEvent) (front : List PlainEvent) → ((f : PlainEvent) → IsMember front f → IsTrue (comes_before f e)) → with_event e front ≡ front ++ e ∷ []
unfolding with_event
with_event-last e [] before = refl
with_event-last e (f ∷ front) before =
    let not_first : IsFalse (comes_before e f) = false_from_ne_true (comes_before e f) (λ first. comes_before-itself e (comes_before-trans e f e first (before f (inl refl)))) in
    cond-false (comes_before e f) (e ∷ f ∷ front) (f ∷ with_event e front) not_first ∙ ap (λ es. f ∷ es) (with_event-last e front (λ g member. before g (inr member)))

-- those before one in a list in order come before it
all-before : (front : List PlainEvent) (e : PlainEvent) (rest : List PlainEvent) → IsPairwise (λ f g. IsTrue (comes_before f g)) (front ++ e ∷ rest) → (f : PlainEvent) → IsMember front f → IsTrue (comes_before f e)
all-before [] e rest pairs f member = absurd member
all-before (g ∷ front) e rest pairs f (inl same) = subst (λ (h : PlainEvent). IsTrue (comes_before h e)) same (pairs.0 e (between front))
  where
    between : (es : List PlainEvent) → IsMember (es ++ e ∷ rest) e
    between [] = inl refl
    between (h ∷ es) = inr (between es)
all-before (g ∷ front) e rest pairs f (inr later) = all-before front e rest pairs.1 f later

-- so a history is built as it stands
built-on : (front rest : List PlainEvent) → IsPairwise (λ f g. IsTrue (comes_before f g)) (front ++ rest) → fold (λ built e. with_event e built) front rest ≡ front ++ rest
built-on front [] pairs = append_nil front
  where
    append_nil : (es : List PlainEvent) → es ≡ es ++ []
    append_nil [] = refl
    append_nil (e ∷ es) = ap (λ fs. e ∷ fs) (append_nil es)
built-on front (e ∷ rest) pairs =
    let one = with_event-last e front (all-before front e rest pairs) in
    let joined = append_assoc front (e ∷ []) rest in
    ap (λ built. fold (λ es f. with_event f es) built rest) one
    ∙ built-on (front ++ e ∷ []) rest (subst (λ (es : List PlainEvent). IsPairwise (λ f g. IsTrue (comes_before f g)) es) (sym joined) pairs) ∙ joined

pub history_from-history : (events : List PlainEvent) → IsTrue (is_history events) → history_from events ≡ events
history_from-history events history = built-on [] events (IsPairwise-from_history events history)

-- a list within the limits, as the engine has it
pub IsWithinLimits-list : (theory : Theory) (events : List PlainEvent) → IsListWithinLimits theory events → IsWithinLimits theory events
IsWithinLimits-list theory events within = record { few_events = within.few_events; few_mentions = within.few_mentions; few_links = within.few_links }

-- the steps of a way that is accepted
pub most_steps-accepted : (theory : Theory) (before after : List PlainEvent) (updates : List PlainUpdate) → updated_by theory before updates ≡ Ok after
    → most_steps theory before updates ≡ 3 * work_between theory before after + 2 * length updates
unfolding most_steps
most_steps-accepted theory before after updates is = ap (steps_by theory before updates) is
