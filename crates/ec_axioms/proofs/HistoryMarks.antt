-- The marks of a history: they count what happens on the timeline of their property, and each rank with a mark is an instant.
use Rattle.std.proofs.Common.{◌≡◌, ◌+◌, ℤ, Bool, List, [], length, nat_lt, IsFalse, refl, sym, subst, ◌∙◌, ⊎_elim, arith}
use Rattle.std.specs.List.{list_any}
use Rattle.std.specs.Ordering.{int_eq}
use Rattle.std.proofs.lemmas.Bool.{cases_Bool, false≢true}
use Rattle.std.proofs.lemmas.Bool.Decides.{nat_tests}
use Rattle.ec_terms.specs.declared.ground.Ground.{Ground}
use Rattle.ec_terms.specs.declared.theory.Theory.{Theory}
use Rattle.ec_terms.specs.Domain.{GroundEntry, is_initial, is_strong}
use Rattle.ec_axioms.specs.Calculus.{PlainEvent, Effect, Currency, effects_at, has_effect, has_break, timeline_by, timeline_of, is_current, instants_of, is_initiating, is_terminating, is_clashing}
use Rattle.ec_axioms.specs.Marks.{mark_at}
use Rattle.ec_axioms.proofs.Effects.{effects_at-none, list_any-instants}
use Rattle.ec_lists.proofs.Integers.{int_eq-is}
use Rattle.ec_axioms.proofs.Members.{IsMember, list_any-member, list_any-false, filter_none}
use Rattle.ec_axioms.proofs.MarkLaws.{AreAllMarked, marked_timeline}

-- the mark at a rank has that rank
pub instant-mark_at : (theory : Theory) (events : List PlainEvent) (p : Ground) (t : ℤ) → (mark_at theory events p t).instant ≡ t
unfolding mark_at
instant-mark_at theory events p t = refl

-- the timeline of a property is counted by its marks
pub timeline_of-marks : (theory : Theory) (events : List PlainEvent) (p : Ground)
    → timeline_of theory events p ≡ marked_timeline (mark_at theory events p) (is_strong theory p) (is_initial theory p) (instants_of events)
unfolding timeline_of timeline_by has_break has_effect mark_at
timeline_of-marks theory events p = refl

-- where no event is, nothing takes effect
effects_at-no_instant : (theory : Theory) (events : List PlainEvent) (current : Currency) (wanted : GroundEntry → Bool) (t : ℤ)
    → IsFalse (list_any (λ u. int_eq u t) (instants_of events)) → effects_at theory events current wanted t ≡ []
effects_at-no_instant theory events current wanted t none =
    effects_at-none theory events current wanted t
    (filter_none (λ (e : PlainEvent). int_eq e.rank t) events
    (λ e member. list_any-false (λ (f : PlainEvent). int_eq f.rank t) events e (sym (list_any-instants (λ u. int_eq u t) events) ∙ none) member))

-- three empty lists have no member together
no_members : (a b c : List Effect) → a ≡ [] → b ≡ [] → c ≡ [] → IsFalse (nat_lt 0 (length a + length b + length c))
no_members a b c none_a none_b none_c = grind (arith, nat_tests)

-- each rank with a mark is an instant
pub AreAllMarked-mark_at : (theory : Theory) (events : List PlainEvent) (p : Ground) → AreAllMarked (mark_at theory events p) (instants_of events)
unfolding mark_at
AreAllMarked-mark_at theory events p t some =
    ⊎_elim
    (λ there.
    let found = list_any-member (λ u. int_eq u t) (instants_of events) there in
    subst (IsMember (instants_of events)) (int_eq-is found.0 t found.2) found.1)
    (λ none.
    let nothing : (wanted : GroundEntry → Bool) → effects_at theory events (is_current theory events) wanted t ≡ [] =
    λ wanted. effects_at-no_instant theory events (is_current theory events) wanted t none in
    absurd (false≢true (sym (no_members _ _ _ (nothing (is_initiating p)) (nothing (is_terminating p)) (nothing (is_clashing theory p))) ∙ some)))
    (cases_Bool (list_any (λ u. int_eq u t) (instants_of events)))
