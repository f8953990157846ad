-- The account of an instant: what takes effect in the new list, what took effect in the old one, and what turned between.
use Rattle.std.proofs.Common.{◌≡◌, ℕ, ◌+◌, ℤ, Bool, false, not, ◌&&◌, List, [], ◌∷◌, length, filter, refl, sym, ap, ap₂, subst, ◌∙◌, arith, IsTrue}
use Rattle.std.specs.List.{sum_by}
use Rattle.std.specs.Bool.{beq}
use Rattle.std.specs.Ordering.{int_eq}
use Rattle.std.proofs.lemmas.List.Filters.{sum_by-filter_both}
use Rattle.ec_lists.proofs.Filters.{filter_comm}
use Rattle.ec_terms.specs.declared.theory.Theory.{Theory}
use Rattle.ec_terms.specs.Domain.{GroundLiteral, GroundEntry}
use Rattle.ec_axioms.specs.Plain.{events_at}
use Rattle.ec_axioms.specs.Calculus.{PlainEvent, Currency, is_active, effects_at, is_current, is_initiating, is_terminating, is_clashing}
use Rattle.ec_axioms.specs.Marks.{mark_at}
use Rattle.ec_axioms.specs.Changes.{has_event, kept_events, events_only_in, sees_change}
use Rattle.ec_axioms.proofs.Members.{list_any-false, list_any-member, member-list_any}
use Rattle.ec_changes.specs.Differences.{differs, reads}
use Rattle.ec_changes.specs.Turns.{kept_entries_at, gained, lost}
use Rattle.ec_terms.specs.Term.{term_eq}
use Rattle.ec_terms.proofs.OrderLemmas.{term_eq-Decides}
use Rattle.ec_changes.specs.TurnLaws.{SeeingIsReading, UnseenStays, EffectsFollowTurns, MarksFollowTurns}
use Rattle.ec_changes.proofs.Activity.{is_active-each, reads-literal}
use Rattle.ec_changes.proofs.KeptEvents.{kept_events-both}
use Rattle.ec_changes.proofs.Tallies.{effects_of_event, length-effects_at}

-- ---- activity

-- the law
pub UnseenStays-law : UnseenStays
unfolding sees_change
UnseenStays-law theory old new effect unseen =
    is_active-each (is_current theory old) (is_current theory new) effect
    (λ literal member.
    same (is_current theory old literal.prop effect.event.rank) (is_current theory new literal.prop effect.event.rank)
    (list_any-false (λ (other : GroundLiteral). not (beq (is_current theory old other.prop effect.event.rank) (is_current theory new other.prop effect.event.rank)))
    effect.entry.literals literal unseen member))
  where
    same : (a b : Bool) → not (beq a b) ≡ false → a ≡ b
    same a b equal = grind arith

-- the law
pub SeeingIsReading-law : SeeingIsReading
unfolding sees_change differs reads
SeeingIsReading-law theory old new effect = (
  λ seen. let found = list_any-member changed effect.entry.literals seen in (found.0.prop, found.2, reads-literal effect found.0 found.1),
  λ known.
      let found = list_any-member (λ (literal : GroundLiteral). term_eq literal.prop known.0) effect.entry.literals known.2 in
      let same : found.0.prop ≡ known.0 = (term_eq-Decides found.0.prop known.0).0 found.2 in
      member-list_any changed effect.entry.literals found.0 found.1 (subst (λ p. IsTrue (differs theory old new p effect.event.rank)) (sym same) known.1),
)
  where
    changed : GroundLiteral → Bool
    changed literal = not (beq (is_current theory old literal.prop effect.event.rank) (is_current theory new literal.prop effect.event.rank))

-- ---- accounts

-- of some members, those that pass the second test and those that pass the first alone are as many as those that pass
-- the first and those that pass the second alone
pub length-filter_turned : {X : Type 0} (before after : X → Bool) (xs : List X)
    → length (filter after xs) + length (filter (λ x. before x && not (after x)) xs)
    ≡ length (filter before xs) + length (filter (λ x. not (before x) && after x) xs)
length-filter_turned before after [] = refl
length-filter_turned before after (x ∷ xs) = let rest = length-filter_turned before after xs in grind arith

-- the effects of a list at an instant are those of a part of it that passes a test and those of the rest
length-effects_at_both : (theory : Theory) (events : List PlainEvent) (current : Currency) (wanted : GroundEntry → Bool) (t : ℤ) (k : PlainEvent → Bool)
    → length (effects_at theory (filter k events) current wanted t) + length (effects_at theory (filter (λ e. not (k e)) events) current wanted t)
    ≡ length (effects_at theory events current wanted t)
length-effects_at_both theory events current wanted t k =
    let own : PlainEvent → ℕ = λ e. length (effects_of_event theory current wanted e) in
    let part : (q : PlainEvent → Bool) → length (effects_at theory (filter q events) current wanted t) ≡ sum_by own (filter q (events_at t events)) =
    λ q. length-effects_at theory (filter q events) current wanted t ∙ ap (sum_by own) (filter_comm (λ (e : PlainEvent). int_eq e.rank t) q events) in
    ap₂ (λ a b. a + b) (part k) (part (λ e. not (k e)))
    ∙ sum_by-filter_both k (λ e. not (k e)) (λ e. refl) own (events_at t events)
    ∙ sym (length-effects_at theory events current wanted t)

-- the law
pub EffectsFollowTurns-law : EffectsFollowTurns
unfolding gained lost effects_at kept_events events_only_in
EffectsFollowTurns-law theory old new wanted t history_old history_new =
    let before : Currency = is_current theory old in
    let after : Currency = is_current theory new in
    let of_old = length-effects_at_both theory old before wanted t (has_event new) in
    let of_new = length-effects_at_both theory new after wanted t (has_event old) in
    let kept : length (effects_at theory (filter (has_event new) old) after wanted t) ≡ length (effects_at theory (filter (has_event old) new) after wanted t) =
    ap (λ events. length (effects_at theory events after wanted t)) (kept_events-both old new history_old history_new) in
    let turned = length-filter_turned (is_active before) (is_active after) (kept_entries_at theory old new wanted t) in
    account _ _ _ _ _ _ _ _ _ of_old of_new kept turned
  where
    account : (old_kept gone old_all new_kept added new_all kept_after off on : ℕ) → old_kept + gone ≡ old_all → new_kept + added ≡ new_all → kept_after ≡ new_kept
        → kept_after + off ≡ old_kept + on → new_all + (off + gone) ≡ old_all + (on + added)
    account old_kept gone old_all new_kept added new_all kept_after off on a b c d = omega arith

-- the law
pub MarksFollowTurns-law : MarksFollowTurns
unfolding mark_at
MarksFollowTurns-law theory old new p t history_old history_new = record {
  inits = EffectsFollowTurns-law theory old new (is_initiating p) t history_old history_new;
  terms = EffectsFollowTurns-law theory old new (is_terminating p) t history_old history_new;
  clashes = EffectsFollowTurns-law theory old new (is_clashing theory p) t history_old history_new;
}
