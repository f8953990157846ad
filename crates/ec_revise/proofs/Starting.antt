-- A sweep starts before all events that stand in one list alone, with nothing found.
use Rattle.std.proofs.Common.{◌≡◌, ℤ, pos, ◌+ℤ◌, ◌≤ℤ◌, ◌<ℤ◌, Bool, true, false, not, ◌&&◌, List, [], length, flat_map, IsFalse, refl, sym, ap, subst, ◌∙◌, inl, arith}
use Rattle.std.specs.Prelude.{Contains, int_lt, int_le, is_some}
use Rattle.std.specs.Ordering.{int_eq}
use Rattle.std.specs.Bool.{beq}
use Rattle.std.proofs.lemmas.Bool.{false≢true, false_from_ne_true}
use Rattle.std.proofs.lemmas.Int.{ints}
use Rattle.ec_lists.proofs.Booleans.{not-and_same, and-not_same}
use Rattle.ec_lists.proofs.Integers.{int_lt-is}
use Rattle.ec_terms.specs.declared.theory.Theory.{Theory}
use Rattle.ec_axioms.specs.Plain.{events_at}
use Rattle.ec_axioms.specs.Calculus.{PlainEvent, Effect, effects_of, is_active, is_current}
use Rattle.ec_axioms.specs.Changes.{kept_effects}
use Rattle.ec_axioms.proofs.Members.{IsMember-from_contains, filter_none, list_all-member}
use Rattle.ec_changes.specs.Differences.{differs, entries_at}
use Rattle.ec_changes.specs.Turns.{sees, turns_on, turns_off, kept_count}
use Rattle.ec_changes.specs.QuietLaws.{DifferFrom, IsSameUpTo, single_events}
use Rattle.ec_changes.proofs.Activity.{rank-entries_at}
use Rattle.ec_changes.proofs.Past.{EventsStay-law, PastStays-law}
use Rattle.ec_changes.proofs.TurnAccounts.{SeeingIsReading-law}
use Rattle.ec_revise.specs.SweepLaws.{SweepStarts}
use Rattle.ec_revise.proofs.OtherCurrency.{other_currency-same}

-- a test that fails at each entry before t counts none there
kept_count-before : (theory : Theory) (old new : List PlainEvent) (test : Effect → Bool) (t : ℤ)
    → ((effect : Effect) → effect.event.rank <ℤ t → IsFalse (test effect)) → kept_count theory old new test t ≡ 0
unfolding kept_count
kept_count-before theory old new test t none =
    ap length (filter_none (λ (effect : Effect). int_lt effect.event.rank t && test effect) (kept_effects theory old new)
    (λ effect member. fails (int_lt effect.event.rank t) (test effect) (λ before. none effect (int_lt-is effect.event.rank t before))))
  where
    fails : (b c : Bool) → (b ≡ true → c ≡ false) → (b && c) ≡ false
    fails true c never = never refl
    fails false c never = refl

-- before the first event of one list alone both lists have the same events
events_at-before : (old new : List PlainEvent) (t u : ℤ) → DifferFrom t old new → u <ℤ t → events_at u (single_events old new) ≡ []
events_at-before old new t u late before =
    filter_none (λ (e : PlainEvent). int_eq e.rank u) (single_events old new)
    (λ e member. let after = list_all-member (λ (f : PlainEvent). int_le t f.rank) (single_events old new) e late member in apart e.rank after)
  where
    apart : (s : ℤ) → int_le t s ≡ true → int_eq s u ≡ false
    apart s after = grind (arith, ints)

-- the law
pub SweepStarts-law : SweepStarts
unfolding differs
SweepStarts-law theory old new kept r found compared late nothing = record {
  dirty = λ p. nothing.dirty p ∙ sym (other_currency-same _ _ (past.currency p (r +ℤ pos 1) (omega (arith, ints))));
  marks = λ p t keeps within. rw (nothing.planned p t) (past.marks p t (omega (arith, ints)));
  none_planned = λ p t after. nothing.planned p t;
  active = λ effect t within contained.
      nothing.active effect t (subst (λ events. Contains events effect) (sym (entries t within)) contained)
      ∙ past.activity effect (let rank = rank-entries_at theory new t effect (IsMember-from_contains (entries_at theory new t) effect contained) in omega (arith, ints));
  not_yet = λ effect t after contained. nothing.active effect t contained;
  inert = λ p t keeps within unmattered. inl (past.marks p t (omega (arith, ints)));
  seen = nothing.seen ∙ sym (kept_count-before theory old new (sees theory old new) (r +ℤ pos 1) unseen);
  on = nothing.on ∙ sym (kept_count-before theory old new (turns_on theory old new) (r +ℤ pos 1) (λ effect before. not-and_same _ _ (active effect before)));
  off = nothing.off ∙ sym (kept_count-before theory old new (turns_off theory old new) (r +ℤ pos 1) (λ effect before. and-not_same _ _ (active effect before)));
  due = λ p u dirty after bears. absurd (false≢true (sym (ap is_some (nothing.dirty p)) ∙ dirty));
  ahead = λ p t due. absurd (false≢true (sym (nothing.agenda p t) ∙ due));
}
  where
    past : IsSameUpTo theory old new (r +ℤ pos 1)
    past = PastStays-law theory old new (r +ℤ pos 1) compared.old_history compared.new_history late

    entries : (t : ℤ) → t ≤ℤ r → entries_at theory old t ≡ entries_at theory new t
    entries t within =
        ap (λ events. flat_map (effects_of theory) events)
        (EventsStay-law old new t compared.old_history compared.new_history (events_at-before old new (r +ℤ pos 1) t late (omega (arith, ints))))

    active : (effect : Effect) → effect.event.rank <ℤ (r +ℤ pos 1) → is_active (is_current theory old) effect ≡ is_active (is_current theory new) effect
    active effect before = past.activity effect (omega (arith, ints))

    unseen : (effect : Effect) → effect.event.rank <ℤ (r +ℤ pos 1) → IsFalse (sees theory old new effect)
    unseen effect before =
        false_from_ne_true (sees theory old new effect)
        (λ seeing. let seen = (SeeingIsReading-law theory old new effect).0 seeing in
        absurd (never _ _ (past.currency seen.0 effect.event.rank (omega (arith, ints))) seen.1))
      where
        never : (b c : Bool) → b ≡ c → not (beq b c) ≡ true → ⊥
        never true c same differ = false≢true (grind arith)
        never false c same differ = false≢true (grind arith)
