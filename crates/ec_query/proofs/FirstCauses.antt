-- The first cause of a change, found event by event.
use Rattle.std.proofs.Common.{◌≡◌, ℕ, ◌+◌, ℤ, Bool, true, false, cond, ◌&&◌, ◌||◌, List, [], ◌∷◌, length, drop, filter, find, flat_map, Option, Some, None, option_map, IsTrue, IsFalse, refl, sym, ap, ap₂, ◌∙◌, arith}
use Rattle.std.specs.Prelude.{nat_lt, slice_get}
use Rattle.std.specs.List.{list_any}
use Rattle.std.specs.Option.{option_or}
use Rattle.std.specs.Ordering.{int_eq}
use Rattle.std.proofs.lemmas.Bool.{false≢true}
use Rattle.std.proofs.lemmas.List.Folds.{find-append}
use Rattle.ec_lists.proofs.Finds.{find-filter}
use Rattle.ec_lists.proofs.Tests.{list_any-and, list_any-filter, list_any-or, list_any-same, nat_lt-filter}
use Rattle.ec_terms.specs.declared.ground.Ground.{Ground}
use Rattle.ec_terms.specs.declared.theory.Theory.{Theory}
use Rattle.ec_terms.specs.Domain.{GroundEntry, is_strong}
use Rattle.ec_axioms.specs.Calculus.{Currency, Effect, PlainCause, PlainEvent, cause_of, cause_of_first, effects_at, effects_of, first_cause, has_break, has_effect, is_active, is_breaking, is_clashing, is_current, is_initiated, is_initiating, is_terminated}
use Rattle.ec_axioms.specs.Plain.{events_at}
use Rattle.ec_store.specs.Store.{Kept, history_of, plain_of}
use Rattle.ec_query.specs.Sought.{first_of_event, is_cause}
use Rattle.ec_query.proofs.KeptWalks.{walk-here}

-- the cause of the first that passes
cause_of_first-find : (p : Effect → Bool) (effects : List Effect) → cause_of_first (filter p effects) ≡ option_map cause_of (find p effects)
cause_of_first-find p [] = refl
cause_of_first-find p (effect ∷ effects) = by_test (p effect) (cause_of_first-find p effects)
  where
    by_test : (b : Bool) → cause_of_first (filter p effects) ≡ option_map cause_of (find p effects)
        → cause_of_first (cond b (effect ∷ filter p effects) (filter p effects)) ≡ option_map cause_of (cond b (Some effect) (find p effects))
    by_test true rest = refl
    by_test false rest = rest

module _ (theory : Theory) (events : List PlainEvent) (wanted : GroundEntry → Bool) where
  -- the first cause among the entries of some events
  pub first_among : List PlainEvent → Option PlainCause
  first_among es = option_map cause_of (find (is_cause theory events wanted) (flat_map (effects_of theory) es))

  pub first_among-none : first_among [] ≡ None
  unfolding first_among
  first_among-none = refl

  pub first_among-first : (e : PlainEvent) (es : List PlainEvent) → first_among (e ∷ es) ≡ option_or (first_of_event theory events wanted e) (first_among es)
  unfolding first_among
  first_among-first e es =
      ap (option_map cause_of) (find-append (is_cause theory events wanted) (effects_of theory e) (flat_map (effects_of theory) es))
      ∙ of_either (find (is_cause theory events wanted) (effects_of theory e)) (find (is_cause theory events wanted) (flat_map (effects_of theory) es))
    where
      of_either : (a b : Option Effect) → option_map cause_of (option_or a b) ≡ option_or (option_map cause_of a) (option_map cause_of b)
      of_either None b = refl
      of_either (Some x) b = refl

  -- the first cause at a time is that among the entries of the events there
  pub first_among-at : (t : ℤ) → first_among (events_at t events) ≡ first_cause theory events wanted t
  unfolding first_among first_cause effects_at
  first_among-at t =
      let effects : List Effect = flat_map (effects_of theory) (events_at t events) in
      sym (cause_of_first-find (is_active (is_current theory events)) (filter (λ (effect : Effect). wanted effect.entry) effects)
      ∙ ap (option_map cause_of) (find-filter (is_active (is_current theory events)) (λ (effect : Effect). wanted effect.entry) effects))

  -- where something takes effect there is a first cause
  pub first_cause-some : (t : ℤ) → IsTrue (has_effect theory events (is_current theory events) wanted t) → first_cause theory events wanted t ≡ None → ⊥
  unfolding first_cause has_effect
  first_cause-some t some none = of (effects_at theory events (is_current theory events) wanted t) some none
    where
      of : (effects : List Effect) → nat_lt 0 (length effects) ≡ true → cause_of_first effects ≡ None → ⊥
      of [] some none = absurd (false≢true some)
      of (effect ∷ effects) some none = absurd (cc)

-- a property is broken otherwise than by a termination exactly where some entry breaks it so
pub has_effect-breaking : (theory : Theory) (events : List PlainEvent) (current : Currency) (p : Ground) (t : ℤ)
    → has_effect theory events current (is_breaking theory p) t
    ≡ (has_effect theory events current (is_clashing theory p) t || (is_strong theory p && has_effect theory events current (is_initiating p) t))
unfolding has_effect effects_at is_breaking
has_effect-breaking theory events current p t =
    let all : List Effect = flat_map (effects_of theory) (filter (λ (e : PlainEvent). int_eq e.rank t) events) in
    let some : (w : GroundEntry → Bool) → nat_lt 0 (length (filter (is_active current) (filter (λ (effect : Effect). w effect.entry) all))) ≡ list_any (λ (effect : Effect). w effect.entry && is_active current effect) all =
    λ w. nat_lt-filter (is_active current) (filter (λ (effect : Effect). w effect.entry) all) ∙ list_any-filter (is_active current) (λ (effect : Effect). w effect.entry) all in
    some (is_breaking theory p)
    ∙ list_any-same (λ (effect : Effect). is_breaking theory p effect.entry && is_active current effect)
    (λ (effect : Effect). (is_clashing theory p effect.entry && is_active current effect) || (is_strong theory p && (is_initiating p effect.entry && is_active current effect)))
    (λ effect. split (is_clashing theory p effect.entry) (is_strong theory p) (is_initiating p effect.entry) (is_active current effect)) all
    ∙ sym (list_any-or (λ (effect : Effect). is_clashing theory p effect.entry && is_active current effect) (λ (effect : Effect). is_strong theory p && (is_initiating p effect.entry && is_active current effect)) all)
    ∙ ap₂ (λ a b. a || b) (sym (some (is_clashing theory p)))
    (sym (list_any-and (is_strong theory p) (λ (effect : Effect). is_initiating p effect.entry && is_active current effect) all) ∙ ap (λ b. is_strong theory p && b) (sym (some (is_initiating p))))
  where
    split : (clashing strong initiating active : Bool) → ((clashing || (strong && initiating)) && active) ≡ ((clashing && active) || (strong && (initiating && active)))
    split clashing strong initiating active = grind arith

-- a break that is no termination has an effect that breaks
pub has_break-breaking : (theory : Theory) (events : List PlainEvent) (p : Ground) (t : ℤ) → IsTrue (has_break theory events (is_current theory events) p t)
    → IsFalse (is_terminated theory events (is_current theory events) p t) → IsTrue (has_effect theory events (is_current theory events) (is_breaking theory p) t)
unfolding has_break
has_break-breaking theory events p t break not_ended =
    has_effect-breaking theory events (is_current theory events) p t
    ∙ rest (is_terminated theory events (is_current theory events) p t) (has_effect theory events (is_current theory events) (is_clashing theory p) t) (is_strong theory p && is_initiated theory events (is_current theory events) p t) break not_ended
  where
    rest : (a b c : Bool) → (a || b || c) ≡ true → a ≡ false → (b || c) ≡ true
    rest a b c some ended = grind arith

-- the first cause from an event at the time on is that of the event, or else that behind it
pub first_among-here : {T : Type 0} (rank : T → ℤ) (theory : Theory) (events : List PlainEvent) (wanted : GroundEntry → Bool) (t : ℤ) (kept : List (Kept T)) (i : ℕ) (k : Kept T)
    → slice_get kept i ≡ Some k → int_eq (rank k.1.at) t ≡ true → (own : Option PlainCause) → own ≡ first_of_event theory events wanted (plain_of rank k)
    → option_or own (first_among theory events wanted (events_at t (history_of rank (drop (i + 1) kept)))) ≡ first_among theory events wanted (events_at t (history_of rank (drop i kept)))
first_among-here rank theory events wanted t kept i k there at own is =
    ap (λ o. option_or o (first_among theory events wanted (events_at t (history_of rank (drop (i + 1) kept))))) is
    ∙ sym (first_among-first theory events wanted (plain_of rank k) (events_at t (history_of rank (drop (i + 1) kept))))
    ∙ ap (first_among theory events wanted) (sym (walk-here rank t kept i k there at))
