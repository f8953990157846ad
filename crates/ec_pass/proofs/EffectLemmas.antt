-- What some events do at an instant, event by event.
use Rattle.std.proofs.Common.{◌≡◌, ℤ, Bool, true, false, ◌&&◌, ◌||◌, List, [], ◌∷◌, ◌++◌, filter, flat_map, refl, sym, ap, ap₂, ◌∙◌, arith}
use Rattle.std.specs.List.{list_any}
use Rattle.std.specs.Ordering.{int_eq}
use Rattle.std.proofs.lemmas.Bool.{and_parts, and_from}
use Rattle.std.proofs.lemmas.List.Folds.{list_any-append}
use Rattle.std.proofs.Math.Bool.{or-false}
use Rattle.ec_lists.proofs.Tests.{list_any-filter, list_any-flat_map, list_any-map, list_any-same, nat_lt-filter}
use Rattle.ec_terms.specs.declared.ground.Ground.{Ground}
use Rattle.ec_terms.specs.declared.theory.Theory.{Theory}
use Rattle.ec_terms.specs.Domain.{GroundEntry, are_exclusive, entries_of}
use Rattle.ec_terms.proofs.DomainLemmas.{term_eq-refl}
use Rattle.ec_terms.proofs.OrderLemmas.{term_eq-Decides}
use Rattle.ec_axioms.specs.Calculus.{Currency, Effect, PlainEvent, effects_at, effects_of, has_effect, is_active, is_clashing, is_initiated, is_initiating}
use Rattle.ec_axioms.proofs.Members.{list_any-member, member-list_any}

-- an active entry of an event at the instant is wanted
abbrev pub acts_by : Theory → Currency → (GroundEntry → Bool) → PlainEvent → Bool
acts_by theory current wanted e =
    list_any (λ (g : GroundEntry). wanted g && is_active current (record { event = e; entry = g })) (entries_of theory e.term)

abbrev pub acts_at : Theory → Currency → (GroundEntry → Bool) → ℤ → PlainEvent → Bool
acts_at theory current wanted t e = int_eq e.rank t && acts_by theory current wanted e

pub has_effect-any : (theory : Theory) (events : List PlainEvent) (current : Currency) (wanted : GroundEntry → Bool) (t : ℤ)
    → has_effect theory events current wanted t ≡ list_any (acts_at theory current wanted t) events
unfolding has_effect effects_at effects_of
has_effect-any theory events current wanted t =
    nat_lt-filter (is_active current) (filter (λ (f : Effect). wanted f.entry) (flat_map (effects_of theory) (filter (λ (e : PlainEvent). int_eq e.rank t) events)))
    ∙ list_any-filter (is_active current) (λ (f : Effect). wanted f.entry) (flat_map (effects_of theory) (filter (λ (e : PlainEvent). int_eq e.rank t) events))
    ∙ list_any-flat_map (λ (f : Effect). wanted f.entry && is_active current f) (effects_of theory) (filter (λ (e : PlainEvent). int_eq e.rank t) events)
    ∙ list_any-filter (λ (e : PlainEvent). list_any (λ (f : Effect). wanted f.entry && is_active current f) (effects_of theory e)) (λ (e : PlainEvent). int_eq e.rank t) events
    ∙ list_any-same _ _
    (λ (e : PlainEvent). ap (λ b. int_eq e.rank t && b)
    (list_any-map (λ (f : Effect). wanted f.entry && is_active current f) (λ (g : GroundEntry). record { event = e; entry = g }) (entries_of theory e.term))) events

-- no event does anything
pub has_effect-nil : (theory : Theory) (current : Currency) (wanted : GroundEntry → Bool) (t : ℤ) → has_effect theory [] current wanted t ≡ false
has_effect-nil theory current wanted t = has_effect-any theory [] current wanted t

-- one event more
pub has_effect-more : (theory : Theory) (done : List PlainEvent) (e : PlainEvent) (current : Currency) (wanted : GroundEntry → Bool) (t : ℤ)
    → has_effect theory (done ++ e ∷ []) current wanted t ≡ (has_effect theory done current wanted t || acts_at theory current wanted t e)
has_effect-more theory done e current wanted t =
    has_effect-any theory (done ++ e ∷ []) current wanted t ∙ list_any-append (acts_at theory current wanted t) done (e ∷ [])
    ∙ ap₂ (λ a b. a || b) (sym (has_effect-any theory done current wanted t)) (or-false (acts_at theory current wanted t e))

-- events among which those at the instant are the same
pub has_effect-among : (theory : Theory) (done rest : List PlainEvent) (current : Currency) (wanted : GroundEntry → Bool) (t : ℤ)
    → list_any (λ (e : PlainEvent). int_eq e.rank t) rest ≡ false → has_effect theory (done ++ rest) current wanted t ≡ has_effect theory done current wanted t
has_effect-among theory done rest current wanted t none =
    has_effect-any theory (done ++ rest) current wanted t ∙ list_any-append (acts_at theory current wanted t) done rest
    ∙ ap₂ (λ a b. a || b) (sym (has_effect-any theory done current wanted t)) (later rest none)
    ∙ or-false (has_effect theory done current wanted t)
  where
    later : (es : List PlainEvent) → list_any (λ (e : PlainEvent). int_eq e.rank t) es ≡ false → list_any (acts_at theory current wanted t) es ≡ false
    later [] none = refl
    later (e ∷ es) none = let ih = later es in grind arith

-- no event is at the instant
pub has_effect-elsewhere : (theory : Theory) (events : List PlainEvent) (current : Currency) (wanted : GroundEntry → Bool) (t : ℤ)
    → list_any (λ (e : PlainEvent). int_eq e.rank t) events ≡ false → has_effect theory events current wanted t ≡ false
has_effect-elsewhere theory events current wanted t none =
    has_effect-among theory [] events current wanted t none ∙ has_effect-nil theory current wanted t

-- ---- clashes

-- a clash is that a property is initiated that is exclusive to the one
module _ (theory : Theory) (events : List PlainEvent) (current : Currency) (q : Ground) (t : ℤ) where
  clash_entry : (p : Ground) (g : GroundEntry) → is_initiating p g ≡ true → are_exclusive theory q p ≡ true → is_clashing theory q g ≡ true
  unfolding is_clashing is_initiating
  clash_entry p g initiates exclusive =
      let parts = and_parts _ _ initiates in
      let head : g.head ≡ p = (term_eq-Decides g.head p).0 parts.1 in
      and_from _ _ (and_from _ _ parts.0 (term_eq-refl g.head)) (ap (are_exclusive theory q) head ∙ exclusive)

  pub clash_to : (p : Ground) → is_initiated theory events current p t ≡ true → are_exclusive theory q p ≡ true → has_effect theory events current (is_clashing theory q) t ≡ true
  clash_to p initiated exclusive =
      let found = list_any-member (acts_at theory current (is_initiating p) t) events (sym (has_effect-any theory events current (is_initiating p) t) ∙ initiated) in
      let e = found.0 in
      let parts = and_parts _ _ found.2 in
      let entry = list_any-member (λ (g : GroundEntry). is_initiating p g && is_active current (record { event = e; entry = g })) (entries_of theory e.term) parts.1 in
      let acts = and_parts _ _ entry.2 in
      has_effect-any theory events current (is_clashing theory q) t
      ∙ member-list_any (acts_at theory current (is_clashing theory q) t) events e found.1
      (and_from _ _ parts.0
      (member-list_any (λ (g : GroundEntry). is_clashing theory q g && is_active current (record { event = e; entry = g })) (entries_of theory e.term) entry.0 entry.1
      (and_from _ _ (clash_entry p entry.0 acts.0 exclusive) acts.1)))

  clash_head : (g : GroundEntry) → is_clashing theory q g ≡ true → (is_initiating g.head g ≡ true) × (are_exclusive theory q g.head ≡ true)
  unfolding is_clashing
  clash_head g clashes = and_parts _ _ clashes

  pub clash_from : has_effect theory events current (is_clashing theory q) t ≡ true
      → (p : Ground) × (is_initiated theory events current p t ≡ true) × (are_exclusive theory q p ≡ true)
  clash_from clashes =
      let found = list_any-member (acts_at theory current (is_clashing theory q) t) events (sym (has_effect-any theory events current (is_clashing theory q) t) ∙ clashes) in
      let e = found.0 in
      let parts = and_parts _ _ found.2 in
      let entry = list_any-member (λ (g : GroundEntry). is_clashing theory q g && is_active current (record { event = e; entry = g })) (entries_of theory e.term) parts.1 in
      let acts = and_parts _ _ entry.2 in
      let is = clash_head entry.0 acts.0 in (
        entry.0.head,
        has_effect-any theory events current (is_initiating entry.0.head) t
            ∙ member-list_any (acts_at theory current (is_initiating entry.0.head) t) events e found.1
            (and_from _ _ parts.0
            (member-list_any (λ (g : GroundEntry). is_initiating entry.0.head g && is_active current (record { event = e; entry = g })) (entries_of theory e.term) entry.0 entry.1
            (and_from _ _ is.0 acts.1))),
        is.1,
      )
