-- What takes effect at an instant, and what is current there, follow from the events up to there and the currency before.
use Rattle.std.proofs.Common.{◌≡◌, ℤ, ◌∷◌, [], ◌++◌, Bool, List, true, false, cond, not, ◌&&◌, ◌||◌, length, filter, flat_map, map, refl, sym, ap, ap₂, ◌∙◌, subst, arith}
use Rattle.std.specs.Prelude.{int_lt, nat_lt}
use Rattle.std.specs.List.{list_any, list_all}
use Rattle.std.specs.Ordering.{int_eq}
use Rattle.std.specs.Bool.{beq}
use Rattle.std.proofs.lemmas.List.Elements.{filter-append}
use Rattle.ec_terms.specs.declared.ground.Ground.{Ground}
use Rattle.ec_terms.specs.declared.theory.Theory.{Theory}
use Rattle.ec_terms.specs.Domain.{GroundLiteral, GroundEntry, entries_of, is_initial, is_strong}
use Rattle.ec_axioms.specs.Laws.{events_before}
use Rattle.ec_axioms.specs.Timeline.{Timeline, is_current_on, instants_before, instants_between, carries, carries_initially}
use Rattle.ec_axioms.specs.Calculus.{PlainEvent, Effect, Currency, with_instant, instants_of, effects_of, agrees, is_active, effects_at, is_initiating, is_terminating, is_clashing, has_effect, is_initiated, has_break, timeline_by}
pub use Rattle.ec_lists.proofs.Filters.{filter-filter_wider}
use Rattle.ec_lists.proofs.Tests.{list_any-filter}
use Rattle.ec_lists.proofs.Integers.{int_eq-is}

-- ---- instants

-- a test among the instants with one more
list_any-with_instant : (f : ℤ → Bool) (t : ℤ) (us : List ℤ) → list_any f (with_instant t us) ≡ (f t || list_any f us)
list_any-with_instant f t [] = refl
list_any-with_instant f t (u ∷ us) = let same = int_eq-is t u in let here : t ≡ u → f t ≡ f u = ap f in grind arith

-- a test of the instants is that test of the events' ranks
pub list_any-instants : (f : ℤ → Bool) (events : List PlainEvent) → list_any f (instants_of events) ≡ list_any (λ e. f e.rank) events
unfolding instants_of
list_any-instants f [] = refl
list_any-instants f (e ∷ events) =
    let ih = list_any-instants f events in let step = list_any-with_instant f e.rank (instants_of events) in grind arith

-- ---- currency as a test of the events

-- some event strictly before t passes the test at its rank
abbrev pub any_before : (ℤ → Bool) → List PlainEvent → ℤ → Bool
any_before test events t = list_any (λ e. int_lt e.rank t && test e.rank) events

-- a break after s and before t
abbrev pub breaks_between : (ℤ → Bool) → List PlainEvent → ℤ → ℤ → Bool
breaks_between breaks events t s = any_before (λ u. int_lt s u && breaks u) events t

-- current at t by tests of the events' ranks
abbrev pub current_by : (ℤ → Bool) → (ℤ → Bool) → Bool → List PlainEvent → ℤ → Bool
current_by initiated breaks initial events t =
    any_before (λ s. initiated s && not (breaks_between breaks events t s)) events t || (initial && not (any_before breaks events t))

-- a test of the instants before t
any_before-instants : (test : ℤ → Bool) (events : List PlainEvent) (t : ℤ) →
    list_any test (filter (λ s. int_lt s t) (instants_of events)) ≡ any_before test events t
any_before-instants test events t =
    list_any-filter test (λ s. int_lt s t) (instants_of events) ∙ list_any-instants (λ s. int_lt s t && test s) events

-- tests that agree before t
pub any_before-same : (f g : ℤ → Bool) (events : List PlainEvent) (t : ℤ) → ((s : ℤ) → int_lt s t ≡ true → f s ≡ g s) →
    any_before f events t ≡ any_before g events t
any_before-same f g [] t same = refl
any_before-same f g (e ∷ events) t same =
    let ih = any_before-same f g events t same in let here = same e.rank in grind arith

-- the events before t are enough
any_before-past : (test : ℤ → Bool) (events : List PlainEvent) (t : ℤ) →
    any_before test events t ≡ any_before test (events_before t events) t
any_before-past test [] t = refl
any_before-past test (e ∷ events) t = let ih = any_before-past test events t in grind arith

-- what is current on a timeline, as a test of the events
pub is_current_on-by : (theory : Theory) (events : List PlainEvent) (current : Currency) (p : Ground) (t : ℤ) →
    is_current_on (timeline_by theory events current p) t
    ≡ current_by (is_initiated theory events current p) (has_break theory events current p) (is_initial theory p) events t
unfolding timeline_by
is_current_on-by theory events current p t =
    let line : Timeline = timeline_by theory events current p in
    let breaks : ℤ → Bool = has_break theory events current p in
    let between : (s : ℤ) → list_any breaks (instants_between line s t) ≡ breaks_between breaks events t s =
    λ s. list_any-filter breaks (λ u. int_lt s u) (instants_before line t) ∙ any_before-instants (λ u. int_lt s u && breaks u) events t in
    let carried : list_any (carries line t) (instants_before line t) ≡ any_before (carries line t) events t = any_before-instants (carries line t) events t in
    let unbroken : any_before (carries line t) events t ≡ any_before (λ s. is_initiated theory events current p s && not (breaks_between breaks events t s)) events t =
    any_before-same _ _ events t (λ s before. ap (λ b. is_initiated theory events current p s && not b) (between s)) in
    ap (λ b. b || carries_initially line t) (carried ∙ unbroken)
    ∙ ap (λ b. any_before (λ s. is_initiated theory events current p s && not (breaks_between breaks events t s)) events t || (is_initial theory p && not b))
    (any_before-instants breaks events t)

-- currency at t by tests that agree before t
pub current_by-same : (i j b c : ℤ → Bool) (initial : Bool) (events : List PlainEvent) (t : ℤ) →
    ((s : ℤ) → int_lt s t ≡ true → i s ≡ j s) → ((s : ℤ) → int_lt s t ≡ true → b s ≡ c s) →
    current_by i b initial events t ≡ current_by j c initial events t
current_by-same i j b c initial events t initiated breaks =
    let broken : any_before b events t ≡ any_before c events t = any_before-same b c events t breaks in
    let between : (s : ℤ) → breaks_between b events t s ≡ breaks_between c events t s =
    λ s. any_before-same _ _ events t (λ u before. ap (λ x. int_lt s u && x) (breaks u before)) in
    let carried : any_before (λ s. i s && not (breaks_between b events t s)) events t ≡ any_before (λ s. j s && not (breaks_between c events t s)) events t =
    any_before-same _ _ events t (λ s before. ap₂ (λ x y. x && not y) (initiated s before) (between s)) in
    ap₂ (λ x y. x || (initial && not y)) carried broken

-- the events before t are enough
pub current_by-past : (i b : ℤ → Bool) (initial : Bool) (events : List PlainEvent) (t : ℤ) →
    current_by i b initial events t ≡ current_by i b initial (events_before t events) t
current_by-past i b initial events t =
    let between : (s : ℤ) → breaks_between b events t s ≡ breaks_between b (events_before t events) t s =
    λ s. any_before-past (λ u. int_lt s u && b u) events t in
    let carried : any_before (λ s. i s && not (breaks_between b events t s)) events t
    ≡ any_before (λ s. i s && not (breaks_between b (events_before t events) t s)) (events_before t events) t =
    any_before-same _ _ events t (λ s before. ap (λ y. i s && not y) (between s))
    ∙ any_before-past (λ s. i s && not (breaks_between b (events_before t events) t s)) events t in
    ap₂ (λ x y. x || (initial && not y)) carried (any_before-past b events t)

-- ---- effects at an instant

-- the events at t
abbrev pub events_at : ℤ → List PlainEvent → List PlainEvent
events_at t events = filter (λ e. int_eq e.rank t) events

-- a literal agrees alike with currencies that agree at the instant
agrees-same : (c d : Currency) (t : ℤ) (literals : List GroundLiteral) → ((p : Ground) → c p t ≡ d p t) →
    list_all (agrees c t) literals ≡ list_all (agrees d t) literals
unfolding agrees
agrees-same c d t [] same = refl
agrees-same c d t (literal ∷ literals) same =
    ap₂ (λ x y. beq x literal.positive && y) (same literal.prop) (agrees-same c d t literals same)

-- an entry is active alike with currencies that agree at its event's time
pub is_active-same : (c d : Currency) (effect : Effect) → ((p : Ground) → c p effect.event.rank ≡ d p effect.event.rank) → is_active c effect ≡ is_active d effect
unfolding is_active
is_active-same c d effect same = agrees-same c d effect.event.rank effect.entry.literals same

-- the active effects of one event
effects-same_of_one : (c d : Currency) (e : PlainEvent) (wanted : GroundEntry → Bool) (entries : List GroundEntry) →
    ((p : Ground) → c p e.rank ≡ d p e.rank) →
    filter (is_active c) (filter (λ effect. wanted effect.entry) (map (λ entry. record { event = e; entry = entry }) entries))
    ≡ filter (is_active d) (filter (λ effect. wanted effect.entry) (map (λ entry. record { event = e; entry = entry }) entries))
unfolding is_active
effects-same_of_one c d e wanted [] same = refl
effects-same_of_one c d e wanted (entry ∷ entries) same =
    let ih = effects-same_of_one c d e wanted entries same in
    let here = agrees-same c d e.rank entry.literals same in grind arith

-- the active effects of one more event, if it is at the instant
effects-same_of_more : (theory : Theory) (c d : Currency) (e : PlainEvent) (rest : List PlainEvent) (wanted : GroundEntry → Bool) (there : Bool) →
    (there ≡ true → (p : Ground) → c p e.rank ≡ d p e.rank) →
    filter (is_active c) (filter (λ effect. wanted effect.entry) (flat_map (effects_of theory) rest))
    ≡ filter (is_active d) (filter (λ effect. wanted effect.entry) (flat_map (effects_of theory) rest)) →
    filter (is_active c) (filter (λ effect. wanted effect.entry) (flat_map (effects_of theory) (cond there (e ∷ rest) rest)))
    ≡ filter (is_active d) (filter (λ effect. wanted effect.entry) (flat_map (effects_of theory) (cond there (e ∷ rest) rest)))
unfolding effects_of
effects-same_of_more theory c d e rest wanted false same ih = ih
effects-same_of_more theory c d e rest wanted true same ih =
    let here = effects-same_of_one c d e wanted (entries_of theory e.term) (same refl) in
    simp filter-append (ap₂ (λ xs ys. xs ++ ys) here ih)

-- the active effects of the events at t
effects-same_of_all : (theory : Theory) (events : List PlainEvent) (c d : Currency) (wanted : GroundEntry → Bool) (t : ℤ) →
    ((p : Ground) → c p t ≡ d p t) →
    filter (is_active c) (filter (λ effect. wanted effect.entry) (flat_map (effects_of theory) (events_at t events)))
    ≡ filter (is_active d) (filter (λ effect. wanted effect.entry) (flat_map (effects_of theory) (events_at t events)))
effects-same_of_all theory [] c d wanted t same = refl
effects-same_of_all theory (e ∷ events) c d wanted t same =
    effects-same_of_more theory c d e (events_at t events) wanted (int_eq e.rank t)
    (λ there. subst (λ s. (p : Ground) → c p s ≡ d p s) (sym (int_eq-is e.rank t there)) same)
    (effects-same_of_all theory events c d wanted t same)

-- What takes effect at an instant depends on the currency there alone.
pub effects_at-same : (theory : Theory) (events : List PlainEvent) (c d : Currency) (wanted : GroundEntry → Bool) (t : ℤ) →
    ((p : Ground) → c p t ≡ d p t) → effects_at theory events c wanted t ≡ effects_at theory events d wanted t
unfolding effects_at
effects_at-same theory events c d wanted t same = effects-same_of_all theory events c d wanted t same

-- It depends on the events there alone.
pub effects_at-events : (theory : Theory) (old new : List PlainEvent) (c : Currency) (wanted : GroundEntry → Bool) (t : ℤ) →
    events_at t old ≡ events_at t new → effects_at theory old c wanted t ≡ effects_at theory new c wanted t
unfolding effects_at
effects_at-events theory old new c wanted t same =
    ap (λ events. filter (is_active c) (filter (λ effect. wanted effect.entry) (flat_map (effects_of theory) events))) same

-- where no event is, nothing takes effect
pub effects_at-none : (theory : Theory) (events : List PlainEvent) (c : Currency) (wanted : GroundEntry → Bool) (t : ℤ) →
    events_at t events ≡ [] → effects_at theory events c wanted t ≡ []
unfolding effects_at
effects_at-none theory events c wanted t none = effects_at-events theory events [] c wanted t none

-- ---- initiations and breaks

-- initiations at an instant depend on the effects there alone
pub is_initiated-same : (theory : Theory) (old new : List PlainEvent) (c d : Currency) (p : Ground) (t : ℤ) →
    ((wanted : GroundEntry → Bool) → effects_at theory old c wanted t ≡ effects_at theory new d wanted t) →
    is_initiated theory old c p t ≡ is_initiated theory new d p t
unfolding has_effect
is_initiated-same theory old new c d p t same = ap (λ effects. nat_lt 0 (length effects)) (same (is_initiating p))

-- and so do breaks
pub has_break-same : (theory : Theory) (old new : List PlainEvent) (c d : Currency) (p : Ground) (t : ℤ) →
    ((wanted : GroundEntry → Bool) → effects_at theory old c wanted t ≡ effects_at theory new d wanted t) →
    has_break theory old c p t ≡ has_break theory new d p t
unfolding has_effect has_break
has_break-same theory old new c d p t same =
    ap₂ (λ x y. x || (is_strong theory p && y))
    (ap₂ (λ x y. x || y) (ap (λ effects. nat_lt 0 (length effects)) (same (is_terminating p))) (ap (λ effects. nat_lt 0 (length effects)) (same (is_clashing theory p))))
    (is_initiated-same theory old new c d p t same)
