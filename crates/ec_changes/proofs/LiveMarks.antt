-- Marks by the properties that are live: clashes by neighbours, and what is known of a property that is not live.
use Rattle.std.proofs.Common.{◌≡◌, ℕ, ◌≤◌, ℤ, Bool, false, not, ◌&&◌, ◌||◌, List, [], ◌++◌, length, map, filter, IsTrue, IsFalse, refl, sym, ap, ap₂, subst, ◌∙◌, inl, ⊎_elim, arith}
use Rattle.std.specs.Prelude.{int_lt, nat_lt}
use Rattle.std.specs.Bool.{beq}
use Rattle.std.specs.List.{list_any, sum_by}
use Rattle.std.specs.Ordering.{int_eq}
use Rattle.std.proofs.lemmas.Bool.{cases_Bool, and_parts, or_parts, or_left, or_right, false≢true}
use Rattle.std.proofs.lemmas.List.{length-map}
use Rattle.std.proofs.lemmas.List.Concat.{length-flat_map}
use Rattle.std.proofs.lemmas.List.Filters.{sum_by-filter_both}
use Rattle.std.proofs.lemmas.List.Sums.{sum_by-le-sum_by}
use Rattle.ec_lists.proofs.Filters.{filter_comm, filter-filter_wider, length-filter_le}
use Rattle.ec_terms.specs.declared.ground.Ground.{Ground}
use Rattle.ec_terms.specs.declared.theory.Theory.{Theory}
use Rattle.ec_terms.specs.Term.{term_eq}
use Rattle.ec_terms.specs.Domain.{GroundEntry, entries_of, are_exclusive, is_initial}
use Rattle.ec_terms.proofs.OrderLemmas.{term_eq-Decides}
use Rattle.ec_axioms.specs.Plain.{events_at}
use Rattle.ec_axioms.specs.Timeline.{Timeline, begin_at, is_start, is_current_on, carries, instants_before, initial_begins, begins_of, intervals_from, broken_begins_from}
use Rattle.ec_axioms.specs.Calculus.{PlainEvent, Effect, Currency, effects_of, effects_at, is_active, has_effect, is_initiated, is_current, is_initiating, is_terminating, is_clashing, timeline_by, timeline_of, intervals_of, broken_of}
use Rattle.ec_axioms.specs.Links.{entry_mentions, event_mentions, mentions_of, is_live}
use Rattle.ec_axioms.specs.Marks.{PlainMark, mark_at}
use Rattle.ec_axioms.proofs.Rounds.{is_current-equation}
use Rattle.ec_axioms.proofs.HistoryMarks.{instant-mark_at}
use Rattle.ec_axioms.proofs.Members.{IsMember, IsMember-from_map, IsMember-from_filter, filter_agree, filter_none, member-list_any}
use Rattle.ec_changes.specs.Differences.{differs, entries_at}
use Rattle.ec_changes.specs.LiveLaws.{HasLive, neighbour_inits, ClashesAreInitiations, IsUnknown, NotLiveIsUnknown, NotLiveIsGathered, WhatDiffersIsLive, MarksAreSmall}
use Rattle.ec_changes.proofs.JoinedMembers.{IsMember-from_flat_map, IsMember-flat_map, empty_from_members}
use Rattle.ec_changes.proofs.Tallies.{list_any-never, sum_by-agree, length-le_sum_by, length-by_keys, length-filter_once}

-- ---- heads are live

-- the head of an entry of an event is live
is_live-head : (theory : Theory) (events : List PlainEvent) (e : PlainEvent) (entry : GroundEntry) → IsMember events e
    → IsMember (entries_of theory e.term) entry → IsTrue (is_live theory events entry.head)
unfolding is_live mentions_of
is_live-head theory events e entry member listed =
    let mentioned = IsMember-flat_map (event_mentions theory) events e entry.head member
    (IsMember-flat_map entry_mentions (entries_of theory e.term) entry entry.head listed (inl refl)) in
    let found = member-list_any (term_eq entry.head) (mentions_of theory events) entry.head mentioned ((term_eq-Decides entry.head entry.head).1 refl) in grind arith

-- what takes effect at an instant passes the test, and its head is live
effects_at-live : (theory : Theory) (events : List PlainEvent) (current : Currency) (wanted : GroundEntry → Bool) (t : ℤ) (effect : Effect)
    → IsMember (effects_at theory events current wanted t) effect → IsTrue (wanted effect.entry) × IsTrue (is_live theory events effect.entry.head)
unfolding effects_at effects_of
effects_at-live theory events current wanted t effect member =
    let active = IsMember-from_filter (is_active current) (filter (λ (f : Effect). wanted f.entry) (entries_at theory events t)) effect member in
    let passes = IsMember-from_filter (λ (f : Effect). wanted f.entry) (entries_at theory events t) effect active.0 in
    let found = IsMember-from_flat_map (effects_of theory) (events_at t events) effect passes.0 in
    let here = IsMember-from_filter (λ (e : PlainEvent). int_eq e.rank t) events found.0 found.1 in
    let entry = IsMember-from_map (λ (entry : GroundEntry). record { event = found.0; entry = entry }) (entries_of theory found.0.term) effect found.2 in (
      passes.1,
      subst (λ (f : Effect). IsTrue (is_live theory events f.entry.head)) entry.2 (is_live-head theory events found.0 entry.0 here.0 entry.1),
    )

-- ---- what an initiating entry initiates

-- an entry that initiates some property initiates its head alone
is_initiating-by : (p q : Ground) (entry : GroundEntry) → IsTrue (is_initiating p entry) → is_initiating q entry ≡ term_eq entry.head q
unfolding is_initiating
is_initiating-by p q entry initiating = ap (λ b. b && term_eq entry.head q) (and_parts _ (term_eq entry.head p) initiating).0

-- an entry that does something to a property has it for its head
head-changing : (p : Ground) (entry : GroundEntry) → IsTrue (is_initiating p entry || is_terminating p entry) → entry.head ≡ p
unfolding is_initiating is_terminating
head-changing p entry changing =
    let names : IsTrue (term_eq entry.head p) = grind arith in (term_eq-Decides entry.head p).0 names

-- and it clashes with p where its head is exclusive to p
is_clashing-by : (theory : Theory) (p q : Ground) (entry : GroundEntry) → IsTrue (is_initiating q entry) → is_clashing theory p entry ≡ are_exclusive theory p q
unfolding is_clashing
is_clashing-by theory p q entry initiating =
    let head = head-changing q entry (or_left _ (is_terminating q entry) initiating) in
    ap (λ (r : Ground). is_initiating r entry && are_exclusive theory p r) head ∙ ap (λ b. b && are_exclusive theory p q) initiating

-- the parts of a clash
is_clashing-parts : (theory : Theory) (p : Ground) (entry : GroundEntry) → IsTrue (is_clashing theory p entry)
    → IsTrue (is_initiating entry.head entry) × IsTrue (are_exclusive theory p entry.head)
unfolding is_clashing
is_clashing-parts theory p entry clashing = and_parts (is_initiating entry.head entry) (are_exclusive theory p entry.head) clashing

-- ---- clashes by neighbours

module _ (theory : Theory) (events : List PlainEvent) (properties : List Ground) (p : Ground) (t : ℤ) (has : HasLive theory events properties) where
  -- an entry that clashes with p initiates one property of the list that is exclusive to p
  one_neighbour : (entry : GroundEntry) → IsTrue (is_clashing theory p entry) → IsTrue (is_live theory events entry.head)
      → length (filter (λ q. is_initiating q entry) (filter (are_exclusive theory p) properties)) ≡ 1
  one_neighbour entry clashing live =
      let parts = is_clashing-parts theory p entry clashing in
      ap length
      (filter-filter_wider (λ q. is_initiating q entry) (are_exclusive theory p) properties
      (λ q initiating. subst (λ r. IsTrue (are_exclusive theory p r)) (head-changing q entry (or_left _ (is_terminating q entry) initiating)) parts.1)
      ∙ filter_agree (λ q. is_initiating q entry) (term_eq entry.head) properties (λ q member. is_initiating-by entry.head q entry parts.0))
      ∙ length-filter_once term_eq term_eq-Decides properties entry.head has.once (has.live entry.head live)

  -- the clashes with p that initiate q are the initiations of q
  clashes_of_one : (q : Ground) → IsTrue (are_exclusive theory p q)
      → length (filter (λ effect. is_initiating q effect.entry) (effects_at theory events (is_current theory events) (is_clashing theory p) t))
      ≡ (mark_at theory events q t).inits
  unfolding effects_at mark_at
  clashes_of_one q exclusive =
      let all = entries_at theory events t in
      ap length
      (filter_comm (λ (effect : Effect). is_initiating q effect.entry) (is_active (is_current theory events)) (filter (λ (effect : Effect). is_clashing theory p effect.entry) all)
      ∙ ap (filter (is_active (is_current theory events)))
      (filter-filter_wider (λ (effect : Effect). is_initiating q effect.entry) (λ (effect : Effect). is_clashing theory p effect.entry) all
      (λ effect initiating. is_clashing-by theory p q effect.entry initiating ∙ exclusive)))

  -- so clashes are the initiations of neighbours
  pub clashes-neighbours : (mark_at theory events p t).clashes ≡ neighbour_inits theory events properties p t
  unfolding mark_at neighbour_inits
  clashes-neighbours =
      let effects = effects_at theory events (is_current theory events) (is_clashing theory p) t in
      length-by_keys (λ q effect. is_initiating q effect.entry) (filter (are_exclusive theory p) properties) effects
      (λ effect member. let known = effects_at-live theory events (is_current theory events) (is_clashing theory p) t effect member in one_neighbour effect.entry known.0 known.1)
      ∙ sum_by-agree (λ q. length (filter (λ effect. is_initiating q effect.entry) effects)) (λ q. (mark_at theory events q t).inits) (filter (are_exclusive theory p) properties)
      (λ q member. clashes_of_one q (IsMember-from_filter (are_exclusive theory p) properties q member).1)

-- the law
pub ClashesAreInitiations-law : ClashesAreInitiations
ClashesAreInitiations-law theory events properties p t has = clashes-neighbours theory events properties p t has

-- ---- a property that is not live

module _ (theory : Theory) (events : List PlainEvent) (p : Ground) (dead : IsFalse (is_live theory events p)) where
  -- nothing takes effect that has it for its head
  no_effect : (current : Currency) (wanted : GroundEntry → Bool) (t : ℤ) → ((entry : GroundEntry) → IsTrue (wanted entry) → entry.head ≡ p)
      → effects_at theory events current wanted t ≡ []
  no_effect current wanted t headed =
      empty_from_members (effects_at theory events current wanted t)
      (λ effect member.
      let known = effects_at-live theory events current wanted t effect member in
      false≢true (sym dead ∙ subst (λ q. IsTrue (is_live theory events q)) (headed effect.entry known.0) known.1))

  -- it is not initial
  not_initial : IsFalse (is_initial theory p)
  unfolding is_live
  not_initial = (or_parts (is_initial theory p) (list_any (term_eq p) (mentions_of theory events)) dead).0

  -- it is never initiated
  never_initiated : (current : Currency) (t : ℤ) → IsFalse (is_initiated theory events current p t)
  unfolding has_effect
  never_initiated current t = ap (λ effects. nat_lt 0 (length effects)) (no_effect current (is_initiating p) t (λ entry initiating. head-changing p entry (or_left _ (is_terminating p entry) initiating)))

  -- it is never current
  not_live-current : (t : ℤ) → IsFalse (is_current theory events p t)
  unfolding timeline_by
  not_live-current t =
      let line : Timeline = timeline_by theory events (is_current theory events) p in
      let carried : list_any (carries line t) (instants_before line t) ≡ false =
      list_any-never (carries line t) (instants_before line t)
      (λ s. ap (λ b. b && not (list_any line.breaks (filter (λ u. int_lt s u) (instants_before line t)))) (never_initiated (is_current theory events) s)) in
      is_current-equation theory events p t
      ∙ ap₂ (λ a b. a || (b && not (list_any line.breaks (instants_before line t)))) carried not_initial

  -- it begins nowhere
  no_begin : begins_of (timeline_of theory events p) ≡ []
  unfolding timeline_of timeline_by
  no_begin =
      let line : Timeline = timeline_of theory events p in
      ap₂ (λ a b. initial_begins a ++ map begin_at b) not_initial
      (filter_none (is_start line) line.instants
      (λ s member. ap (λ b. b && (line.breaks s || not (is_current_on line s))) (never_initiated (is_current theory events) s)))

  pub not_live-unknown : IsUnknown theory events p
  unfolding mark_at intervals_of broken_of
  not_live-unknown = record {
    never_current = not_live-current;
    no_inits = λ t. ap length (no_effect (is_current theory events) (is_initiating p) t (λ entry initiating. head-changing p entry (or_left _ (is_terminating p entry) initiating)));
    no_terms = λ t. ap length (no_effect (is_current theory events) (is_terminating p) t (λ entry terminating. head-changing p entry (or_right (is_initiating p entry) _ terminating)));
    no_interval = ap (intervals_from (timeline_of theory events p)) no_begin;
    none_broken = ap (broken_begins_from (timeline_of theory events p)) no_begin;
  }

-- the law
pub NotLiveIsUnknown-law : NotLiveIsUnknown
NotLiveIsUnknown-law = not_live-unknown

-- a mark by its four fields
pub mark_same : (m n : PlainMark) → m.instant ≡ n.instant → m.inits ≡ n.inits → m.terms ≡ n.terms → m.clashes ≡ n.clashes → m ≡ n
mark_same m n instants inits terms clashes =
    let made : ℤ → ℕ → ℕ → ℕ → PlainMark = λ t a b c. record { instant = t; inits = a; terms = b; clashes = c } in
    ap (λ t. made t m.inits m.terms m.clashes) instants ∙ ap (λ a. made n.instant a m.terms m.clashes) inits
    ∙ ap (λ b. made n.instant n.inits b m.clashes) terms ∙ ap (made n.instant n.inits n.terms) clashes

-- the law
pub NotLiveIsGathered-law : NotLiveIsGathered
NotLiveIsGathered-law theory events properties p t has dead =
    let unknown = not_live-unknown theory events p dead in
    mark_same (mark_at theory events p t) (record { instant = t; inits = 0; terms = 0; clashes = neighbour_inits theory events properties p t })
    (instant-mark_at theory events p t) (unknown.no_inits t) (unknown.no_terms t) (clashes-neighbours theory events properties p t has)

-- the law
pub WhatDiffersIsLive-law : WhatDiffersIsLive
unfolding differs
WhatDiffersIsLive-law theory old new p t differ =
    ⊎_elim (λ live. live)
    (λ dead.
    let both = or_parts (is_live theory old p) (is_live theory new p) dead in
    let before = not_live-current theory old p both.0 t in
    let after = not_live-current theory new p both.1 t in
    absurd (false≢true (sym (ap₂ (λ a b. not (beq a b)) before after) ∙ differ)))
    (cases_Bool (is_live theory old p || is_live theory new p))

-- ---- how large

-- entries of some events are no more than the mentions of all
length-entries_at_le : (theory : Theory) (events : List PlainEvent) (t : ℤ) → length (entries_at theory events t) ≤ length (mentions_of theory events)
unfolding mentions_of effects_of
length-entries_at_le theory events t =
    let count : PlainEvent → ℕ = λ e. length (effects_of theory e) in
    let there : length (entries_at theory events t) ≡ sum_by count (events_at t events) = length-flat_map (effects_of theory) (events_at t events) in
    let both = sum_by-filter_both (λ (e : PlainEvent). int_eq e.rank t) (λ (e : PlainEvent). not (int_eq e.rank t)) (λ e. refl) count events in
    let mentions : length (mentions_of theory events) ≡ sum_by (λ e. length (event_mentions theory e)) events = length-flat_map (event_mentions theory) events in
    let each : (e : PlainEvent) → count e ≤ length (event_mentions theory e) =
    λ e. let entries = entries_of theory e.term in
    let paired : GroundEntry → Effect = λ entry. record { event = e; entry = entry } in
    omega (
      arith,
      length-map entries paired,
      length-flat_map entry_mentions entries,
      length-le_sum_by (λ entry. length (entry_mentions entry)) entries (λ entry. omega arith),
    ) in
    omega (arith, sum_by-le-sum_by count (λ e. length (event_mentions theory e)) events each)

-- so what takes effect at an instant is no more than the mentions
length-effects_at_le : (theory : Theory) (events : List PlainEvent) (current : Currency) (wanted : GroundEntry → Bool) (t : ℤ)
    → length (effects_at theory events current wanted t) ≤ length (mentions_of theory events)
unfolding effects_at
length-effects_at_le theory events current wanted t =
    let all = entries_at theory events t in
    let chosen = filter (λ (effect : Effect). wanted effect.entry) all in
    omega (arith, length-filter_le (is_active current) chosen, length-filter_le (λ (effect : Effect). wanted effect.entry) all, length-entries_at_le theory events t)

-- the law
pub MarksAreSmall-law : MarksAreSmall
unfolding mark_at
MarksAreSmall-law theory events p t = record {
  inits = length-effects_at_le theory events (is_current theory events) (is_initiating p) t;
  terms = length-effects_at_le theory events (is_current theory events) (is_terminating p) t;
  clashes = length-effects_at_le theory events (is_current theory events) (is_clashing theory p) t;
}
