-- What is not initial: it is current by an initiation alone, begins at an instant alone, and is live by a mention alone.
use Rattle.std.proofs.Common.{◌≡◌, ℤ, Bool, not, List, [], length, IsTrue, IsFalse, refl, ap, sym, subst, ◌∙◌, ⊎_elim, arith}
use Rattle.std.specs.Prelude.{int_lt, nat_lt, filter, map, ◌++◌}
use Rattle.std.specs.List.{list_any}
use Rattle.std.specs.Ordering.{int_eq}
use Rattle.std.proofs.lemmas.Bool.{and_parts, and_from, or_cases, or_left, or_right, cases_Bool, not-true, false_from_ne_true, both_ways}
use Rattle.ec_terms.specs.declared.ground.Ground.{Ground}
use Rattle.ec_terms.specs.declared.theory.Theory.{Theory}
use Rattle.ec_terms.specs.Term.{term_eq}
use Rattle.ec_terms.specs.Domain.{GroundEntry, is_initial}
use Rattle.ec_terms.proofs.OrderLemmas.{term_eq-Decides}
use Rattle.ec_axioms.specs.Timeline.{Timeline, before_all, begin_at, instants_before, instants_between, carries, carries_initially, is_current_on, is_start, initial_begins, begins_of}
use Rattle.ec_axioms.specs.Calculus.{PlainEvent, Currency, instants_of, is_initiating, is_terminating, is_clashing, has_effect, has_break, timeline_by, timeline_of, is_current}
use Rattle.ec_axioms.specs.Links.{mentions_of, is_live}
use Rattle.ec_axioms.specs.Laws.{CurrentOnlyIfCarriedOver, BegunOnlyByAStart, LiveOnlyIfMentioned}
use Rattle.ec_axioms.proofs.Effects.{events_at, effects_at-none}
use Rattle.ec_axioms.proofs.Members.{IsMember, IsMember-from_contains, Contains-from_member, IsMember-filter, IsMember-from_filter, list_any-member, member-list_any, list_any-false}
use Rattle.ec_lists.proofs.Integers.{int_eq-is, int_lt-is, int_lt-from}
use Rattle.ec_axioms.proofs.Rounds.{events_at-no_instant, is_current-equation}
use Rattle.ec_axioms.proofs.TimelineLaws.{IsBegin-from_member}

-- ---- a timeline that is not initial

-- an instant before t initiates it, and no instant between breaks it
abbrev IsCarried : Timeline → ℤ → ℤ → Type 0
IsCarried line t s =
    IsMember line.instants s × IsTrue (int_lt s t) × IsTrue (line.initiated s)
    × ((u : ℤ) → IsMember line.instants u → IsTrue (int_lt s u) → IsTrue (int_lt u t) → IsFalse (line.breaks u))

module _ (line : Timeline) (never : IsFalse line.initial) (t : ℤ) where
  -- where it is current it is carried over from some instant
  current_carried : IsTrue (is_current_on line t) → (s : ℤ) × IsCarried line t s
  current_carried current =
      ⊎_elim
      (λ some.
      let found = list_any-member (carries line t) (instants_before line t) some in
      let s = found.0 in
      let kept = IsMember-from_filter (λ u. int_lt u t) line.instants s found.1 in
      let parts = and_parts (line.initiated s) (not (list_any line.breaks (instants_between line s t))) found.2 in
      let none = not-true (list_any line.breaks (instants_between line s t)) parts.1 in (
        s,
        (
          kept.0,
          kept.1,
          parts.0,
          λ u inside after before.
              list_any-false line.breaks (instants_between line s t) u none
              (IsMember-filter (λ u. int_lt s u) (instants_before line t) u (IsMember-filter (λ u. int_lt u t) line.instants u inside before) after),
        ),
      ))
      (λ initially.
      absurd (both_ways line.initial never (and_parts line.initial (not (list_any line.breaks (instants_before line t))) initially).0))
      (or_cases (list_any (carries line t) (instants_before line t)) (carries_initially line t) current)

  -- and where it is carried over it is current
  carried_current : (s : ℤ) → IsCarried line t s → IsTrue (is_current_on line t)
  carried_current s carried =
      let breaks = list_any line.breaks (instants_between line s t) in
      let none : IsFalse breaks = false_from_ne_true breaks
      (λ some.
      let found = list_any-member line.breaks (instants_between line s t) some in
      let later = IsMember-from_filter (λ u. int_lt s u) (instants_before line t) found.0 found.1 in
      let kept = IsMember-from_filter (λ u. int_lt u t) line.instants found.0 later.0 in
      both_ways (line.breaks found.0) (carried.3 found.0 kept.0 later.1 kept.1) found.2) in
      or_left (list_any (carries line t) (instants_before line t)) (carries_initially line t)
      (member-list_any (carries line t) (instants_before line t) s (IsMember-filter (λ u. int_lt u t) line.instants s carried.0 carried.1)
      (and_from (line.initiated s) (not breaks) carried.2 (ap not none)))

-- ---- where no event is

module _ (theory : Theory) (events : List PlainEvent) (current : Currency) where
  -- nothing takes effect
  has_effect-none : (wanted : GroundEntry → Bool) (t : ℤ) → events_at t events ≡ [] → IsFalse (has_effect theory events current wanted t)
  unfolding has_effect
  has_effect-none wanted t none = ap (λ effects. nat_lt 0 (length effects)) (effects_at-none theory events current wanted t none)

  -- and nothing breaks
  has_break-none : (p : Ground) (t : ℤ) → events_at t events ≡ [] → IsFalse (has_break theory events current p t)
  unfolding has_break
  has_break-none p t none =
      let ends = has_effect-none (is_terminating p) t none in
      let clashes = has_effect-none (is_clashing theory p) t none in
      let begins = has_effect-none (is_initiating p) t none in grind arith

  -- so an effect is at an instant
  instant_of_effect : (wanted : GroundEntry → Bool) (t : ℤ) → IsTrue (has_effect theory events current wanted t) → IsMember (instants_of events) t
  instant_of_effect wanted t some =
      ⊎_elim (λ there. let found = list_any-member (λ u. int_eq u t) (instants_of events) there in subst (IsMember (instants_of events)) (int_eq-is found.0 t found.2) found.1)
      (λ absent. absurd (both_ways (has_effect theory events current wanted t) (has_effect-none wanted t (events_at-no_instant events t absent)) some))
      (cases_Bool (list_any (λ u. int_eq u t) (instants_of events)))

  -- and what breaks at no instant breaks nowhere
  has_break-each : (p : Ground) (t : ℤ) → (IsMember (instants_of events) t → IsFalse (has_break theory events current p t)) → IsFalse (has_break theory events current p t)
  has_break-each p t each =
      ⊎_elim (λ there. let found = list_any-member (λ u. int_eq u t) (instants_of events) there in each (subst (IsMember (instants_of events)) (int_eq-is found.0 t found.2) found.1))
      (λ absent. has_break-none p t (events_at-no_instant events t absent))
      (cases_Bool (list_any (λ u. int_eq u t) (instants_of events)))

-- ---- the laws

-- what is not initial is current where it is carried over
pub CurrentOnlyIfCarriedOver-law : CurrentOnlyIfCarriedOver
unfolding timeline_by
CurrentOnlyIfCarriedOver-law theory events p t never =
    let c : Currency = is_current theory events in
    let line = timeline_by theory events c p in
    let equation = is_current-equation theory events p t in (
      λ current.
          let found = current_carried line never t (sym equation ∙ current) in
          let carried = found.1 in record {
            since = found.0;
            before = int_lt-is found.0 t carried.1;
            initiated = carried.2;
            unbroken = λ u after before. has_break-each theory events c p u (λ inside. carried.3 u inside (int_lt-from found.0 u after) (int_lt-from u t before));
          },
      λ over.
          equation
          ∙ carried_current line never t over.since (
            instant_of_effect theory events c _ over.since over.initiated,
            int_lt-from over.since t over.before,
            over.initiated,
            λ u inside after before. over.unbroken u (int_lt-is over.since u after) (int_lt-is u t before),
          ),
    )

-- its begins are its starts
pub BegunOnlyByAStart-law : BegunOnlyByAStart
unfolding timeline_of timeline_by
BegunOnlyByAStart-law theory events p never =
    let line = timeline_of theory events p in (
      ap (λ initial. initial_begins initial ++ map begin_at (filter (is_start line) line.instants)) never,
      λ found. both_ways line.initial never (IsBegin-from_member line before_all (IsMember-from_contains (begins_of line) before_all found)),
    )

-- it is live where it has a mention
pub LiveOnlyIfMentioned-law : LiveOnlyIfMentioned
unfolding is_live
LiveOnlyIfMentioned-law theory events p never =
    let mentions = mentions_of theory events in (
      λ live.
          ⊎_elim (λ initial. absurd (both_ways (is_initial theory p) never initial))
          (λ some.
          let found = list_any-member (term_eq p) mentions some in
          Contains-from_member mentions p (subst (IsMember mentions) (sym ((term_eq-Decides p found.0).0 found.2)) found.1))
          (or_cases (is_initial theory p) (list_any (term_eq p) mentions) live),
      λ mentioned.
          or_right (is_initial theory p) (list_any (term_eq p) mentions)
          (member-list_any (term_eq p) mentions p (IsMember-from_contains mentions p mentioned) ((term_eq-Decides p p).1 refl)),
    )
