-- A property that the table alone keeps becomes part of the parts: they stand for the same lists.
use Rattle.std.proofs.Common.{◌≡◌, ℕ, ℤ, ◌+◌, ◌≢◌, true, false, Bool, not, cond, ◌||◌, List, [], ◌∷◌, map, filter, get_or, Option, Some, None, is_some, IsTrue, IsFalse, IsSome, refl, sym, ap, subst, ◌∙◌, ⊎_elim, arith}
use Rattle.std.specs.Prelude.{◌==◌, nat_lt, option_map}
use Rattle.std.specs.List.{list_any, IsDistinct, cons_option}
use Rattle.std.specs.Option.{option_map_or}
use Rattle.std.proofs.lemmas.List.{get_or_default}
use Rattle.std.proofs.lemmas.List.Elements.{All-contains}
use Rattle.ec_context.specs.Widened.{without_props}
use Rattle.ec_context.proofs.Tables.{prop_at-without_props}
use Rattle.ec_rows.proofs.OrderedLemmas.{is_ascending-filter}
use Rattle.std.proofs.lemmas.Bool.{cases_Bool, false≢true, false_from_ne_true, eqb-true, eq-eqb, not-true, ltb-true}
use Rattle.std.proofs.lemmas.Option.{same_Some}
use Rattle.ec_terms.specs.declared.ids.PropId.{PropId}
use Rattle.ec_terms.specs.declared.ground.Ground.{Ground}
use Rattle.ec_terms.specs.declared.theory.Theory.{Theory}
use Rattle.ec_terms.specs.Term.{term_eq}
use Rattle.ec_terms.specs.Domain.{is_initial}
use Rattle.ec_terms.proofs.OrderLemmas.{term_eq-Decides}
use Rattle.ec_terms.proofs.DomainLemmas.{term_eq-refl}
use Rattle.ec_lists.proofs.Options.{Some-from_is_some, is_some-option_map}
use Rattle.ec_lists.proofs.Tests.{nat_lt-filter, list_any-filter_map}
use Rattle.ec_axioms.specs.Calculus.{PlainEvent, intervals_of}
use Rattle.ec_axioms.specs.Changes.{is_history}
use Rattle.ec_axioms.specs.Links.{is_live, mentions_of}
use Rattle.ec_axioms.specs.Marks.{PlainMark, mark_at, marks_of, mark_initiates}
use Rattle.ec_axioms.proofs.Members.{IsMember_at, IsMember-from_filter, Contains-from_member, IsMember-from_filter_map, IsPairwise, filter_none, list_any-member, member-list_any}
use Rattle.ec_changes.specs.LiveLaws.{HasLive}
use Rattle.ec_changes.proofs.DistinctLists.{IsDistinct-from_pairwise}
use Rattle.ec_changes.proofs.LiveMarks.{NotLiveIsUnknown-law, NotLiveIsGathered-law}
use Rattle.ec_changes.proofs.Past.{IsMember-from_marks_of}
use Rattle.ec_store.specs.Table.{KeptProp, prop_at, prop_of, prop_before, term_at, mentions_at, without_prop}
use Rattle.ec_store.proofs.PropLemmas.{prop_at-without_other, prop_at-without_itself}
use Rattle.ec_numbered.specs.PropSet.{has_number, with_number, comes_before, are_ascending}
use Rattle.ec_numbered.proofs.Numbers.{has_number-with_number}
use Rattle.ec_exclusive.specs.Added.{added_props, is_added}
use Rattle.ec_exclusive.specs.Neighbours.{AreNeighbours, exclusive_at}
use Rattle.ec_points.specs.Table.{PointTable, marks_at, is_initial_at, row_at as points_row, marks_in}
use Rattle.ec_rows.specs.PlainMarks.{plain_marks}
use Rattle.ec_rows.proofs.OrderedPairs.{IsPairwise-ascending}
use Rattle.ec_intervals.specs.Table.{IntervalTable, members_at, plain_intervals}
use Rattle.ec_parts.specs.Tables.{mention_count, held_mention, AreKept}
use Rattle.ec_parts.specs.Caches.{AreEventsOf, AreEntriesOf, AreInitialsOf, AreMarksOf, AreInitiationsOf, AreIntervalsOf, initiations_of, initiations_of_mark, kept_initiations}
use Rattle.ec_parts.specs.StandFor.{View, StandForBoth}
use Rattle.ec_parts.specs.Gathered.{AreGathered, initiations_at, marks_under}
use Rattle.ec_parts.specs.Mentions.{terms_of}
use Rattle.ec_parts.specs.declared.tally.Tally.{Tally}
use Rattle.ec_parts.proofs.LinksByNumber.{IsOneToOne, same_number, term_at-prop_of}
use Rattle.ec_parts.proofs.CachesKept.{AreEntriesOf-moved, prop_of-moved}
use Rattle.ec_parts.proofs.KeptInitiations.{kept_initiations-none}
use Rattle.ec_parts.proofs.GatheredMarks.{marks_of-gathered, neighbours-inits}

-- a property that nothing mentions is new in a table
pub record IsNew (p : PropId) (term : Ground) (before after : List KeptProp) : Type 0 where
  pub table : before ≡ without_prop p.0 after
  pub own : term_at p.0 after ≡ Some term
  pub unmentioned : mentions_at p.0 after ≡ Some 0

-- and it is taken into the other parts
pub record IsTakenIn {T : Type 0} (rank : T → ℤ) (theory : Theory) (p : PropId) (after : List KeptProp) (old new : View T) : Type 0 where
  pub store : new.store ≡ old.store
  pub entries : new.entries ≡ old.entries
  pub initiations : new.initiations ≡ old.initiations
  pub intervals : new.intervals ≡ old.intervals
  pub rows : added_props new.neighbours.rows ≡ with_number p (added_props old.neighbours.rows)
  pub ascend : are_ascending (added_props new.neighbours.rows) ≡ true
  pub neighbours : AreNeighbours theory after new.neighbours
  pub initials : new.points.initials ≡ old.points.initials
  pub others : (n : ℕ) → n ≢ p.0 → points_row n new.points ≡ points_row n old.points
  pub gathered : AreGathered rank (marks_under old.initiations (filter (exclusive_at theory after p) (added_props new.neighbours.rows))) (marks_at p.0 new.points)

-- ---- terms by number

-- the terms under ascending numbers are distinct
IsDistinct-terms_of : (table : List KeptProp) (ps : List PropId) → IsOneToOne table → are_ascending ps ≡ true → IsDistinct term_eq (terms_of table ps)
IsDistinct-terms_of table ps one ascend = IsDistinct-from_pairwise term_eq (terms_of table ps) (pairs ps (IsPairwise-ascending comes_before ps ascend))
  where
    apart : (a b : ℕ) → nat_lt a b ≡ true → a ≡ b → ⊥
    apart a b less same = omega (arith, same, ltb-true a b less)

    pairs : (qs : List PropId) → IsPairwise (λ q r. IsTrue (comes_before q r)) qs → IsPairwise (λ t u. IsFalse (term_eq t u)) (terms_of table qs)
    pairs [] tt = tt
    pairs (q ∷ qs) ascends = each (pairs qs ascends.1) (term_at q.0 table) refl
      where
        each : IsPairwise (λ t u. IsFalse (term_eq t u)) (terms_of table qs) → (o : Option Ground) → term_at q.0 table ≡ o → IsPairwise (λ t u. IsFalse (term_eq t u)) (cons_option o (terms_of table qs))
        each rest None is = rest
        each rest (Some t) is = (
          λ u member. false_from_ne_true (term_eq t u)
              (λ same.
              let found = IsMember-from_filter_map (λ (r : PropId). term_at r.0 table) qs u member in
              apart q.0 found.0.0 (ascends.0 found.0 found.1) (same_number table q.0 found.0.0 t one is (found.2 ∙ ap Some (sym ((term_eq-Decides t u).0 same))))),
          rest,
        )

-- a table without the properties of some numbers has each term under one number
pub IsOneToOne-without_props : (props : List PropId) (table : List KeptProp) → IsOneToOne table → IsOneToOne (without_props props table)
IsOneToOne-without_props props table one = record {
  in_order = is_ascending-filter prop_before (λ (kept : KeptProp). not (has_number kept.id props)) table one.in_order;
  numbers = λ k d below.
      let x = get_or (without_props props table) k d in
      let parts = IsMember-from_filter (λ (kept : KeptProp). not (has_number kept.id props)) table x (IsMember_at (without_props props table) x k below (get_or_default (without_props props table) k x d below)) in
      prop_at-without_props props x.id table (not-true _ parts.1) ∙ All-contains (λ (kept : KeptProp). prop_at kept.id table ≡ Some kept) table x one.numbers (Contains-from_member table x parts.0);
}

-- ---- all parts

module _ (theory : Theory) (p : PropId) (term : Ground) (before after : List KeptProp) (one_before : IsOneToOne before) (one : IsOneToOne after) (new : IsNew p term before after) where
  -- another number keeps what it kept
  prop_at-other : (n : ℕ) → (n ≡ p.0 → ⊥) → prop_at n after ≡ prop_at n before
  prop_at-other n other = sym (ap (prop_at n) new.table ∙ prop_at-without_other p.0 n after other)

  term_at-other : (n : ℕ) → (n ≡ p.0 → ⊥) → term_at n after ≡ term_at n before
  term_at-other n other = ap (option_map (λ (k : KeptProp). k.term)) (prop_at-other n other)

  pub prop_at-before : prop_at p.0 before ≡ None
  prop_at-before = ap (prop_at p.0) new.table ∙ prop_at-without_itself p.0 after

  -- what was kept was kept under another number, and stays there
  apart : (n : ℕ) (t : Ground) → term_at n before ≡ Some t → n ≡ p.0 → ⊥
  apart n t is same = false≢true (ap is_some (sym (ap (λ m. option_map (λ (k : KeptProp). k.term) (prop_at m before)) same ∙ ap (option_map (λ (k : KeptProp). k.term)) prop_at-before) ∙ is))

  pub moves : (n : ℕ) (t : Ground) → term_at n before ≡ Some t → term_at n after ≡ Some t
  moves n t is = term_at-other n (apart n t is) ∙ is

  -- the number itself, or another
  by_number : (P : ℕ → Type 0) → P p.0 → ((n : ℕ) → (n ≡ p.0 → ⊥) → P n) → (n : ℕ) → P n
  by_number P itself other n = ⊎_elim (λ same. subst P (sym (eqb-true n p.0 same)) itself) (λ differs. other n (λ same. false≢true (sym differs ∙ eq-eqb n p.0 same))) (cases_Bool (n == p.0))

  own_term : (t : Ground) → term_at p.0 after ≡ Some t → term ≡ t
  own_term t is = same_Some term t (sym new.own ∙ is)

  none_before : (n : ℕ) → prop_at n after ≡ None → prop_at n before ≡ None
  none_before = by_number (λ n. prop_at n after ≡ None → prop_at n before ≡ None) (λ _. prop_at-before) (λ n other none. sym (prop_at-other n other) ∙ none)

  -- a list whose live properties were kept
  module _ (events : List PlainEvent) (kept : (t : Ground) → IsTrue (is_live theory events t) → IsSome (prop_of t before)) where
    -- has the new one not live
    pub not_live : is_live theory events term ≡ false
    not_live =
        false_from_ne_true (is_live theory events term)
        (λ live.
        let id = Some-from_is_some (prop_of term before) (kept term live) in
        let there = term_at-prop_of before term id.0 one_before id.1 in
        apart id.0 term there (same_number after id.0 p.0 term one (moves id.0 term there) new.own))

    -- and has them kept
    live-kept : (t : Ground) → IsTrue (is_live theory events t) → IsSome (prop_of t after)
    live-kept t live = prop_of-moved before after t one_before (λ n is. moves n t is) (kept t live)

    neither : (mention_count theory events term + held_mention theory term ≡ 0) × (is_initial theory term ≡ false)
    unfolding is_live
    neither = none (mention_count theory events term) (is_initial theory term) (ap (λ b. is_initial theory term || b) (nat_lt-filter (term_eq term) (mentions_of theory events)) ∙ not_live)
      where
        none : (n : ℕ) (b : Bool) → (b || nat_lt 0 n) ≡ false → (n + cond b 1 0 ≡ 0) × (b ≡ false)
        none n true h = absurd (false≢true (sym h))
        none n false h = (zero_from n h, refl)
          where
            zero_from : (n : ℕ) → nat_lt 0 n ≡ false → n + 0 ≡ 0
            zero_from n h = grind arith

  AreKept-in : (soon : List PlainEvent) → AreKept theory soon before → AreKept theory soon after
  AreKept-in soon kept = record {
    live = live-kept soon kept.live;
    mentions =
        by_number (λ n. (t : Ground) → term_at n after ≡ Some t → mentions_at n after ≡ Some (mention_count theory soon t + held_mention theory t))
        (λ t is. new.unmentioned ∙ ap Some (sym (neither soon kept.live).0) ∙ ap (λ u. Some (mention_count theory soon u + held_mention theory u)) (own_term t is))
        (λ n other t is. ap (option_map (λ (k : KeptProp). k.mentions)) (prop_at-other n other) ∙ kept.mentions n t (sym (term_at-other n other) ∙ is));
  }

  is_there : is_some (prop_at p.0 after) ≡ true
  is_there = sym (is_some-option_map (λ (k : KeptProp). k.term) (prop_at p.0 after)) ∙ ap is_some new.own

  -- the added numbers are those that are kept, with the new one
  pub added-in : (ps : List PropId) → ((q : PropId) → has_number q.0 ps ≡ is_some (prop_at q.0 before)) → (q : PropId) → has_number q.0 (with_number p ps) ≡ is_some (prop_at q.0 after)
  added-in ps added q = has_number-with_number q p ps ∙ of q (p.0 == q.0) refl
    where
      of : (q : PropId) (same : Bool) → (p.0 == q.0) ≡ same → (same || has_number q.0 ps) ≡ is_some (prop_at q.0 after)
      of q true is = sym (ap (λ n. is_some (prop_at n after)) (sym (eqb-true p.0 q.0 is)) ∙ is_there)
      of q false is = added q ∙ ap is_some (sym (prop_at-other q.0 (λ same. false≢true (sym is ∙ eq-eqb p.0 q.0 (sym same)))))

  AreInitialsOf-in : {T : Type 0} (events : List PlainEvent) (old_points new_points : PointTable T) → new_points.initials ≡ old_points.initials → ((t : Ground) → IsTrue (is_live theory events t) → IsSome (prop_of t before))
      → AreInitialsOf theory before old_points → AreInitialsOf theory after new_points
  AreInitialsOf-in events old_points new_points same kept initials = record {
    initial =
        by_number (λ n. (t : Ground) → term_at n after ≡ Some t → is_initial_at n new_points ≡ is_initial theory t)
        (λ t is. ap (has_number p.0) same ∙ initials.none p.0 prop_at-before ∙ sym (neither events kept).1 ∙ ap (is_initial theory) (own_term t is))
        (λ n other t is. ap (has_number n) same ∙ initials.initial n t (sym (term_at-other n other) ∙ is));
    none = λ n none. ap (has_number n) same ∙ initials.none n (none_before n none);
  }

  -- the caches of the present list
  module _ {T : Type 0} (rank : T → ℤ) (now : List PlainEvent) (history : IsTrue (is_history now)) (kept : (t : Ground) → IsTrue (is_live theory now t) → IsSome (prop_of t before)) where
    no_initiations : initiations_of theory now term ≡ []
    no_initiations =
        ap (map initiations_of_mark)
        (filter_none mark_initiates (marks_of theory now term)
        (λ m member. ap (λ (x : PlainMark). nat_lt 0 x.inits) (sym (IsMember-from_marks_of theory now term m member).0) ∙ ap (nat_lt 0) ((NotLiveIsUnknown-law theory now term (not_live now kept)).no_inits m.instant)))

    AreInitiationsOf-in : (points : PointTable T) → AreInitiationsOf rank theory now before points → AreInitiationsOf rank theory now after points
    AreInitiationsOf-in points initiations = record {
      marks =
          by_number (λ n. (t : Ground) → term_at n after ≡ Some t → plain_marks rank (marks_at n points) ≡ kept_initiations theory now t)
          (λ t is. ap (plain_marks rank) (initiations.none p.0 prop_at-before) ∙ sym (kept_initiations-none theory now term no_initiations) ∙ ap (kept_initiations theory now) (own_term t is))
          (λ n other t is. initiations.marks n t (sym (term_at-other n other) ∙ is));
      none = λ n none. initiations.none n (none_before n none);
    }

    AreIntervalsOf-in : (table : IntervalTable T) → AreIntervalsOf rank theory now before table → AreIntervalsOf rank theory now after table
    AreIntervalsOf-in table intervals = record {
      members =
          by_number (λ n. (t : Ground) → term_at n after ≡ Some t → plain_intervals rank (members_at n table) ≡ intervals_of theory now t)
          (λ t is. ap (plain_intervals rank) (intervals.none p.0 prop_at-before) ∙ sym (NotLiveIsUnknown-law theory now term (not_live now kept)).no_interval ∙ ap (intervals_of theory now) (own_term t is))
          (λ n other t is. intervals.members n t (sym (term_at-other n other) ∙ is));
      none = λ n none. intervals.none n (none_before n none);
    }

    -- the added terms have each live one, and none twice
    HasLive-added : (ps : List PropId) → are_ascending ps ≡ true → ((q : PropId) → has_number q.0 ps ≡ is_some (prop_at q.0 after)) → HasLive theory now (terms_of after ps)
    HasLive-added ps ascend added = record { once = IsDistinct-terms_of after ps one ascend; live = λ t live. there t live }
      where
        there : (t : Ground) → IsTrue (is_live theory now t) → IsTrue (list_any (term_eq t) (terms_of after ps))
        there t live =
            let id = Some-from_is_some (prop_of t before) (kept t live) in
            let is = moves id.0 t (term_at-prop_of before t id.0 one_before id.1) in
            let listed : has_number id.0 ps ≡ true = added (record { 0 = id.0 }) ∙ sym (is_some-option_map (λ (k : KeptProp). k.term) (prop_at id.0 after)) ∙ ap is_some is in
            let found = list_any-member (λ (r : PropId). r.0 == id.0) ps listed in
            list_any-filter_map (term_eq t) (λ (r : PropId). term_at r.0 after) ps
            ∙ member-list_any (λ (r : PropId). option_map_or (term_eq t) (term_at r.0 after) false) ps found.0 found.1
            (ap (λ n. option_map_or (term_eq t) (term_at n after) false) (eqb-true found.0.0 id.0 found.2) ∙ ap (λ o. option_map_or (term_eq t) o false) is ∙ term_eq-refl t)

    -- the initiations of the neighbours are the clashes of the new property
    pub clashes-new : (points : PointTable T) → AreInitiationsOf rank theory now before points → (ps : List PropId) → are_ascending ps ≡ true → ((q : PropId) → has_number q.0 ps ≡ is_some (prop_at q.0 after)) → (t : ℤ)
        → initiations_at rank t (marks_under points (filter (exclusive_at theory after p) ps)) ≡ (mark_at theory now term t).clashes
    clashes-new points initiations ps ascend added t =
        neighbours-inits rank theory now history after p term new.own points (AreInitiationsOf-in points initiations).marks t ps
        ∙ sym (ap (λ (m : PlainMark). m.clashes) (NotLiveIsGathered-law theory now (terms_of after ps) term t (HasLive-added ps ascend added) (not_live now kept)))

    AreMarksOf-in : (points initiations new_points : PointTable T) (ps : List PropId) → are_ascending ps ≡ true → ((q : PropId) → has_number q.0 ps ≡ is_some (prop_at q.0 after)) → AreInitiationsOf rank theory now before initiations
        → new_points.initials ≡ points.initials → ((n : ℕ) → n ≢ p.0 → points_row n new_points ≡ points_row n points)
        → AreGathered rank (marks_under initiations (filter (exclusive_at theory after p) ps)) (marks_at p.0 new_points)
        → AreMarksOf rank theory now before points → AreMarksOf rank theory now after new_points
    AreMarksOf-in points initiations new_points ps ascend added are same others gathered marks = record {
      marks =
          by_number (λ n. (t : Ground) → term_at n after ≡ Some t → plain_marks rank (marks_at n new_points) ≡ marks_of theory now t)
          (λ t is.
          sym (marks_of-gathered rank theory now term (terms_of after ps) (marks_under initiations (filter (exclusive_at theory after p) ps)) (marks_at p.0 new_points)
          history (not_live now kept) (HasLive-added ps ascend added) gathered
          (λ s. neighbours-inits rank theory now history after p term new.own initiations (AreInitiationsOf-in initiations are).marks s ps))
          ∙ ap (marks_of theory now) (own_term t is))
          (λ n other t is. ap (λ row. plain_marks rank (marks_in row)) (others n other) ∙ marks.marks n t (sym (term_at-other n other) ∙ is));
      none =
          by_number (λ n. prop_at n after ≡ None → marks_at n new_points ≡ []) (λ none. absurd (false≢true (sym (ap is_some none) ∙ is_there)))
          (λ n other none. ap marks_in (others n other) ∙ marks.none n (sym (prop_at-other n other) ∙ none));
      initials = AreInitialsOf-in now points new_points same kept marks.initials;
    }

  -- the parts stand for the same lists
  pub StandForBoth-in : {T : Type 0} (rank : T → ℤ) (old next : View T) → IsTakenIn rank theory p after old next → (now soon : List PlainEvent) (tally : Tally)
      → StandForBoth rank theory now soon (record old { table = before }) tally → StandForBoth rank theory now soon (record next { table = after }) tally
  StandForBoth-in rank old next taken now soon tally stand =
      let history = stand.caches.history in
      let added : (q : PropId) → is_added q next.neighbours.rows ≡ is_some (prop_at q.0 after) = λ q. ap (has_number q.0) taken.rows ∙ added-in (added_props old.neighbours.rows) stand.tables.added.added q in
      record {
        tables = record {
          kept = AreKept-in soon stand.tables.kept;
          added = record { neighbours = taken.neighbours; added = added };
          initials = AreInitialsOf-in soon old.points next.points taken.initials stand.tables.kept.live stand.tables.initials;
          tally_of = stand.tables.tally_of;
        };
        caches = record {
          history = history;
          events_of = subst (AreEventsOf rank now) (sym taken.store) stand.caches.events_of;
          entries_of = subst (λ store. AreEntriesOf rank theory now after store next.entries) (sym taken.store)
              (subst (λ entries. AreEntriesOf rank theory now after old.store entries) (sym taken.entries)
              (AreEntriesOf-moved rank theory now before after (λ n t is live. moves n t is) old.store old.entries stand.caches.events_of stand.caches.entries_of));
          marks_of = AreMarksOf-in rank now history stand.live old.points old.initiations next.points (added_props next.neighbours.rows) taken.ascend added stand.caches.initiations_of taken.initials taken.others taken.gathered
              stand.caches.marks_of;
          initiations_of = subst (AreInitiationsOf rank theory now after) (sym taken.initiations) (AreInitiationsOf-in rank now history stand.live old.initiations stand.caches.initiations_of);
          intervals_of = subst (AreIntervalsOf rank theory now after) (sym taken.intervals) (AreIntervalsOf-in rank now history stand.live old.intervals stand.caches.intervals_of);
        };
        live = live-kept now stand.live;
      }
