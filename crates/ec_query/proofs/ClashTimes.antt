-- The times of clashes: those that marks tell are those of the calculus, and they are searched from one to the next.
use Rattle.std.proofs.Common.{◌≡◌, ℕ, zero, suc, ℤ, Bool, true, false, ◌&&◌, ◌||◌, List, [], ◌∷◌, length, map, filter, find, get_or, Option, Some, None, is_some, option_map, All, IsTrue, refl, sym, ap, subst, ◌∙◌, arith}
use Rattle.std.specs.Prelude.{int_lt, nat_lt}
use Rattle.std.specs.List.{list_any, list_all}
use Rattle.std.specs.Ordering.{int_eq}
use Rattle.std.proofs.lemmas.Bool.{and_from, and_parts, false≢true}
use Rattle.ec_lists.proofs.Filters.{length-filter_le}
use Rattle.ec_lists.proofs.Integers.{int_eq-is, int_eq-same}
use Rattle.ec_terms.specs.declared.ground.Ground.{Ground}
use Rattle.ec_terms.specs.declared.theory.Theory.{Theory}
use Rattle.ec_terms.specs.Domain.{GroundEntry, are_exclusive}
use Rattle.ec_terms.specs.Term.{term_eq}
use Rattle.ec_terms.proofs.OrderLemmas.{term_eq-Decides}
use Rattle.ec_axioms.specs.Calculus.{PlainEvent, Effect, clashes_of, effects_at, instants_of, is_active, is_clash, is_clashing, is_current, is_initiating}
use Rattle.ec_axioms.specs.Marks.{PlainMark, is_marked, mark_at, marks_of}
use Rattle.ec_axioms.proofs.HistoryMarks.{instant-mark_at}
use Rattle.ec_axioms.proofs.Members.{IsPairwise, Contains-from_member, IsMember-from_contains, list_all-from_members, IsMember, IsMember-filter, IsMember-from_filter, IsMember-from_map, IsMember-map, length_member, list_any-member, member-list_any, member_length, find-Some, find-None}
use Rattle.ec_axioms.specs.Links.{is_live}
use Rattle.ec_commands.specs.QueryTexts.{Canon, clashes_reply, counted_text}
use Rattle.ec_axioms.proofs.Instants.{IsPairwise-from_ascending, is_ascending-filter, is_ascending-instants_of}
use Rattle.std.specs.Prelude.{◌≤◌, ◌^◌, ◌-◌}
use Rattle.ec_changes.specs.Differences.{entries_at}
use Rattle.ec_changes.proofs.LiveMarks.{NotLiveIsUnknown-law}
use Rattle.ec_changes.proofs.Past.{IsMember-marks_of}
use Rattle.ec_store.specs.Table.{KeptProp, prop_at, term_at}
use Rattle.ec_rows.specs.Ordered.{is_ascending}
use Rattle.ec_rows.specs.PlainMarks.{plain_mark, plain_marks}
use Rattle.ec_rows.specs.declared.mark.Mark.{Mark}
use Rattle.ec_points.specs.Table.{PointRow, PointTable, marks_at, marks_in}
use Rattle.ec_points.specs.Clashes.{clashes_at, clashes_in, is_some_clash, some_clash_at}
use Rattle.ec_query.specs.Marked.{AreClashTimes, AreMarkedOf}
use Rattle.ec_query.proofs.BrokenLemmas.{instants_of-few}
use Rattle.ec_query.proofs.HoldingLemmas.{All-member}

-- ---- what takes effect, by two tests

-- what takes effect by one test takes effect by another that it passes
effects_at-other : (theory : Theory) (events : List PlainEvent) (wanted other : GroundEntry → Bool) (t : ℤ) (effect : Effect)
    → IsMember (effects_at theory events (is_current theory events) wanted t) effect → IsTrue (other effect.entry)
    → IsMember (effects_at theory events (is_current theory events) other t) effect
unfolding effects_at
effects_at-other theory events wanted other t effect member passes =
    let active = IsMember-from_filter (is_active (is_current theory events)) (filter (λ (f : Effect). wanted f.entry) (entries_at theory events t)) effect member in
    let there = IsMember-from_filter (λ (f : Effect). wanted f.entry) (entries_at theory events t) effect active.0 in
    IsMember-filter (is_active (is_current theory events)) (filter (λ (f : Effect). other f.entry) (entries_at theory events t)) effect
    (IsMember-filter (λ (f : Effect). other f.entry) (entries_at theory events t) effect there.0 passes) active.1

effects_at-passes : (theory : Theory) (events : List PlainEvent) (wanted : GroundEntry → Bool) (t : ℤ) (effect : Effect)
    → IsMember (effects_at theory events (is_current theory events) wanted t) effect → IsTrue (wanted effect.entry)
unfolding effects_at
effects_at-passes theory events wanted t effect member =
    let active = IsMember-from_filter (is_active (is_current theory events)) (filter (λ (f : Effect). wanted f.entry) (entries_at theory events t)) effect member in
    (IsMember-from_filter (λ (f : Effect). wanted f.entry) (entries_at theory events t) effect active.0).1

-- an initiating entry initiates its head
initiating-head : (p : Ground) (entry : GroundEntry) → IsTrue (is_initiating p entry) → IsTrue (is_initiating entry.head entry) × (entry.head ≡ p)
unfolding is_initiating
initiating-head p entry initiating =
    let parts = and_parts _ (term_eq entry.head p) initiating in (
      and_from _ (term_eq entry.head entry.head) parts.0 ((term_eq-Decides entry.head entry.head).1 refl),
      (term_eq-Decides entry.head p).0 parts.1,
    )

-- a clash, by the heads of its two entries
abbrev both_there : PlainMark → Bool
both_there mark = nat_lt 0 mark.inits && nat_lt 0 mark.clashes

-- a clash is at one of the two properties
clash-marks : (theory : Theory) (events : List PlainEvent) (t : ℤ) → IsTrue (is_clash theory events t) → (p : Ground) × IsTrue (both_there (mark_at theory events p t))
unfolding is_clash mark_at is_clashing
clash-marks theory events t clash =
    let inits = effects_at theory events (is_current theory events) (λ entry. is_initiating entry.head entry) t in
    let a = list_any-member (λ (a : Effect). list_any (λ (b : Effect). are_exclusive theory a.entry.head b.entry.head) inits) inits clash in
    let b = list_any-member (λ (b : Effect). are_exclusive theory a.0.entry.head b.entry.head) inits a.2 in
    let first = effects_at-passes theory events (λ entry. is_initiating entry.head entry) t a.0 a.1 in
    let second = effects_at-passes theory events (λ entry. is_initiating entry.head entry) t b.0 b.1 in (
      a.0.entry.head,
      and_from _ _
          (length_member (effects_at theory events (is_current theory events) (is_initiating a.0.entry.head) t) a.0
          (effects_at-other theory events (λ entry. is_initiating entry.head entry) (is_initiating a.0.entry.head) t a.0 a.1 first))
          (length_member (effects_at theory events (is_current theory events) (is_clashing theory a.0.entry.head) t) b.0
          (effects_at-other theory events (λ entry. is_initiating entry.head entry) (is_clashing theory a.0.entry.head) t b.0 b.1 (and_from _ _ second b.2))),
    )

-- and where a property is both initiated and clashed with, there is one
marks-clash : (theory : Theory) (events : List PlainEvent) (p : Ground) (t : ℤ) → IsTrue (both_there (mark_at theory events p t)) → IsTrue (is_clash theory events t)
unfolding is_clash mark_at is_clashing
marks-clash theory events p t both =
    let inits = effects_at theory events (is_current theory events) (λ entry. is_initiating entry.head entry) t in
    let parts = and_parts _ _ both in
    let a = member_length (effects_at theory events (is_current theory events) (is_initiating p) t) parts.0 in
    let b = member_length (effects_at theory events (is_current theory events) (is_clashing theory p) t) parts.1 in
    let first = initiating-head p a.0.entry (effects_at-passes theory events (is_initiating p) t a.0 a.1) in
    let second = and_parts (is_initiating b.0.entry.head b.0.entry) (are_exclusive theory p b.0.entry.head) (effects_at-passes theory events (is_clashing theory p) t b.0 b.1) in
    member-list_any (λ (a : Effect). list_any (λ (b : Effect). are_exclusive theory a.entry.head b.entry.head) inits) inits a.0
    (effects_at-other theory events (is_initiating p) (λ entry. is_initiating entry.head entry) t a.0 a.1 first.0)
    (member-list_any (λ (b : Effect). are_exclusive theory a.0.entry.head b.entry.head) inits b.0
    (effects_at-other theory events (is_clashing theory p) (λ entry. is_initiating entry.head entry) t b.0 b.1 second.0)
    (subst (λ (q : Ground). IsTrue (are_exclusive theory q b.0.entry.head)) (sym first.1) second.1))

-- ---- the mark at an instant, among the marks of a property

-- a mark of a property is its mark at its instant
marks_of-member : (theory : Theory) (events : List PlainEvent) (p : Ground) (m : PlainMark) (t : ℤ) → IsMember (marks_of theory events p) m → int_eq m.instant t ≡ true
    → (m ≡ mark_at theory events p t) × IsMember (instants_of events) t
unfolding marks_of
marks_of-member theory events p m t member at =
    let kept = IsMember-from_filter is_marked (map (mark_at theory events p) (instants_of events)) m member in
    let found = IsMember-from_map (mark_at theory events p) (instants_of events) m kept.0 in
    let here : found.0 ≡ t = sym (instant-mark_at theory events p found.0) ∙ ap (λ (k : PlainMark). k.instant) found.2 ∙ int_eq-is m.instant t at in (
      sym found.2 ∙ ap (mark_at theory events p) here,
      subst (IsMember (instants_of events)) here found.1,
    )

-- a mark that is both counts
both-marked : (m : PlainMark) → IsTrue (both_there m) → IsTrue (is_marked m)
both-marked m both = grind arith

-- an instant is among the clashes exactly where there is one
clashes_of-member : (theory : Theory) (events : List PlainEvent) (t : ℤ) → IsMember (clashes_of theory events) t → IsMember (instants_of events) t × IsTrue (is_clash theory events t)
unfolding clashes_of
clashes_of-member theory events t member = IsMember-from_filter (is_clash theory events) (instants_of events) t member

member-clashes_of : (theory : Theory) (events : List PlainEvent) (t : ℤ) → IsMember (instants_of events) t → IsTrue (is_clash theory events t) → IsMember (clashes_of theory events) t
unfolding clashes_of
member-clashes_of theory events t member clash = IsMember-filter (is_clash theory events) (instants_of events) t member clash

-- ---- the times that the marks of a table tell

-- some row of a list passes, at a place
any-at : {X : Type 0} (test : Option X → Bool) (rows : List (Option X)) → list_any test rows ≡ true → (n : ℕ) × (test (get_or rows n None) ≡ true)
any-at test [] some = absurd (false≢true some)
any-at test (row ∷ rows) some = by_case (test row) refl some (any-at test rows)
  where
    by_case : (b : Bool) → test row ≡ b → (b || list_any test rows) ≡ true → (list_any test rows ≡ true → (n : ℕ) × (test (get_or rows n None) ≡ true))
        → (n : ℕ) × (test (get_or (row ∷ rows) n None) ≡ true)
    by_case true here some rest = (zero, here)
    by_case false here some rest = let found = rest some in (suc found.0, found.1)

is_ascending-from_instants : (ts : List ℤ) → IsPairwise (λ s t. IsTrue (int_lt s t)) ts → IsTrue (is_ascending int_lt ts)
unfolding is_ascending
is_ascending-from_instants [] pairs = refl
is_ascending-from_instants (t ∷ ts) pairs = and_from (list_all (int_lt t) ts) (is_ascending int_lt ts) (list_all-from_members (int_lt t) ts pairs.0) (is_ascending-from_instants ts pairs.1)

module _ {T : Type 0} (rank : T → ℤ) (theory : Theory) (events : List PlainEvent) (table : List KeptProp) (points : PointTable T) (marked : AreMarkedOf rank theory events table points)
    (numbers : All (λ kept. prop_at kept.id table ≡ Some kept) table) where
  -- a live property is kept under a number
  number-live : (p : Ground) → is_live theory events p ≡ true → (n : ℕ) × (term_at n table ≡ Some p)
  number-live p live = by_found (find (λ (k : KeptProp). term_eq k.term p) table) refl (marked.live p live)
    where
      by_found : (o : Option KeptProp) → find (λ (k : KeptProp). term_eq k.term p) table ≡ o → is_some (option_map (λ (k : KeptProp). k.id) o) ≡ true → (n : ℕ) × (term_at n table ≡ Some p)
      by_found None is some = absurd (false≢true some)
      by_found (Some kept) is some =
          let found = find-Some (λ (k : KeptProp). term_eq k.term p) table kept is in (
            kept.id,
            ap (option_map (λ (k : KeptProp). k.term)) (All-member (λ (k : KeptProp). prop_at k.id table ≡ Some k) table kept numbers found.0)
                ∙ ap Some ((term_eq-Decides kept.term p).0 found.1),
          )

  -- what is initiated somewhere is live
  initiated-live : (p : Ground) (t : ℤ) → nat_lt 0 (mark_at theory events p t).inits ≡ true → is_live theory events p ≡ true
  initiated-live p t initiated = by_case (is_live theory events p) refl
    where
      by_case : (b : Bool) → is_live theory events p ≡ b → b ≡ true
      by_case true live = refl
      by_case false dead = absurd (false≢true (sym (ap (nat_lt 0) ((NotLiveIsUnknown-law theory events p dead).no_inits t)) ∙ initiated))

  -- at a clash some kept property has a mark that tells it
  clashing-at : (t : ℤ) → IsMember (clashes_of theory events) t → (n : ℕ) × (clashes_at rank n t points ≡ true)
  clashing-at t member =
      let there = clashes_of-member theory events t member in
      let found = clash-marks theory events t there.1 in
      let p : Ground = found.0 in
      let number = number-live p (initiated-live p t (and_parts _ _ found.1).0) in
      let marks = marks_at number.0 points in
      let same = marked.marks_of.marks number.0 p number.1 in
      let listed : IsMember (plain_marks rank marks) (mark_at theory events p t) =
      subst (λ (ms : List PlainMark). IsMember ms (mark_at theory events p t)) (sym same) (IsMember-marks_of theory events p t (both-marked (mark_at theory events p t) found.1)) in
      let mark = IsMember-from_map (plain_mark rank) marks (mark_at theory events p t) listed in
      let here : int_eq (rank mark.0.at) t ≡ true = ap (λ (m : PlainMark). int_eq m.instant t) mark.2 ∙ ap (λ s. int_eq s t) (instant-mark_at theory events p t) ∙ int_eq-same t in
      (number.0, by_found p marks same found.1 mark.0 mark.1 here (find (λ (m : Mark T). int_eq (rank m.at) t) marks) refl)
    where
      by_found : (p : Ground) (marks : List (Mark T)) → plain_marks rank marks ≡ marks_of theory events p → IsTrue (both_there (mark_at theory events p t)) → (m : Mark T) → IsMember marks m → int_eq (rank m.at) t ≡ true
          → (o : Option (Mark T)) → find (λ (m : Mark T). int_eq (rank m.at) t) marks ≡ o → is_some_clash o ≡ true
      by_found p marks same both m member here None is = absurd (false≢true (sym (find-None (λ (m : Mark T). int_eq (rank m.at) t) marks m is member) ∙ here))
      by_found p marks same both m member here (Some k) is =
          let first = find-Some (λ (m : Mark T). int_eq (rank m.at) t) marks k is in
          let it = marks_of-member theory events p (plain_mark rank k) t (subst (λ (ms : List PlainMark). IsMember ms (plain_mark rank k)) same (IsMember-map (plain_mark rank) marks k first.0)) first.1 in
          ap both_there it.0 ∙ both

  -- and where a row tells one, there is one
  clash-told : (t : ℤ) → some_clash_at rank t points ≡ true → IsMember (clashes_of theory events) t
  clash-told t some =
      let row = any-at (λ (row : Option (PointRow T)). clashes_in rank t (marks_in row)) points.rows some in
      by_kept row.0 row.1 (prop_at row.0 table) refl
    where
      by_mark : (p : Ground) (marks : List (Mark T)) → plain_marks rank marks ≡ marks_of theory events p → (o : Option (Mark T)) → find (λ (m : Mark T). int_eq (rank m.at) t) marks ≡ o → is_some_clash o ≡ true
          → IsMember (clashes_of theory events) t
      by_mark p marks same None is clash = absurd (false≢true clash)
      by_mark p marks same (Some m) is clash =
          let first = find-Some (λ (m : Mark T). int_eq (rank m.at) t) marks m is in
          let it = marks_of-member theory events p (plain_mark rank m) t (subst (λ (ms : List PlainMark). IsMember ms (plain_mark rank m)) same (IsMember-map (plain_mark rank) marks m first.0)) first.1 in
          member-clashes_of theory events t it.1 (marks-clash theory events p t (sym (ap both_there it.0) ∙ clash))

      by_kept : (n : ℕ) → clashes_in rank t (marks_at n points) ≡ true → (o : Option KeptProp) → prop_at n table ≡ o → IsMember (clashes_of theory events) t
      by_kept n clash None absent = absurd (false≢true (sym (ap (clashes_in rank t) (marked.marks_of.none n absent)) ∙ clash))
      by_kept n clash (Some kept) is =
          by_mark kept.term (marks_at n points) (marked.marks_of.marks n kept.term (ap (option_map (λ (k : KeptProp). k.term)) is))
          (find (λ (m : Mark T). int_eq (rank m.at) t) (marks_at n points)) refl clash

  ascending-clashes : IsTrue (is_ascending int_lt (clashes_of theory events))
  unfolding clashes_of
  ascending-clashes =
      is_ascending-from_instants (filter (is_clash theory events) (instants_of events))
      (IsPairwise-from_ascending (filter (is_clash theory events) (instants_of events))
      (is_ascending-filter (is_clash theory events) (instants_of events) (is_ascending-instants_of events marked.history)))

  pub AreClashTimes-of : AreClashTimes rank points (clashes_of theory events)
  AreClashTimes-of = record {
    ascending = ascending-clashes;
    clashing = λ t member. clashing-at t (IsMember-from_contains (clashes_of theory events) t member);
    all = λ t some. Contains-from_member (clashes_of theory events) t (clash-told t some);
  }

  pub clashes_of-few : length (clashes_of theory events) ≤ 2 ^ 64 - 1
  unfolding clashes_of
  clashes_of-few =
      let first = length-filter_le (is_clash theory events) (instants_of events) in
      let second = instants_of-few events in
      omega (arith, first, second, marked.few)

pub clashes_reply-of : (theory : Theory) (events : List PlainEvent) (canon : Canon) → counted_text (map canon (clashes_of theory events)) ≡ clashes_reply theory events canon
unfolding clashes_reply
clashes_reply-of theory events canon = refl
