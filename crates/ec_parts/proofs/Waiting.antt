-- Properties that the table alone keeps, of which the last joins the other parts.
use Rattle.std.proofs.Common.{◌≡◌, ℕ, ℤ, ◌<◌, ◌≤◌, Bool, true, false, not, ◌||◌, List, [], ◌∷◌, ◌++◌, filter, length, get_or, Option, Some, None, is_some, IsSome, refl, sym, ap, ap₂, subst, ◌∙◌, inl, inr, ⊎_elim, arith}
use Rattle.std.specs.Prelude.{◌==◌, nat_lt, option_map, flat_map}
use Rattle.std.specs.List.{All}
use Rattle.std.proofs.lemmas.Bool.{eqb-true, not-true}
use Rattle.std.proofs.lemmas.List.{get_or_default}
use Rattle.ec_lists.proofs.Filters.{filter_comm}
use Rattle.ec_lists.proofs.Options.{Some-from_is_some, is_some-option_map}
use Rattle.ec_terms.specs.declared.ids.PropId.{PropId}
use Rattle.ec_terms.specs.declared.ground.Ground.{Ground}
use Rattle.ec_terms.specs.declared.theory.Theory.{Theory}
use Rattle.ec_axioms.specs.Calculus.{PlainEvent}
use Rattle.ec_axioms.specs.Links.{mentions_of}
use Rattle.ec_axioms.specs.Marks.{PlainMark, marks_of, mark_initiates}
use Rattle.ec_axioms.proofs.Members.{IsMember, IsMember_at, IsMember-map, IsMember-from_map, IsMember-from_filter, IsMember-append_cases, filter_agree, find-Some, member-list_any}
use Rattle.ec_changes.proofs.LiveMarks.{MarksAreSmall-law}
use Rattle.ec_context.specs.Widened.{AreUnmentioned, without_props}
use Rattle.ec_context.proofs.Keepings.{unmentioned-last}
use Rattle.ec_context.proofs.Tables.{has_number-push, prop_at-without_props, without_props-push}
use Rattle.ec_store.specs.Table.{KeptProp, prop_at, term_at, mentions_at, without_prop}
use Rattle.ec_numbered.specs.PropSet.{has_number, with_number, are_ascending}
use Rattle.ec_numbered.proofs.Numbers.{itself, are_ascending-with_number}
use Rattle.ec_exclusive.specs.Added.{Added, added_props, is_added}
use Rattle.ec_exclusive.specs.Neighbours.{both_exclusive, exclusive_at}
use Rattle.ec_exclusive.proofs.SameTerms.{read_terms_alone}
use Rattle.ec_points.specs.Table.{marks_at}
use Rattle.ec_rows.specs.declared.mark.Mark.{Mark}
use Rattle.ec_rows.specs.PlainMarks.{plain_mark, plain_marks}
use Rattle.ec_parts.specs.Adoption.{without_waiting, StandForSomeBoth, neighbours_with, MayJoin, HasJoined, HasStayed}
use Rattle.ec_parts.specs.Caches.{AreInitialsOf, initiations_of_mark}
use Rattle.ec_parts.specs.Gathered.{AreGathered, initiations_at, marks_under}
use Rattle.ec_parts.specs.StandFor.{View, StandForBoth}
use Rattle.ec_parts.specs.declared.tally.Tally.{Tally}
use Rattle.ec_parts.proofs.KeptInitiations.{IsMember-kept_initiations}
use Rattle.ec_parts.proofs.LinksByNumber.{IsOneToOne}
use Rattle.ec_parts.proofs.OneMore.{IsNew, IsOneToOne-without_props, StandForBoth-in, clashes-new, added-in, prop_at-before}

-- ---- tables without some numbers

-- without the last number too
pub without_last : (items : List PropId) (p : PropId) (table : List KeptProp) → without_props (items ++ p ∷ []) table ≡ without_prop p.0 (without_props items table)
without_last items p table = without_props-push items p table ∙ filter_comm (λ (kept : KeptProp). not (has_number kept.id items)) (λ (kept : KeptProp). not (kept.id == p.0)) table

-- the last number is none of the others
pub last-apart : (items : List PropId) (p : PropId) (table : List KeptProp) → AreUnmentioned (items ++ p ∷ []) table → has_number p.0 items ≡ false
unfolding AreUnmentioned
last-apart [] p table all = refl
last-apart (q ∷ items) p table all = let rest = last-apart items p table all.1.1 in let apart = sym (has_number-push q.0 items p) ∙ all.1.0 in neither (has_number q.0 items) q.0 p.0 (has_number p.0 items) apart rest
  where
    neither : (b : Bool) (m n : ℕ) (c : Bool) → (b || (n == m)) ≡ false → c ≡ false → ((m == n) || c) ≡ false
    neither b m n c h k = grind arith

-- what is kept without some numbers is what is kept
kept_same : (items : List PropId) (table : List KeptProp) (id : ℕ) → IsSome (prop_at id (without_props items table)) → prop_at id table ≡ prop_at id (without_props items table)
kept_same items table id there =
    let k = Some-from_is_some (prop_at id (without_props items table)) there in
    let found = find-Some (λ (kept : KeptProp). kept.id == id) (without_props items table) k.0 k.1 in
    let stays = (IsMember-from_filter (λ (kept : KeptProp). not (has_number kept.id items)) table k.0 found.0).1 in
    sym (prop_at-without_props items id table (ap (λ n. has_number n items) (sym (eqb-true k.0.id id found.1)) ∙ not-true _ stays))

term_same : (items : List PropId) (table : List KeptProp) (id : ℕ) → IsSome (prop_at id (without_props items table)) → term_at id table ≡ term_at id (without_props items table)
term_same items table id there = ap (option_map (λ (k : KeptProp). k.term)) (kept_same items table id there)

-- a number that stands in a list
number_there : (ps : List PropId) (q : PropId) → IsMember ps q → has_number q.0 ps ≡ true
number_there ps q member = member-list_any (λ (r : PropId). r.0 == q.0) ps q member (itself q)

-- the property of an added row is added
row_there : (rows : List Added) (k : ℕ) (d : Added) → k < length rows → is_added (get_or rows k d).prop rows ≡ true
row_there rows k d below =
    let row = get_or rows k d in
    number_there (added_props rows) row.prop (IsMember-map (λ (r : Added). r.prop) rows row (IsMember_at rows row k below (get_or_default rows k row d below)))

-- all where each member
pub All-from_members : {X : Type 0} (P : X → Type 0) (xs : List X) → ((x : X) → IsMember xs x → P x) → All P xs
All-from_members P xs each k d below = each (get_or xs k d) (IsMember_at xs (get_or xs k d) k below (get_or_default xs k (get_or xs k d) d below))

-- a member of what a function gives of the members
from_flat_map : {X Y : Type 0} (f : X → List Y) (xs : List X) (y : Y) → IsMember (flat_map f xs) y → (x : X) × (IsMember xs x × IsMember (f x) y)
from_flat_map f [] y member = absurd member
from_flat_map f (x ∷ xs) y member =
    ⊎_elim (λ here. (x, (inl refl, here))) (λ later. let rest = from_flat_map f xs y later in (rest.0, (inr rest.1.0, rest.1.1))) (IsMember-append_cases (f x) (flat_map f xs) y member)

-- ---- the last of those that wait

module _ {T : Type 0} (rank : T → ℤ) (theory : Theory) (items : List PropId) (p : PropId) (old : View T) (one : IsOneToOne old.table) (waiting : AreUnmentioned (items ++ p ∷ []) old.table)
    (ascend : are_ascending (added_props old.neighbours.rows) ≡ true) where
  abbrev before : List KeptProp
  before = without_props (items ++ p ∷ []) old.table

  abbrev after : List KeptProp
  after = without_props items old.table

  abbrev added_then : List PropId
  added_then = with_number p (added_props old.neighbours.rows)

  none_mention : mentions_at p.0 old.table ≡ Some 0
  none_mention = unmentioned-last items p old.table waiting

  is_kept : IsSome (prop_at p.0 old.table)
  is_kept = sym (is_some-option_map (λ (k : KeptProp). k.mentions) (prop_at p.0 old.table)) ∙ ap is_some none_mention

  own : (term : Ground) × (term_at p.0 old.table ≡ Some term)
  own = Some-from_is_some (term_at p.0 old.table) (is_some-option_map (λ (k : KeptProp). k.term) (prop_at p.0 old.table) ∙ is_kept)

  same_own : prop_at p.0 after ≡ prop_at p.0 old.table
  same_own = prop_at-without_props items p.0 old.table (last-apart items p old.table waiting)

  is_new : IsNew p own.0 before after
  is_new = record {
    table = without_last items p old.table;
    own = ap (option_map (λ (k : KeptProp). k.term)) same_own ∙ own.1;
    unmentioned = ap (option_map (λ (k : KeptProp). k.mentions)) same_own ∙ none_mention;
  }

  one_before : IsOneToOne before
  one_before = IsOneToOne-without_props (items ++ p ∷ []) old.table one

  one_after : IsOneToOne after
  one_after = IsOneToOne-without_props items old.table one

  none_before : prop_at p.0 before ≡ None
  none_before = prop_at-before theory p own.0 before after one_before one_after is_new

  module _ (added : (q : PropId) → is_added q old.neighbours.rows ≡ is_some (prop_at q.0 before)) where
    added_after : (q : PropId) → has_number q.0 added_then ≡ is_some (prop_at q.0 after)
    added_after = added-in theory p own.0 before after one_before one_after is_new (added_props old.neighbours.rows) added

    same_neighbours : neighbours_with theory p old ≡ filter (exclusive_at theory after p) added_then
    same_neighbours =
        filter_agree (exclusive_at theory old.table p) (exclusive_at theory after p) added_then
        (λ q member.
        ap₂ (both_exclusive theory) (ap (option_map (λ (k : KeptProp). k.term)) (sym same_own)) (term_same items old.table q.0 (sym (added_after q) ∙ number_there added_then q member)))

  -- it may join the other parts
  pub MayJoin-waiting : StandForSomeBoth rank theory (without_waiting (items ++ p ∷ []) old) → MayJoin rank theory p old
  MayJoin-waiting some = record {
    kept = is_kept;
    absent = some.stand.tables.added.added p ∙ ap is_some none_before;
    neighbours = read_terms_alone theory before old.table old.neighbours (λ k d below. term_same (items ++ p ∷ []) old.table (get_or old.neighbours.rows k d).prop.0 (some.stand.tables.added.neighbours.kept k d below))
        some.stand.tables.added.neighbours;
    none = some.stand.caches.marks_of.none p.0 none_before;
    counted = All-from_members (λ (m : Mark T). 0 < m.inits) (marks_under old.initiations (neighbours_with theory p old)) (λ m member. let from = from_flat_map (λ (q : PropId). marks_at q.0 old.initiations) (neighbours_with theory p old) m member in initiates from.0 m from.1.1);
    few = λ t.
        let count = ap (λ ps. initiations_at rank t (marks_under old.initiations ps)) (same_neighbours some.stand.tables.added.added)
        ∙ clashes-new theory p own.0 before after one_before one_after is_new rank some.now some.stand.caches.history some.stand.live old.initiations some.stand.caches.initiations_of added_then
        (are_ascending-with_number p (added_props old.neighbours.rows) ascend) (added_after some.stand.tables.added.added) t in
        small _ _ (length (mentions_of theory some.now)) count (MarksAreSmall-law theory some.now own.0 t).clashes some.few;
  }
    where
      small : (a b n : ℕ) → a ≡ b → b ≤ n → n < 4294967296 → a < 4294967296
      small a b n is le lt = omega arith

      positive : (n : ℕ) → nat_lt 0 n ≡ true → 0 < n
      positive n some = grind arith

      initiates : (q : PropId) (m : Mark T) → IsMember (marks_at q.0 old.initiations) m → 0 < m.inits
      initiates q m member = each (prop_at q.0 before) refl
        where
          each : (o : Option KeptProp) → prop_at q.0 before ≡ o → 0 < m.inits
          each None is = absurd (subst (λ ms. IsMember ms m) (some.stand.caches.initiations_of.none q.0 is) member)
          each (Some k) is =
              let shown = some.stand.caches.initiations_of.marks q.0 k.term (ap (option_map (λ (x : KeptProp). x.term)) is) in
              let plain = subst (λ ms. IsMember ms (plain_mark rank m)) shown (IsMember-map (plain_mark rank) (marks_at q.0 old.initiations) m member) in
              let from =
              IsMember-from_map initiations_of_mark (filter mark_initiates (marks_of theory some.now k.term)) (plain_mark rank m)
              (IsMember-kept_initiations theory some.now k.term (plain_mark rank m) plain) in
              let test = (IsMember-from_filter mark_initiates (marks_of theory some.now k.term) from.0 from.1).1 in
              subst (λ n. 0 < n) (ap (λ (x : PlainMark). x.inits) from.2) (positive from.0.inits test)

  -- once it has joined, the parts stand for the same lists without the others that wait
  pub StandForBoth-joined : (next : View T) → next ≡ record old { neighbours = next.neighbours; points = next.points } → HasJoined rank theory p old next → (now soon : List PlainEvent) (tally : Tally)
      → StandForBoth rank theory now soon (without_waiting (items ++ p ∷ []) old) tally → StandForBoth rank theory now soon (without_waiting items next) tally
  StandForBoth-joined next rest joined now soon tally stand =
      let table : next.table ≡ old.table = ap (λ (v : View T). v.table) rest in
      let there : (q : PropId) → is_added q next.neighbours.rows ≡ is_some (prop_at q.0 after) = (λ q. ap (has_number q.0) joined.rows ∙ added_after stand.tables.added.added q) in
      subst (λ ks. StandForBoth rank theory now soon (record next { table = without_props items ks }) tally) (sym table)
      (StandForBoth-in theory p own.0 before after one_before one_after is_new rank old next
      (record {
        store = ap (λ (v : View T). v.store) rest;
        entries = ap (λ (v : View T). v.entries) rest;
        initiations = ap (λ (v : View T). v.initiations) rest;
        intervals = ap (λ (v : View T). v.intervals) rest;
        rows = joined.rows;
        ascend = joined.ascend;
        neighbours = read_terms_alone theory old.table after next.neighbours
            (λ k d below. sym (term_same items old.table (get_or next.neighbours.rows k d).prop.0 (sym (there (get_or next.neighbours.rows k d).prop) ∙ row_there next.neighbours.rows k d below))) joined.neighbours;
        initials = joined.initials;
        others = joined.others;
        gathered = subst (λ ps. AreGathered rank (marks_under old.initiations (filter (exclusive_at theory after p) ps)) (marks_at p.0 next.points)) (sym joined.rows)
            (subst (λ ps. AreGathered rank (marks_under old.initiations ps) (marks_at p.0 next.points)) (same_neighbours stand.tables.added.added) joined.gathered);
      }) now soon tally stand)

-- ---- where none joins

-- parts in which the same properties stay added, with the same marks, stand for the same lists
pub StandForBoth-stayed : {T : Type 0} (rank : T → ℤ) (theory : Theory) (waiting : List PropId) (old next : View T) → next ≡ record old { neighbours = next.neighbours; points = next.points } → HasStayed theory old next
    → (now soon : List PlainEvent) (tally : Tally) → StandForBoth rank theory now soon (without_waiting waiting old) tally → StandForBoth rank theory now soon (without_waiting waiting next) tally
StandForBoth-stayed {T} rank theory waiting old next rest stayed now soon tally stand =
    subst (λ (v : View T). StandForBoth rank theory now soon (without_waiting waiting (record v { neighbours = next.neighbours; points = next.points })) tally) (sym rest)
    (record {
      tables = record {
        kept = stand.tables.kept;
        added = record {
          neighbours = read_terms_alone theory old.table (without_props waiting old.table) next.neighbours
              (λ k d below.
              let q = (get_or next.neighbours.rows k d).prop in
              sym (term_same waiting old.table q.0 (sym (stand.tables.added.added q) ∙ sym (stayed.added q) ∙ row_there next.neighbours.rows k d below)))
              stayed.neighbours;
          added = λ q. stayed.added q ∙ stand.tables.added.added q;
        };
        initials = initials stand.tables.initials;
        tally_of = stand.tables.tally_of;
      };
      caches = record {
        history = stand.caches.history;
        events_of = stand.caches.events_of;
        entries_of = stand.caches.entries_of;
        marks_of = record {
          marks = λ n t is. ap (plain_marks rank) (stayed.marks n) ∙ stand.caches.marks_of.marks n t is;
          none = λ n none. stayed.marks n ∙ stand.caches.marks_of.none n none;
          initials = initials stand.caches.marks_of.initials;
        };
        initiations_of = stand.caches.initiations_of;
        intervals_of = stand.caches.intervals_of;
      };
      live = stand.live;
    })
  where
    initials : AreInitialsOf theory (without_props waiting old.table) old.points → AreInitialsOf theory (without_props waiting old.table) next.points
    initials are = record { initial = λ n t is. ap (has_number n) stayed.initials ∙ are.initial n t is; none = λ n none. ap (has_number n) stayed.initials ∙ are.none n none }
