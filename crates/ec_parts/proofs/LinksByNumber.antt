-- What a mention adds to the links, counted by the numbers of a table.
use Rattle.std.proofs.Common.{◌≡◌, ℕ, ◌+◌, ◌-◌, Bool, true, false, not, cond, ◌&&◌, ◌||◌, List, [], ◌∷◌, ◌++◌, length, filter, Option, Some, None, is_some, IsTrue, refl, sym, ap, ap₂, subst, ◌∙◌, ⊎_elim, arith}
use Rattle.std.specs.Prelude.{◌==◌, nat_lt, option_map, unwrap_or}
use Rattle.std.specs.List.{list_any, list_all, sum_by, All}
use Rattle.std.specs.Option.{option_map_or}
use Rattle.std.proofs.lemmas.Bool.{cases_Bool, and_parts, false≢true, false_from_ne_true, eqb-true, eq-eqb, cond-true, cond-false, or_right}
use Rattle.std.proofs.lemmas.Option.{same_Some}
use Rattle.std.proofs.lemmas.List.Sums.{sum_by-cons}
use Rattle.ec_terms.specs.declared.ids.PropId.{PropId}
use Rattle.ec_terms.specs.declared.ground.Ground.{Ground}
use Rattle.ec_terms.specs.declared.theory.Theory.{Theory}
use Rattle.ec_terms.specs.Term.{term_eq}
use Rattle.ec_terms.specs.Domain.{are_exclusive, is_initial}
use Rattle.ec_terms.proofs.DomainLemmas.{term_eq-refl}
use Rattle.ec_terms.proofs.OrderLemmas.{term_eq-Decides}
use Rattle.ec_lists.proofs.Filters.{filter-none, filter-filter_wider}
use Rattle.ec_lists.proofs.Tests.{list_all-weaker, list_any-none, nat_lt-filter}
use Rattle.ec_lists.proofs.Options.{Some-from_is_some, is_some-option_map}
use Rattle.ec_axioms.specs.Links.{initial_properties}
use Rattle.ec_axioms.proofs.Members.{IsMember, filter_agree, IsMember-from_filter}
use Rattle.ec_changes.specs.LiveLaws.{ListsInitials}
use Rattle.ec_changes.specs.LinkLaws.{live_by, exclusive_count, links_of}
use Rattle.ec_changes.proofs.Tallies.{length-by_keys, length-filter_once, sum_by-agree}
use Rattle.ec_changes.proofs.TermOrder.{test-IsMember}
use Rattle.ec_changes.proofs.LiveLists.{test-in_term_order}
use Rattle.ec_changes.proofs.DistinctTerms.{IsDistinct-in_term_order}
use Rattle.ec_changes.proofs.LinkSteps.{OneMentionMore-law}
use Rattle.ec_store.specs.Table.{KeptProp, prop_at, prop_of, term_at, is_in_order}
use Rattle.ec_store.proofs.PropLemmas.{place-prop_at, same-places, prop_at-id}
use Rattle.ec_store.proofs.FoundLemmas.{found_own}
use Rattle.ec_rows.specs.Ordered.{is_ascending}
use Rattle.ec_numbered.specs.PropSet.{has_number, comes_before, are_ascending}
use Rattle.ec_numbered.proofs.Numbers.{has_number-filter}
use Rattle.std.proofs.lemmas.List.Folds.{list_any-append}
use Rattle.ec_exclusive.specs.Added.{added_props, is_added}
use Rattle.ec_exclusive.specs.Neighbours.{Neighbourhoods, both_exclusive, exclusive_at}
use Rattle.ec_points.specs.Table.{PointTable}
use Rattle.ec_parts.specs.Tables.{held_mention}
use Rattle.ec_parts.specs.Caches.{AreInitialsOf}
use Rattle.ec_parts.specs.Mentions.{is_live_by, AreKeptBy, count_at, told_at, links_to}

-- ---- terms and numbers

-- each term of a table stands under one number
pub record IsOneToOne (table : List KeptProp) : Type 0 where
  pub in_order : IsTrue (is_in_order table)
  pub numbers : All (λ (kept : KeptProp). prop_at kept.id table ≡ Some kept) table

-- what is kept where a term is
pub kept_with : (o : Option KeptProp) (t : Ground) → option_map (λ (k : KeptProp). k.term) o ≡ Some t → (k : KeptProp) × ((o ≡ Some k) × (k.term ≡ t))
kept_with None t is = absurd (false≢true (ap is_some is))
kept_with (Some k) t is = (k, (refl, cc))

-- the number of a term is one
pub same_number : (table : List KeptProp) (a b : ℕ) (t : Ground) → IsOneToOne table → term_at a table ≡ Some t → term_at b table ≡ Some t → a ≡ b
same_number table a b t one at_a at_b =
    let k = kept_with (prop_at a table) t at_a in
    let l = kept_with (prop_at b table) t at_b in
    let i = place-prop_at a table k.0 k.1.0 in
    let j = place-prop_at b table l.0 l.1.0 in
    let same : k.0 ≡ l.0 = same-places table i.0 j.0 k.0 l.0 one.in_order i.1 j.1 (k.1.1 ∙ sym l.1.1) in
    sym (prop_at-id a table k.0 k.1.0) ∙ ap (λ (x : KeptProp). x.id) same ∙ prop_at-id b table l.0 l.1.0

-- and leads back to it
pub term_at-prop_of : (table : List KeptProp) (t : Ground) (id : ℕ) → IsOneToOne table → prop_of t table ≡ Some id → term_at id table ≡ Some t
term_at-prop_of table t id one is = found_own t id table table one.numbers is

-- a number that ascending numbers have stands there once
stands_once : (id : ℕ) (ps : List PropId) → are_ascending ps ≡ true → has_number id ps ≡ true → length (filter (λ (q : PropId). q.0 == id) ps) ≡ 1
unfolding is_ascending
stands_once id [] ascend there = absurd (false≢true there)
stands_once id (q ∷ qs) ascend there =
    let parts = and_parts (list_all (comes_before q) qs) (are_ascending qs) ascend in
    ⊎_elim
    (λ here.
    let same : q.0 ≡ id = eqb-true q.0 id here in
    let others : list_all (λ (r : PropId). not (r.0 == id)) qs ≡ true = list_all-weaker (comes_before q) (λ (r : PropId). not (r.0 == id)) (λ r behind. not_it q.0 r.0 id same behind) qs parts.0 in
    ap length (cond-true (q.0 == id) _ _ here ∙ ap (λ rest. q ∷ rest) (filter-none (λ (r : PropId). r.0 == id) qs (list_any-none (λ (r : PropId). r.0 == id) qs others))))
    (λ other. let later : has_number id qs ≡ true = grind arith in ap length (cond-false (q.0 == id) _ _ other) ∙ stands_once id qs parts.1 later)
    (cases_Bool (q.0 == id))
  where
    not_it : (a b id : ℕ) → a ≡ id → nat_lt a b ≡ true → not (b == id) ≡ true
    not_it a b id same less = grind arith

-- ---- by neighbours

-- the table keeps this term under the number
abbrev pub is_term : List KeptProp → PropId → Ground → Bool
is_term table q m = option_map_or (λ t. term_eq t m) (term_at q.0 table) false

-- a number whose term it is
term-is_term : (table : List KeptProp) (q : PropId) (m : Ground) → is_term table q m ≡ true → term_at q.0 table ≡ Some m
term-is_term table q m = each (term_at q.0 table)
  where
    each : (o : Option Ground) → option_map_or (λ t. term_eq t m) o false ≡ true → o ≡ Some m
    each None is = absurd (false≢true is)
    each (Some t) is = ap Some ((term_eq-Decides t m).0 is)

-- each member of a list is kept
abbrev pub AreAllKept : List KeptProp → List Ground → Type 0
AreAllKept table ms = (m : Ground) → IsMember ms m → (id : ℕ) × (term_at id table ≡ Some m)

-- the neighbours of a term are these numbers
pub record AreItsNeighbours (theory : Theory) (table : List KeptProp) (around : Neighbourhoods) (p : PropId) (term : Ground) (list : List PropId) : Type 0 where
  pub one : IsOneToOne table
  pub own : term_at p.0 table ≡ Some term
  pub added : (q : PropId) → is_added q around.rows ≡ is_some (prop_at q.0 table)
  pub ascend : are_ascending list ≡ true
  pub exclusive : list ≡ filter (exclusive_at theory table p) (added_props around.rows)

module _ (theory : Theory) (table : List KeptProp) (around : Neighbourhoods) (p : PropId) (term : Ground) (list : List PropId) (its : AreItsNeighbours theory table around p term list) where
  -- a kept term that is exclusive stands among the neighbours
  listed : (id : ℕ) (m : Ground) → term_at id table ≡ Some m → are_exclusive theory term m ≡ true → has_number id list ≡ true
  listed id m is exclusive =
      let q : PropId = record { 0 = id } in
      let test : exclusive_at theory table p q ≡ true = ap₂ (both_exclusive theory) its.own is ∙ exclusive in
      let there : has_number id (added_props around.rows) ≡ true = its.added q ∙ sym (is_some-option_map (λ (k : KeptProp). k.term) (prop_at id table)) ∙ ap is_some is in
      ap (has_number id) its.exclusive ∙ has_number-filter q (exclusive_at theory table p) (added_props around.rows) ∙ ap₂ (λ a b. a && b) test there

  -- under one number alone
  under_one : (id : ℕ) (m : Ground) → term_at id table ≡ Some m → are_exclusive theory term m ≡ true → length (filter (λ q. is_term table q m) list) ≡ 1
  under_one id m is exclusive =
      ap length (filter_agree (λ q. is_term table q m) (λ (q : PropId). q.0 == id) list (λ q member. same_test q))
      ∙ stands_once id list its.ascend (listed id m is exclusive)
    where
      same_test : (q : PropId) → is_term table q m ≡ (q.0 == id)
      same_test q =
          ⊎_elim
          (λ same. let number : q.0 ≡ id = eqb-true q.0 id same in
          ap (λ n. option_map_or (λ t. term_eq t m) (term_at n table) false) number ∙ ap (λ o. option_map_or (λ t. term_eq t m) o false) is ∙ term_eq-refl m ∙ sym same)
          (λ other. false_from_ne_true (is_term table q m)
          (λ same. let number : q.0 ≡ id = same_number table q.0 id m its.one (term-is_term table q m same) is in false≢true (sym other ∙ eq-eqb q.0 id number)) ∙ sym other)
          (cases_Bool (q.0 == id))

  -- a neighbour is kept, with a term that is exclusive
  neighbour_term : (q : PropId) → IsMember list q → (t : Ground) × ((term_at q.0 table ≡ Some t) × (are_exclusive theory term t ≡ true))
  neighbour_term q member =
      let test : exclusive_at theory table p q ≡ true = (IsMember-from_filter (exclusive_at theory table p) (added_props around.rows) q (subst (λ l. IsMember l q) its.exclusive member)).1 in
      each (term_at q.0 table) refl (sym (ap (λ o. both_exclusive theory o (term_at q.0 table)) its.own) ∙ test)
    where
      each : (o : Option Ground) → term_at q.0 table ≡ o → both_exclusive theory (Some term) o ≡ true → (t : Ground) × ((term_at q.0 table ≡ Some t) × (are_exclusive theory term t ≡ true))
      each None is test = absurd (false≢true test)
      each (Some t) is test = (t, (is, test))

  -- as many members of a list are exclusive as stand under each neighbour, together
  pub exclusive_count-by_neighbours : (ms : List Ground) → AreAllKept table ms
      → exclusive_count theory term ms ≡ sum_by (λ q. length (filter (is_term table q) ms)) list
  exclusive_count-by_neighbours ms kept =
      length-by_keys (is_term table) list (filter (are_exclusive theory term) ms)
      (λ m member. let parts = IsMember-from_filter (are_exclusive theory term) ms m member in let id = kept m parts.0 in under_one id.0 m id.1 parts.1)
      ∙ sum_by-agree (λ q. length (filter (is_term table q) (filter (are_exclusive theory term) ms))) (λ q. length (filter (is_term table q) ms)) list
      (λ q member. let t = neighbour_term q member in
      ap length (filter-filter_wider (is_term table q) (are_exclusive theory term) ms
      (λ m same. let term_of : t.0 ≡ m = same_Some t.0 m (sym t.1.0 ∙ term-is_term table q m same) in subst (λ x. are_exclusive theory term x ≡ true) term_of t.1.1)))

  -- ---- links by number

  -- the term of a neighbour, found by its number
  found_by : (q : PropId) (t : Ground) (ms : List Ground) → term_at q.0 table ≡ Some t → filter (is_term table q) ms ≡ filter (term_eq t) ms
  found_by q t ms is = ap (λ o. filter (λ m. option_map_or (λ u. term_eq u m) o false) ms) is

  -- the properties of a table, counted as these mentions make them
  module _ {T : Type 0} (mentions : List Ground) (points : PointTable T) (kept : AreKeptBy theory mentions table) (initials : AreInitialsOf theory table points) (lists : ListsInitials theory) where
    -- a property is live exactly where it stands in the list of live ones
    live-listed : (t : Ground) → list_any (term_eq t) (live_by theory mentions) ≡ is_live_by theory mentions t
    live-listed t =
        test-in_term_order (initial_properties theory ++ mentions) t
        ∙ list_any-append (term_eq t) (initial_properties theory) mentions
        ∙ ap (λ b. b || list_any (term_eq t) mentions) (sym (lists t))

    -- what is live is kept
    kept-live : (t : Ground) → is_live_by theory mentions t ≡ true → (id : ℕ) × (term_at id table ≡ Some t)
    kept-live t live = let id = Some-from_is_some (prop_of t table) (kept.live t live) in (id.0, term_at-prop_of table t id.0 its.one id.1)

    live-kept : AreAllKept table (live_by theory mentions)
    live-kept t member = kept-live t (sym (live-listed t) ∙ test-IsMember (live_by theory mentions) t member)

    mentions-kept : AreAllKept table mentions
    mentions-kept t member = kept-live t (or_right (is_initial theory t) _ (test-IsMember mentions t member))

    -- what the table counts of a term
    count-kept : (id : ℕ) (t : Ground) → term_at id table ≡ Some t → count_at id table ≡ length (filter (term_eq t) mentions) + held_mention theory t
    count-kept id t is = ap (λ o. unwrap_or o 0) (kept.counts id t is)

    told-kept : (id : ℕ) (t : Ground) → term_at id table ≡ Some t → told_at id table points ≡ length (filter (term_eq t) mentions)
    told-kept id t is =
        ap₂ (λ a b. a - cond b 1 0) (count-kept id t is) (initials.initial id t is) ∙ less _ (cond (is_initial theory t) 1 0)
      where
        less : (a b : ℕ) → (a + b) - b ≡ a
        less a b = omega arith

    -- it counts some exactly where the term is live
    counted-live : (id : ℕ) (t : Ground) → term_at id table ≡ Some t → nat_lt 0 (count_at id table) ≡ list_any (term_eq t) (live_by theory mentions)
    counted-live id t is =
        ap (nat_lt 0) (count-kept id t is)
        ∙ either (length (filter (term_eq t) mentions)) (is_initial theory t)
        ∙ ap (λ b. is_initial theory t || b) (nat_lt-filter (term_eq t) mentions)
        ∙ sym (live-listed t)
      where
        either : (a : ℕ) (b : Bool) → nat_lt 0 (a + cond b 1 0) ≡ (b || nat_lt 0 a)
        either a true = grind arith
        either a false = grind arith

    -- so many live ones stand under a neighbour
    live-under : (q : PropId) → IsMember list q → length (filter (is_term table q) (live_by theory mentions)) ≡ cond (nat_lt 0 (count_at q.0 table)) 1 0
    live-under q member =
        let t = neighbour_term q member in
        ap length (found_by q t.0 (live_by theory mentions) t.1.0)
        ∙ once t.0 (list_any (term_eq t.0) (live_by theory mentions)) refl
        ∙ ap (λ b. cond b 1 0) (sym (counted-live q.0 t.0 t.1.0))
      where
        once : (t : Ground) (b : Bool) → list_any (term_eq t) (live_by theory mentions) ≡ b → length (filter (term_eq t) (live_by theory mentions)) ≡ cond b 1 0
        once t true there = length-filter_once term_eq term_eq-Decides (live_by theory mentions) t (IsDistinct-in_term_order (initial_properties theory ++ mentions)) there
        once t false absent = ap length (filter-none (term_eq t) (live_by theory mentions) absent)

    -- and so many mentions
    mentions-under : (q : PropId) → IsMember list q → length (filter (is_term table q) mentions) ≡ told_at q.0 table points
    mentions-under q member = let t = neighbour_term q member in ap length (found_by q t.0 mentions t.1.0) ∙ sym (told-kept q.0 t.0 t.1.0)

    -- one mention more of the term adds what the table says of its neighbours
    pub links-one_more : (fresh : Bool) → fresh ≡ (count_at p.0 table == 0)
        → links_of theory (term ∷ mentions) ≡ links_of theory mentions + sum_by (links_to fresh table points) list
    unfolding links_to
    links-one_more fresh is =
        OneMentionMore-law theory term mentions
        ∙ add (exclusive_count theory term (live_by theory mentions)) (list_any (term_eq term) (live_by theory mentions)) fresh (exclusive_count theory term mentions)
        (is ∙ turned (count_at p.0 table) _ (counted-live p.0 term its.own))
        ∙ ap (λ n. links_of theory mentions + n) (by_neighbours fresh)
      where
        turned : (n : ℕ) (b : Bool) → nat_lt 0 n ≡ b → (n == 0) ≡ not b
        turned n b h = grind arith

        add : (live : ℕ) (there fresh : Bool) (told : ℕ) → fresh ≡ not there
            → links_of theory mentions + live + cond there 0 told ≡ links_of theory mentions + (live + cond fresh told 0)
        add live true fresh told h = grind arith
        add live false fresh told h = grind arith

        live_part : exclusive_count theory term (live_by theory mentions) ≡ sum_by (λ q. cond (nat_lt 0 (count_at q.0 table)) 1 0) list
        live_part =
            exclusive_count-by_neighbours (live_by theory mentions) live-kept
            ∙ sum_by-agree (λ q. length (filter (is_term table q) (live_by theory mentions))) (λ q. cond (nat_lt 0 (count_at q.0 table)) 1 0) list live-under

        told_part : exclusive_count theory term mentions ≡ sum_by (λ q. told_at q.0 table points) list
        told_part =
            exclusive_count-by_neighbours mentions mentions-kept
            ∙ sum_by-agree (λ q. length (filter (is_term table q) mentions)) (λ q. told_at q.0 table points) list mentions-under

        both : (f g : PropId → ℕ) (qs : List PropId) → sum_by f qs + sum_by g qs ≡ sum_by (λ q. f q + g q) qs
        both f g [] = refl
        both f g (q ∷ qs) = omega (arith, both f g qs, sum_by-cons f q qs, sum_by-cons g q qs, sum_by-cons (λ r. f r + g r) q qs)

        drop_zero : (n : ℕ) → n + 0 ≡ n
        drop_zero n = omega arith

        by_neighbours : (fresh : Bool) → exclusive_count theory term (live_by theory mentions) + cond fresh (exclusive_count theory term mentions) 0
            ≡ sum_by (λ q. cond (nat_lt 0 (count_at q.0 table)) 1 0 + cond fresh (told_at q.0 table points) 0) list
        by_neighbours true = ap₂ (λ a b. a + b) live_part told_part ∙ both (λ q. cond (nat_lt 0 (count_at q.0 table)) 1 0) (λ q. told_at q.0 table points) list
        by_neighbours false = drop_zero _ ∙ live_part ∙ sum_by-agree (λ q. cond (nat_lt 0 (count_at q.0 table)) 1 0) (λ q. cond (nat_lt 0 (count_at q.0 table)) 1 0 + 0) list (λ q member. sym (drop_zero _))
