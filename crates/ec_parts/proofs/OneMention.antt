-- One mention more or less: what becomes of the tables.
use Rattle.std.proofs.Common.{◌≡◌, ℕ, ◌+◌, Bool, true, false, cond, ◌||◌, List, [], ◌∷◌, get_or, length, filter, Option, Some, None, is_some, IsTrue, IsSome, refl, sym, ap, subst, ◌∙◌, ◌⊎◌, inl, inr, ⊎_elim, arith, suc, zero-add}
use Rattle.std.specs.Prelude.{◌==◌, option_map, unwrap_or, find}
use Rattle.std.specs.List.{sum_by, All}
use Rattle.std.specs.List.Sorted.{IsPermutation}
use Rattle.std.proofs.lemmas.Bool.{cases_Bool, false≢true, false_from_ne_true, eqb-true, eq-eqb}
use Rattle.std.proofs.lemmas.Option.{same_Some}
use Rattle.std.proofs.lemmas.List.Elements.{All-map}
use Rattle.std.proofs.lemmas.List.Sorted.{sum_by-IsPermutation, list_any-IsPermutation, length_permutation}
use Rattle.std.proofs.lemmas.List.Sums.{sum_by-cons}
use Rattle.std.proofs.Math.Numerals.{suc-eq-add-one}
use Rattle.ec_terms.specs.declared.ids.PropId.{PropId}
use Rattle.ec_terms.specs.declared.ground.Ground.{Ground}
use Rattle.ec_terms.specs.declared.theory.Theory.{Theory}
use Rattle.ec_terms.specs.Term.{term_eq}
use Rattle.ec_terms.specs.Domain.{is_initial}
use Rattle.ec_terms.proofs.OrderLemmas.{term_eq-Decides}
use Rattle.ec_lists.proofs.Options.{is_some-option_map, None-from_is_some}
use Rattle.ec_lists.proofs.Finds.{is_some-find}
use Rattle.ec_changes.specs.LiveLaws.{ListsInitials}
use Rattle.ec_changes.specs.LinkLaws.{links_of}
use Rattle.ec_changes.proofs.LinkSteps.{LinksInAnyOrder-law}
use Rattle.ec_store.specs.Table.{KeptProp, prop_at, prop_of, term_at, mentions_at, with_mentions, mentioned}
use Rattle.ec_store.proofs.PropLemmas.{in_order-with_mentions, prop_at-with_mentions, mentioned-id}
use Rattle.ec_numbered.specs.PropSet.{are_ascending}
use Rattle.ec_exclusive.specs.Added.{added_props}
use Rattle.ec_exclusive.specs.Neighbours.{Neighbourhoods, AreNeighbours, exclusive_at}
use Rattle.ec_exclusive.proofs.SameTerms.{read_terms_alone}
use Rattle.ec_points.specs.Table.{PointTable}
use Rattle.ec_parts.specs.declared.tally.Tally.{Tally}
use Rattle.ec_parts.specs.Tables.{held_mention, AreAllAdded}
use Rattle.ec_parts.specs.Caches.{AreInitialsOf}
use Rattle.ec_parts.specs.Mentions.{is_live_by, AreKeptBy, AreTablesBy, count_at, links_to}
use Rattle.ec_parts.proofs.LinksByNumber.{IsOneToOne, same_number, AreItsNeighbours, links-one_more, kept_with}
use Rattle.ec_axioms.proofs.Members.{find-Some, member-list_any}

-- ---- the order of mentions

-- as many members pass a test in any order
length-filter-sum : {X : Type 0} (p : X → Bool) (xs : List X) → length (filter p xs) ≡ sum_by (λ x. cond (p x) 1 0) xs
length-filter-sum p [] = refl
length-filter-sum p (x ∷ xs) = let rest = length-filter-sum p xs in let one = sum_by-cons (λ y. cond (p y) 1 0) x xs in grind arith

length-filter-IsPermutation : {X : Type 0} (p : X → Bool) (xs ys : List X) → IsPermutation xs ys → length (filter p ys) ≡ length (filter p xs)
length-filter-IsPermutation p xs ys moved = length-filter-sum p ys ∙ sum_by-IsPermutation (λ x. cond (p x) 1 0) xs ys moved ∙ sym (length-filter-sum p xs)

-- the tables of some mentions are those of the mentions in any order
pub AreTablesBy-IsPermutation : {T : Type 0} {theory : Theory} {table : List KeptProp} {around : Neighbourhoods} {points : PointTable T} {tally : Tally} (mentions all : List Ground)
    → IsPermutation mentions all → AreTablesBy theory mentions table around points tally → AreTablesBy theory all table around points tally
AreTablesBy-IsPermutation {theory = theory} mentions all moved tables = record {
  kept = record {
    live = λ q live. tables.kept.live q (ap (λ b. is_initial theory q || b) (list_any-IsPermutation (term_eq q) mentions all moved) ∙ live);
    counts = λ id q is. tables.kept.counts id q is ∙ ap (λ n. Some (n + held_mention theory q)) (sym (length-filter-IsPermutation (term_eq q) mentions all moved));
  };
  added = tables.added;
  initials = tables.initials;
  tally_by = record {
    mentions_by = tables.tally_by.mentions_by ∙ sym (length_permutation mentions all moved);
    links_by = tables.tally_by.links_by ∙ sym (LinksInAnyOrder-law theory mentions all moved).1;
  };
}

-- ---- a table with other counts

-- each term stands under its number, whatever is counted
pub IsOneToOne-with_mentions : (table : List KeptProp) (p count : ℕ) → IsOneToOne table → IsOneToOne (with_mentions p count table)
IsOneToOne-with_mentions table p count one = record {
  in_order = in_order-with_mentions p count table ∙ one.in_order;
  numbers = All-map (λ (kept : KeptProp). prop_at kept.id (with_mentions p count table) ≡ Some kept) (mentioned p count) table (All-each table one.numbers);
}
  where
    All-each : (ks : List KeptProp) → All (λ (kept : KeptProp). prop_at kept.id table ≡ Some kept) ks
        → All (λ kept. prop_at (mentioned p count kept).id (with_mentions p count table) ≡ Some (mentioned p count kept)) ks
    All-each ks all k d below =
        let kept = get_or ks k d in
        ap (λ id. prop_at id (with_mentions p count table)) (mentioned-id p count kept)
        ∙ prop_at-with_mentions p count kept.id table
        ∙ ap (option_map (mentioned p count)) (all k d below)

-- a term that is kept under a number has a number
pub prop_of-there : (table : List KeptProp) (id : ℕ) (t : Ground) → term_at id table ≡ Some t → IsSome (prop_of t table)
prop_of-there table id t is =
    let k = kept_with (prop_at id table) t is in
    let member = (find-Some (λ (kept : KeptProp). kept.id == id) table k.0 k.1.0).0 in
    let same : term_eq k.0.term t ≡ true = (term_eq-Decides k.0.term t).1 k.1.1 in
    is_some-option_map (λ (kept : KeptProp). kept.id) (find (λ (kept : KeptProp). term_eq kept.term t) table)
    ∙ is_some-find (λ (kept : KeptProp). term_eq kept.term t) table
    ∙ member-list_any (λ (kept : KeptProp). term_eq kept.term t) table k.0 member same

module _ (theory : Theory) (before after : List KeptProp) (same : (id : ℕ) → term_at id after ≡ term_at id before) where
  -- the same numbers are kept
  same_kept : (id : ℕ) → is_some (prop_at id after) ≡ is_some (prop_at id before)
  same_kept id =
      sym (is_some-option_map (λ (kept : KeptProp). kept.term) (prop_at id after)) ∙ ap is_some (same id) ∙ is_some-option_map (λ (kept : KeptProp). kept.term) (prop_at id before)

  -- so the neighbours stay
  pub AreAllAdded-same : (around : Neighbourhoods) → AreAllAdded theory before around → AreAllAdded theory after around
  AreAllAdded-same around added = record {
    neighbours = read_terms_alone theory before after around (λ k d below. same (get_or around.rows k d).prop.0) added.neighbours;
    added = λ q. added.added q ∙ sym (same_kept q.0);
  }

  -- and what is initial
  pub AreInitialsOf-same : {T : Type 0} (points : PointTable T) → AreInitialsOf theory before points → AreInitialsOf theory after points
  AreInitialsOf-same points initials = record {
    initial = λ id q is. initials.initial id q (sym (same id) ∙ is);
    none = λ id none. initials.none id (None-from_is_some (prop_at id before) (sym (same_kept id) ∙ ap is_some none));
  }

-- ---- one property counted once more

-- the numbers of a list are those of the neighbours of a property, in order
pub record AreListed (around : Neighbourhoods) (p : PropId) (list : List PropId) : Type 0 where
  pub ascend : are_ascending list ≡ true
  pub exclusive : (theory : Theory) (table : List KeptProp) → AreNeighbours theory table around → list ≡ filter (exclusive_at theory table p) (added_props around.rows)

-- so they are the neighbours of its term
its_neighbours : (theory : Theory) (table : List KeptProp) (around : Neighbourhoods) (p : PropId) (term : Ground) (list : List PropId)
    → IsOneToOne table → AreAllAdded theory table around → AreListed around p list → term_at p.0 table ≡ Some term → AreItsNeighbours theory table around p term list
its_neighbours theory table around p term list one added listed is = record {
  one = one;
  own = is;
  added = added.added;
  ascend = listed.ascend;
  exclusive = listed.exclusive theory table added.neighbours;
}

-- one member more under a test
count_more : (t term : Ground) (mentions : List Ground) → length (filter (term_eq t) (term ∷ mentions)) ≡ cond (term_eq t term) 1 0 + length (filter (term_eq t) mentions)
count_more t term mentions = ⊎_elim (λ e. grind arith) (λ e. grind arith) (cases_Bool (term_eq t term))

-- the count of one member more, with the held mention
raised : (a h : ℕ) (b : Bool) → b ≡ true → (a + h) + 1 ≡ (cond b 1 0 + a) + h
raised a h b is = grind arith

-- the count of one member less
one_less : (m n : ℕ) → m + 1 ≡ n + 1 → m ≡ n
one_less m n e = omega arith

lowered : (o : Option ℕ) (n : ℕ) → option_map (λ m. m + 1) o ≡ Some (n + 1) → o ≡ Some n
lowered None n e = absurd (false≢true (ap is_some e))
lowered (Some m) n e = ap Some (one_less m n (ap (λ o. unwrap_or o 0) e))

-- the counts of a table and of the same table with one mention of a property more
pub record IsOneMore (p : PropId) (less more : List KeptProp) : Type 0 where
  pub terms : (id : ℕ) → term_at id more ≡ term_at id less
  pub props : (t : Ground) → prop_of t more ≡ prop_of t less
  pub own : mentions_at p.0 more ≡ option_map (λ n. n + 1) (mentions_at p.0 less)
  pub others : (id : ℕ) → (id ≡ p.0 → ⊥) → mentions_at id more ≡ mentions_at id less

module _ (theory : Theory) (mentions : List Ground) (p : PropId) (term : Ground) (less more : List KeptProp) (one : IsOneToOne less) (next : IsOneMore p less more)
    (own : term_at p.0 less ≡ Some term) where
  -- another term is another one
  other_term : (id : ℕ) (t : Ground) → term_at id less ≡ Some t → (id ≡ p.0 → ⊥) → term_eq t term ≡ false
  other_term id t is other = false_from_ne_true (term_eq t term) (λ same. other (same_number less id p.0 term one (is ∙ ap Some ((term_eq-Decides t term).0 same)) own))

  -- the same term is the same one
  own_term : (id : ℕ) (t : Ground) → term_at id less ≡ Some t → id ≡ p.0 → t ≡ term
  own_term id t is same = same_Some t term (sym is ∙ ap (λ n. term_at n less) same ∙ own)

  -- what is kept with one mention more
  pub AreKeptBy-more : AreKeptBy theory mentions less → AreKeptBy theory (term ∷ mentions) more
  AreKeptBy-more kept = record {
    live = λ q live. subst IsSome (sym (next.props q)) (live_kept q (cases_Bool (term_eq q term)) live);
    counts = λ id t is. counts id t (sym (next.terms id) ∙ is) (cases_Bool (id == p.0));
  }
    where
      live_kept : (q : Ground) → (term_eq q term ≡ true) ⊎ (term_eq q term ≡ false) → IsTrue (is_live_by theory (term ∷ mentions) q) → IsSome (prop_of q less)
      live_kept q (inl same) live = subst (λ u. IsSome (prop_of u less)) (sym ((term_eq-Decides q term).0 same)) (prop_of-there less p.0 term own)
      live_kept q (inr other) live = kept.live q (grind arith)

      counts : (id : ℕ) (t : Ground) → term_at id less ≡ Some t → ((id == p.0) ≡ true) ⊎ ((id == p.0) ≡ false)
          → mentions_at id more ≡ Some (length (filter (term_eq t) (term ∷ mentions)) + held_mention theory t)
      counts id t is (inl same) =
          let number = eqb-true id p.0 same in
          let term_is = own_term id t is number in
          let test : term_eq t term ≡ true = (term_eq-Decides t term).1 term_is in
          let old : mentions_at p.0 less ≡ Some (length (filter (term_eq t) mentions) + held_mention theory t) = ap (λ n. mentions_at n less) (sym number) ∙ kept.counts id t is in
          ap (λ n. mentions_at n more) number ∙ next.own ∙ ap (option_map (λ n. n + 1)) old
          ∙ ap Some (raised (length (filter (term_eq t) mentions)) (held_mention theory t) (term_eq t term) test ∙ ap (λ n. n + held_mention theory t) (sym (count_more t term mentions)))
      counts id t is (inr other) =
          let apart : id ≡ p.0 → ⊥ = λ number. false≢true (sym other ∙ eq-eqb id p.0 number) in
          next.others id apart ∙ kept.counts id t is
          ∙ ap (λ n. Some (n + held_mention theory t)) (sym (count_more t term mentions ∙ ap (λ b. cond b 1 0 + length (filter (term_eq t) mentions)) (other_term id t is apart) ∙ zero-add _))

  -- what is kept with one mention less
  pub AreKeptBy-less : AreKeptBy theory (term ∷ mentions) more → AreKeptBy theory mentions less
  AreKeptBy-less kept = record {
    live = λ q live. subst IsSome (next.props q) (kept.live q (wider (is_initial theory q) (term_eq q term) _ live));
    counts = λ id t is. counts id t is (cases_Bool (id == p.0));
  }
    where
      wider : (a b c : Bool) → (a || c) ≡ true → (a || (b || c)) ≡ true
      wider a b c h = grind arith

      counts : (id : ℕ) (t : Ground) → term_at id less ≡ Some t → ((id == p.0) ≡ true) ⊎ ((id == p.0) ≡ false)
          → mentions_at id less ≡ Some (length (filter (term_eq t) mentions) + held_mention theory t)
      counts id t is (inl same) =
          let number = eqb-true id p.0 same in
          let term_is = own_term id t is number in
          let test : term_eq t term ≡ true = (term_eq-Decides t term).1 term_is in
          let now = ap (λ n. mentions_at n more) (sym number) ∙ kept.counts id t (next.terms id ∙ is) in
          ap (λ n. mentions_at n less) number
          ∙ lowered (mentions_at p.0 less) _ (sym next.own ∙ now ∙ ap Some (ap (λ n. n + held_mention theory t) (count_more t term mentions) ∙ sym (raised (length (filter (term_eq t) mentions)) (held_mention theory t) (term_eq t term) test)))
      counts id t is (inr other) =
          let apart : id ≡ p.0 → ⊥ = λ number. false≢true (sym other ∙ eq-eqb id p.0 number) in
          sym (next.others id apart) ∙ kept.counts id t (next.terms id ∙ is)
          ∙ ap (λ n. Some (n + held_mention theory t)) (count_more t term mentions ∙ ap (λ b. cond b 1 0 + length (filter (term_eq t) mentions)) (other_term id t is apart) ∙ zero-add _)

  module _ {T : Type 0} (around : Neighbourhoods) (points : PointTable T) (list : List PropId) (old new : Tally) (lists : ListsInitials theory) (listed : AreListed around p list) where
    -- the links of one mention more, as the table counts them
    pub links_of-more : AreKeptBy theory mentions less → AreAllAdded theory less around → AreInitialsOf theory less points
        → links_of theory (term ∷ mentions) ≡ links_of theory mentions + sum_by (links_to (count_at p.0 less == 0) less points) list
    links_of-more kept added initials =
        links-one_more theory less around p term list (its_neighbours theory less around p term list one added listed own) mentions points kept initials lists (count_at p.0 less == 0) refl

    -- the tables of one mention more
    pub AreTablesBy-more : AreTablesBy theory mentions less around points old → new.mentions ≡ old.mentions + 1
        → new.links ≡ old.links + sum_by (links_to (count_at p.0 less == 0) less points) list → AreTablesBy theory (term ∷ mentions) more around points new
    AreTablesBy-more tables counted linked = record {
      kept = AreKeptBy-more tables.kept;
      added = AreAllAdded-same theory less more next.terms around tables.added;
      initials = AreInitialsOf-same theory less more next.terms points tables.initials;
      tally_by = record {
        mentions_by = counted ∙ ap (λ n. n + 1) tables.tally_by.mentions_by ∙ sym (suc-eq-add-one (length mentions));
        links_by = linked ∙ ap (λ n. n + sum_by (links_to (count_at p.0 less == 0) less points) list) tables.tally_by.links_by ∙ sym (links_of-more tables.kept tables.added tables.initials);
      };
    }

    -- the tables of one mention less
    pub AreTablesBy-less : AreTablesBy theory (term ∷ mentions) more around points old → new.mentions + 1 ≡ old.mentions
        → new.links + sum_by (links_to (count_at p.0 less == 0) less points) list ≡ old.links → AreTablesBy theory mentions less around points new
    AreTablesBy-less tables counted linked =
        let kept = AreKeptBy-less tables.kept in
        let added = AreAllAdded-same theory more less (λ id. sym (next.terms id)) around tables.added in
        let initials = AreInitialsOf-same theory more less (λ id. sym (next.terms id)) points tables.initials in
        record {
          kept = kept;
          added = added;
          initials = initials;
          tally_by = record {
            mentions_by = shorter new.mentions (length mentions) (counted ∙ tables.tally_by.mentions_by);
            links_by = fewer new.links (links_of theory mentions) _ (linked ∙ tables.tally_by.links_by ∙ links_of-more kept added initials);
          };
        }
      where
        shorter : (m n : ℕ) → m + 1 ≡ suc n → m ≡ n
        shorter m n e = omega arith

        fewer : (a b c : ℕ) → a + c ≡ b + c → a ≡ b
        fewer a b c e = omega arith
