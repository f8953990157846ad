-- Several mentions more or less, one after the other.
use Rattle.std.proofs.Common.{◌≡◌, ℕ, ◌+◌, ◌-◌, ◌*◌, ◌^◌, ◌<◌, ◌≤◌, Bool, true, cond, List, [], ◌∷◌, ◌++◌, get_or, length, filter, map, take, drop, Option, Some, None, is_some, IsSome, IfSome, refl, sym, ap, subst, ◌∙◌, arith, suc, append_assoc, append-nil, length-append}
use Rattle.std.specs.Prelude.{◌==◌, option_map, unwrap_or, flat_map}
use Rattle.std.specs.List.{sum_by, All}
use Rattle.std.specs.List.Sorted.{IsPermutation}
use Rattle.std.proofs.lemmas.Bool.{false≢true}
use Rattle.std.proofs.lemmas.List.{length-map, map-append, take-append-drop, take_more}
use Rattle.std.proofs.lemmas.Grind.{flat_map-append}
use Rattle.std.proofs.Math.Seq.{drop-cons}
use Rattle.std.proofs.lemmas.List.Elements.{filter_map-append}
use Rattle.std.proofs.lemmas.List.Sorted.{IsPermutation-refl, IsPermutation-trans}
use Rattle.std.proofs.lemmas.List.Sums.{sum_by-le}
use Rattle.std.proofs.Math.Nat.{mul-le-mul}
use Rattle.ec_terms.specs.declared.ids.PropId.{PropId}
use Rattle.ec_terms.specs.declared.ground.Ground.{Ground}
use Rattle.ec_terms.specs.declared.theory.Theory.{Theory}
use Rattle.ec_terms.specs.Term.{term_eq}
use Rattle.ec_terms.specs.Domain.{are_exclusive}
use Rattle.ec_lists.proofs.Filters.{length-filter_le}
use Rattle.ec_lists.proofs.Options.{Some-from_is_some, is_some-option_map, IfSome-from}
use Rattle.ec_check.specs.declared.limits.TheConstants.{MOST_INITIALS}
use Rattle.ec_axioms.specs.Links.{initial_properties, with_property, in_term_order}
use Rattle.ec_changes.specs.LinkLaws.{live_by, exclusive_count, links_of}
use Rattle.ec_changes.proofs.EventMentions.{swapped_front}
use Rattle.ec_store.specs.Table.{KeptProp, prop_at, term_at, mentions_at, with_mentions}
use Rattle.ec_store.proofs.PropLemmas.{prop_of-with_mentions, term_at-with_mentions, mentions_at-with_mentions, prop_at-with_other_mentions}
use Rattle.ec_context.specs.declared.entry.Entry.{Entry}
use Rattle.ec_context.specs.Entries.{IsKeptEntry}
use Rattle.ec_exclusive.specs.Added.{is_added}
use Rattle.ec_exclusive.specs.Neighbours.{Neighbourhoods, AreNeighbours}
use Rattle.ec_terms.proofs.DomainLemmas.{term_eq-refl}
use Rattle.ec_points.specs.Table.{PointTable}
use Rattle.ec_parts.specs.declared.tally.Tally.{Tally}
use Rattle.ec_parts.specs.Tables.{held_mention}
use Rattle.std.proofs.lemmas.List.Folds.{length-flat_map-take}
use Rattle.std.proofs.Math.Numerals.{suc-eq-add-one}
use Rattle.ec_parts.specs.Mentions.{AreTablesBy, AreSomeTables, HasMentioned, HasReleased, entry_props, list_props, terms_of, count_at, links_to}
use Rattle.ec_parts.proofs.LinksByNumber.{IsOneToOne}
use Rattle.ec_parts.proofs.OneMention.{AreTablesBy-IsPermutation, IsOneToOne-with_mentions, AreListed, IsOneMore, links_of-more, AreTablesBy-more, AreTablesBy-less, AreKeptBy-less, AreAllAdded-same, AreInitialsOf-same}

-- ---- how many links there are at most

length-with_property : (p : Ground) (properties : List Ground) → length (with_property p properties) ≤ suc (length properties)
length-with_property p [] = omega arith
length-with_property p (q ∷ properties) = let rest = length-with_property p properties in grind arith

length-in_term_order : (properties : List Ground) → length (in_term_order properties) ≤ length properties
length-in_term_order [] = omega arith
length-in_term_order (p ∷ properties) = let rest = length-in_term_order properties in let one = length-with_property p (in_term_order properties) in omega arith

-- where mentions and initial properties are few, so are links
links_few : (theory : Theory) (mentions : List Ground) → length theory.initials ≤ MOST_INITIALS → length mentions ≤ 2 ^ 21 → links_of theory mentions < 2 ^ 62
unfolding links_of
links_few theory mentions few short =
    let each : All (λ p. exclusive_count theory p (live_by theory mentions) ≤ length theory.initials + length mentions) mentions =
    (λ k d below. count (get_or mentions k d)) in
    let all = sum_by-le (λ p. exclusive_count theory p (live_by theory mentions)) (length theory.initials + length mentions) mentions each in
    let wide : length theory.initials + length mentions ≤ 2 ^ 22 = omega arith in
    let product : length mentions * (length theory.initials + length mentions) ≤ 2 ^ 21 * 2 ^ 22 = mul-le-mul short wide in
    omega (arith, all, product)
  where
    long : length (initial_properties theory ++ mentions) ≡ length theory.initials + length mentions
    long = length-append (initial_properties theory) mentions ∙ ap (λ n. n + length mentions) (simp length-map)

    count : (p : Ground) → exclusive_count theory p (live_by theory mentions) ≤ length theory.initials + length mentions
    count p =
        let narrow = length-filter_le (are_exclusive theory p) (live_by theory mentions) in
        let short = length-in_term_order (initial_properties theory ++ mentions) in omega (arith, narrow, short, long)

-- ---- the terms under numbers

terms_of-one : (table : List KeptProp) (p : PropId) (term : Ground) → term_at p.0 table ≡ Some term → terms_of table (p ∷ []) ≡ term ∷ []
terms_of-one table p term is = rw is refl

terms_of-same : (before after : List KeptProp) → ((id : ℕ) → term_at id after ≡ term_at id before) → (props : List PropId) → terms_of after props ≡ terms_of before props
terms_of-same before after same [] = refl
terms_of-same before after same (p ∷ props) = let rest = terms_of-same before after same props in rw (same p.0) (rw rest refl)

-- the terms of numbers in two parts
terms_of-cut : (first second : List KeptProp) → ((id : ℕ) → term_at id second ≡ term_at id first) → (ps qs all : List PropId) → all ≡ ps ++ qs → (mentions : List Ground)
    → terms_of first all ++ mentions ≡ terms_of first ps ++ (terms_of second qs ++ mentions)
terms_of-cut first second same ps qs all joined mentions =
    ap (λ us. terms_of first us ++ mentions) joined
    ∙ ap (λ ts. ts ++ mentions) (filter_map-append (λ (p : PropId). term_at p.0 first) ps qs)
    ∙ append_assoc (terms_of first ps) (terms_of first qs) mentions
    ∙ ap (λ ts. terms_of first ps ++ (ts ++ mentions)) (sym (terms_of-same first second same qs))

-- what is kept stays kept
pub kept-same : (before after : List KeptProp) → ((id : ℕ) → term_at id after ≡ term_at id before) → (id : ℕ) → IsSome (prop_at id before) → IsSome (prop_at id after)
kept-same before after same id there =
    sym (is_some-option_map (λ (kept : KeptProp). kept.term) (prop_at id after)) ∙ ap is_some (same id) ∙ is_some-option_map (λ (kept : KeptProp). kept.term) (prop_at id before) ∙ there

-- an entry whose properties are kept, too
pub IsKeptEntry-same : (before after : List KeptProp) → ((id : ℕ) → term_at id after ≡ term_at id before) → (entry : Entry) → IsKeptEntry before entry → IsKeptEntry after entry
IsKeptEntry-same before after same entry kept = record {
  head = kept-same before after same entry.head.0 kept.head;
  literals = λ k d below. kept-same before after same (get_or entry.literals k d).prop.0 (kept.literals k d below);
}

-- ---- one more

-- a table with one mention more
one_more : (table : List KeptProp) (p : PropId) (count : ℕ) → mentions_at p.0 table ≡ Some count → IsOneMore p table (with_mentions p.0 (count + 1) table)
one_more table p count is = record {
  terms = λ id. term_at-with_mentions p.0 (count + 1) id table;
  props = λ t. prop_of-with_mentions p.0 (count + 1) t table;
  own = mentions_at-with_mentions p.0 (count + 1) table kept ∙ sym (ap (option_map (λ n. n + 1)) is);
  others = λ id other. ap (option_map (λ (k : KeptProp). k.mentions)) (prop_at-with_other_mentions p.0 (count + 1) id table other);
}
  where
    kept : is_some (prop_at p.0 table) ≡ true
    kept = sym (is_some-option_map (λ (k : KeptProp). k.mentions) (prop_at p.0 table)) ∙ ap is_some is

-- and with one mention less
one_less_of : (table : List KeptProp) (p : PropId) (count : ℕ) → mentions_at p.0 table ≡ Some count → 1 ≤ count → IsOneMore p (with_mentions p.0 (count - 1) table) table
one_less_of table p count is some = record {
  terms = λ id. sym (term_at-with_mentions p.0 (count - 1) id table);
  props = λ t. sym (prop_of-with_mentions p.0 (count - 1) t table);
  own = is ∙ ap Some (back count some) ∙ sym (ap (option_map (λ n. n + 1)) (mentions_at-with_mentions p.0 (count - 1) table kept));
  others = λ id other. sym (ap (option_map (λ (k : KeptProp). k.mentions)) (prop_at-with_other_mentions p.0 (count - 1) id table other));
}
  where
    kept : is_some (prop_at p.0 table) ≡ true
    kept = sym (is_some-option_map (λ (k : KeptProp). k.mentions) (prop_at p.0 table)) ∙ ap is_some is

    back : (n : ℕ) → 1 ≤ n → n ≡ (n - 1) + 1
    back n some = omega arith

-- what is kept under a number
pub kept_term : (table : List KeptProp) (p : PropId) → IsSome (prop_at p.0 table) → (term : Ground) × (term_at p.0 table ≡ Some term)
kept_term table p there = Some-from_is_some (term_at p.0 table) (is_some-option_map (λ (k : KeptProp). k.term) (prop_at p.0 table) ∙ there)

kept_count : (table : List KeptProp) (p : PropId) → IsSome (prop_at p.0 table) → mentions_at p.0 table ≡ Some (count_at p.0 table)
kept_count table p there = filled_in (mentions_at p.0 table) (is_some-option_map (λ (k : KeptProp). k.mentions) (prop_at p.0 table) ∙ there)
  where
    filled_in : (o : Option ℕ) → is_some o ≡ true → o ≡ Some (unwrap_or o 0)
    filled_in None there = absurd (false≢true there)
    filled_in (Some n) there = refl

module _ {T : Type 0} (table : List KeptProp) (around : Neighbourhoods) (points : PointTable T) (old : Tally) (p : PropId) (list : List PropId)
    (one : IsOneToOne table) (there : IsSome (prop_at p.0 table)) (listed : AreListed around p list) (some : AreSomeTables [] table around points old) (few : old.mentions < 2 ^ 21) where
  -- the property is added
  pub is_added-some : is_added p around.rows ≡ true
  is_added-some = some.tables.added.added p ∙ there

  -- its count is small
  pub count-few : IfSome (mentions_at p.0 table) (λ count. count + 1 ≤ 2 ^ 31)
  count-few =
      let term = kept_term table p there in
      let count = some.tables.kept.counts p.0 term.0 term.1 in
      let narrow = length-filter_le (term_eq term.0) some.mentions in
      let held = at_most_one (held_mention some.theory term.0) in
      let counted = some.tables.tally_by.mentions_by in
      IfSome-from (mentions_at p.0 table) (λ count. count + 1 ≤ 2 ^ 31) (length (filter (term_eq term.0) some.mentions) + held_mention some.theory term.0) count (omega (arith, narrow, counted, small some.theory term.0))
    where
      at_most_one : (n : ℕ) → n ≤ n
      at_most_one n = omega arith

      small : (theory : Theory) (t : Ground) → held_mention theory t ≤ 1
      small theory t = grind arith

  -- the links stay few
  links_few_here : old.links + sum_by (links_to (count_at p.0 table == 0) table points) list < 2 ^ 62
  links_few_here =
      let term = kept_term table p there in
      let tables = some.tables in
      let count = count_at p.0 table in
      let more = with_mentions p.0 (count + 1) table in
      let next = one_more table p count (kept_count table p there) in
      let equation = links_of-more some.theory some.mentions p term.0 table more one next term.1 around points list old old some.lists listed tables.kept tables.added tables.initials in
      let linked = tables.tally_by.links_by in
      let counted = tables.tally_by.mentions_by in
      let bound = links_few some.theory (term.0 ∷ some.mentions) some.few (omega (arith, counted)) in
      omega (arith, equation, linked, bound)

  pub links-few : (count : ℕ) → mentions_at p.0 table ≡ Some count → old.links + sum_by (links_to (count == 0) table points) list < 2 ^ 62
  links-few told is = subst (λ n. old.links + sum_by (links_to (n == 0) table points) list < 2 ^ 62) (ap (λ o. unwrap_or o 0) is) links_few_here

  -- so the property is mentioned once more
  pub HasMentioned-one : (after : List KeptProp) (new : Tally) (count : ℕ) → mentions_at p.0 table ≡ Some count
      → IfSome (mentions_at p.0 table) (λ n. after ≡ with_mentions p.0 (n + 1) table)
      → new.mentions ≡ old.mentions + 1 → new.links ≡ old.links + sum_by (links_to (count == 0) table points) list
      → HasMentioned around points (p ∷ []) table old after new
  HasMentioned-one after new count told is counted more_links = record {
    terms = next.terms;
    more = counted;
    tables = λ theory mentions all lists moved tables.
        AreTablesBy-IsPermutation (term.0 ∷ mentions) all (subst (λ ts. IsPermutation (ts ++ mentions) all) (terms_of-one table p term.0 term.1) moved)
        (AreTablesBy-more theory mentions p term.0 table after one next term.1 around points list old new lists listed tables counted linked);
  }
    where
      linked : new.links ≡ old.links + sum_by (links_to (count_at p.0 table == 0) table points) list
      linked = more_links ∙ ap (λ n. old.links + sum_by (links_to (n == 0) table points) list) (sym (ap (λ o. unwrap_or o 0) told))

      term : (term : Ground) × (term_at p.0 table ≡ Some term)
      term = kept_term table p there

      now : after ≡ with_mentions p.0 (count_at p.0 table + 1) table
      now = subst (λ o. IfSome o (λ count. after ≡ with_mentions p.0 (count + 1) table)) (kept_count table p there) is

      next : IsOneMore p table after
      next = subst (IsOneMore p table) (sym now) (one_more table p (count_at p.0 table) (kept_count table p there))

-- ---- lists in parts

-- a list, cut before and behind a place
pub map-cut : {X Y : Type 0} (f : X → Y) (xs : List X) (i : ℕ) (d : X) → i < length xs → map f xs ≡ map f (take i xs) ++ (f (get_or xs i d) ∷ map f (drop (i + 1) xs))
map-cut f xs i d below =
    ap (map f) (sym (take-append-drop i xs) ∙ ap (λ rest. take i xs ++ rest) (drop-cons xs i d below ∙ ap (λ n. get_or xs i d ∷ drop n xs) (suc-eq-add-one i)))
    ∙ map-append f (take i xs) (get_or xs i d ∷ drop (i + 1) xs)

-- one more of it
pub map-take_more : {X Y : Type 0} (f : X → Y) (xs : List X) (i : ℕ) (d : X) → i < length xs → map f (take (i + 1) xs) ≡ map f (take i xs) ++ (f (get_or xs i d) ∷ [])
map-take_more f xs i d below = ap (map f) (take_more xs i d below) ∙ map-append f (take i xs) (get_or xs i d ∷ [])

-- so with lists joined
pub flat_map-cut : {X Y : Type 0} (f : X → List Y) (xs : List X) (i : ℕ) (d : X) → i < length xs
    → flat_map f xs ≡ flat_map f (take i xs) ++ (f (get_or xs i d) ++ flat_map f (drop (i + 1) xs))
flat_map-cut f xs i d below =
    ap (flat_map f) (sym (take-append-drop i xs) ∙ ap (λ rest. take i xs ++ rest) (drop-cons xs i d below ∙ ap (λ n. get_or xs i d ∷ drop n xs) (suc-eq-add-one i)))
    ∙ flat_map-append f (take i xs) (get_or xs i d ∷ drop (i + 1) xs)

pub flat_map-take_more : {X Y : Type 0} (f : X → List Y) (xs : List X) (i : ℕ) (d : X) → i < length xs → flat_map f (take (i + 1) xs) ≡ flat_map f (take i xs) ++ f (get_or xs i d)
flat_map-take_more f xs i d below =
    ap (flat_map f) (take_more xs i d below) ∙ flat_map-append f (take i xs) (get_or xs i d ∷ []) ∙ ap (λ ys. flat_map f (take i xs) ++ ys) (append-nil (f (get_or xs i d)))

-- ---- one after the other

module _ {T : Type 0} {around : Neighbourhoods} {points : PointTable T} where
  pub HasMentioned-none : (table : List KeptProp) (tally : Tally) (props : List PropId) → props ≡ [] → HasMentioned around points props table tally table tally
  HasMentioned-none table tally props none = record {
    terms = λ id. refl;
    more = no_more tally.mentions (ap length none);
    tables = λ theory mentions all lists moved tables. AreTablesBy-IsPermutation mentions all (subst (λ ps. IsPermutation (terms_of table ps ++ mentions) all) none moved) tables;
  }
    where
      no_more : (n : ℕ) → length props ≡ 0 → n ≡ n + length props
      no_more n e = omega arith

  pub HasMentioned-then : {first second third : List KeptProp} {one two three : Tally} (ps qs all : List PropId) → all ≡ ps ++ qs
      → HasMentioned around points ps first one second two → HasMentioned around points qs second two third three → HasMentioned around points all first one third three
  HasMentioned-then {first} {second} {third} {one} {two} {three} ps qs all joined left right = record {
    terms = λ id. right.terms id ∙ left.terms id;
    more = omega (arith, left.more, right.more, ap length joined, length-append ps qs);
    tables = λ theory mentions everything lists moved tables.
        right.tables theory (terms_of first ps ++ mentions) everything lists
        (IsPermutation-trans _ _ everything (swapped_front (terms_of second qs) (terms_of first ps) mentions)
        (subst (λ ts. IsPermutation ts everything) (terms_of-cut first second left.terms ps qs all joined mentions) moved))
        (left.tables theory mentions (terms_of first ps ++ mentions) lists (IsPermutation-refl (terms_of first ps ++ mentions)) tables);
  }

  -- tables stay tables
  pub AreSomeTables-mentioned : {before after : List KeptProp} {old new : Tally} (props : List PropId) → HasMentioned around points props before old after new
      → AreSomeTables [] before around points old → AreSomeTables [] after around points new
  AreSomeTables-mentioned {before} props step some = record {
    theory = some.theory;
    mentions = terms_of before props ++ some.mentions;
    lists = some.lists;
    few = some.few;
    tables = step.tables some.theory some.mentions (terms_of before props ++ some.mentions) some.lists (IsPermutation-refl (terms_of before props ++ some.mentions)) some.tables;
  }

  pub HasReleased-none : (table : List KeptProp) (tally : Tally) (props : List PropId) → props ≡ [] → HasReleased around points props table tally table tally
  HasReleased-none table tally props none = record {
    terms = λ id. refl;
    less = no_less tally.mentions (ap length none);
    tables = λ theory mentions lists tables. subst (λ ps. AreTablesBy theory (terms_of table ps ++ mentions) table around points tally) none tables;
  }
    where
      no_less : (n : ℕ) → length props ≡ 0 → n + length props ≡ n
      no_less n e = omega arith

  pub HasReleased-then : {first second third : List KeptProp} {one two three : Tally} (ps qs all : List PropId) → all ≡ ps ++ qs
      → HasReleased around points ps first one second two → HasReleased around points qs second two third three → HasReleased around points all first one third three
  HasReleased-then {first} {second} {third} {one} {two} {three} ps qs all joined left right = record {
    terms = λ id. right.terms id ∙ left.terms id;
    less = omega (arith, left.less, right.less, ap length joined, length-append ps qs);
    tables = λ theory mentions lists tables.
        right.tables theory mentions lists
        (left.tables theory (terms_of second qs ++ mentions) lists
        (subst (λ ts. AreTablesBy theory ts first around points one) (terms_of-cut first second left.terms ps qs all joined mentions) tables));
  }

  -- tables of mentions with these are tables of mentions with those in front alone
  pub AreSomeTables-front : {table : List KeptProp} {tally : Tally} (ps qs all : List PropId) → all ≡ ps ++ qs → AreSomeTables all table around points tally → AreSomeTables ps table around points tally
  AreSomeTables-front {table} {tally} ps qs all joined some = record {
    theory = some.theory;
    mentions = terms_of table qs ++ some.mentions;
    lists = some.lists;
    few = some.few;
    tables = subst (λ ts. AreTablesBy some.theory ts table around points tally) (terms_of-cut table table (λ id. refl) ps qs all joined some.mentions) some.tables;
  }

  -- those in front are released: the others are left
  pub AreSomeTables-released : {before after : List KeptProp} {old new : Tally} (ps qs all : List PropId) → all ≡ ps ++ qs → HasReleased around points ps before old after new
      → AreSomeTables all before around points old → AreSomeTables qs after around points new
  AreSomeTables-released {before} {after} {old} {new} ps qs all joined step some = record {
    theory = some.theory;
    mentions = some.mentions;
    lists = some.lists;
    few = some.few;
    tables = step.tables some.theory (terms_of after qs ++ some.mentions) some.lists
        (subst (λ ts. AreTablesBy some.theory ts before around points old) (terms_of-cut before after step.terms ps qs all joined some.mentions) some.tables);
  }

-- ---- one less

module _ {T : Type 0} (table : List KeptProp) (around : Neighbourhoods) (points : PointTable T) (old : Tally) (p : PropId) (there : IsSome (prop_at p.0 table))
    (some : AreSomeTables (p ∷ []) table around points old) where
  -- the mentions, with the released one in front
  in_front : (term : Ground) → term_at p.0 table ≡ Some term → AreTablesBy some.theory (term ∷ some.mentions) table around points old
  in_front term is = subst (λ ts. AreTablesBy some.theory (ts ++ some.mentions) table around points old) (terms_of-one table p term is) some.tables

  -- the property is mentioned
  pub count-some : IfSome (mentions_at p.0 table) (λ count. 1 ≤ count)
  count-some =
      let term = kept_term table p there in
      let count = (in_front term.0 term.1).kept.counts p.0 term.0 term.1 in
      let own : term_eq term.0 term.0 ≡ true = term_eq-refl term.0 in
      IfSome-from (mentions_at p.0 table) (λ count. 1 ≤ count) _ count (at_least (term_eq term.0 term.0) (filter (term_eq term.0) some.mentions) term.0 (held_mention some.theory term.0) own)
    where
      at_least : (b : Bool) (rest : List Ground) (t : Ground) (held : ℕ) → b ≡ true → 1 ≤ length (cond b (t ∷ rest) rest) + held
      at_least b rest t held is = grind arith

  pub mentions-some : 1 ≤ old.mentions
  mentions-some = let term = kept_term table p there in let counted = (in_front term.0 term.1).tally_by.mentions_by in omega (arith, counted)

  pub is_added-released : is_added p around.rows ≡ true
  is_added-released = some.tables.added.added p ∙ there

  module _ (list : List PropId) (one : IsOneToOne table) (listed : AreListed around p list) (after : List KeptProp)
      (is : IfSome (mentions_at p.0 table) (λ count. after ≡ with_mentions p.0 (count - 1) table)) where
    -- the table afterwards
    now : after ≡ with_mentions p.0 (count_at p.0 table - 1) table
    now = subst (λ o. IfSome o (λ count. after ≡ with_mentions p.0 (count - 1) table)) (kept_count table p there) is

    one_count : 1 ≤ count_at p.0 table
    one_count = subst (λ o. IfSome o (λ count. 1 ≤ count)) (kept_count table p there) count-some

    next : IsOneMore p after table
    next = subst (λ t. IsOneMore p t table) (sym now) (one_less_of table p (count_at p.0 table) (kept_count table p there) one_count)

    one_after : IsOneToOne after
    one_after = subst IsOneToOne (sym now) (IsOneToOne-with_mentions table p.0 (count_at p.0 table - 1) one)

    -- the property stays kept, and so do the neighbours
    pub there-released : IsSome (prop_at p.0 after)
    there-released = kept-same table after (λ id. sym (next.terms id)) p.0 there

    pub AreNeighbours-released : AreNeighbours some.theory after around
    AreNeighbours-released = (AreAllAdded-same some.theory table after (λ id. sym (next.terms id)) around some.tables.added).neighbours

    -- its links are among the links
    links_within_here : sum_by (links_to (count_at p.0 after == 0) after points) list ≤ old.links
    links_within_here =
        let term = kept_term table p there in
        let tables = in_front term.0 term.1 in
        let own = sym (next.terms p.0) ∙ term.1 in
        let kept = AreKeptBy-less some.theory some.mentions p term.0 after table one_after next own tables.kept in
        let added = AreAllAdded-same some.theory table after (λ id. sym (next.terms id)) around tables.added in
        let initials = AreInitialsOf-same some.theory table after (λ id. sym (next.terms id)) points tables.initials in
        let equation = links_of-more some.theory some.mentions p term.0 after table one_after next own around points list old old some.lists listed kept added initials in
        omega (arith, equation, tables.tally_by.links_by)

    pub links-within : (count : ℕ) → mentions_at p.0 after ≡ Some count → sum_by (links_to (count == 0) after points) list ≤ old.links
    links-within count told = subst (λ n. sum_by (links_to (n == 0) after points) list ≤ old.links) (ap (λ o. unwrap_or o 0) told) links_within_here

    -- so the property is mentioned once less
    pub HasReleased-one : (new : Tally) (count : ℕ) → mentions_at p.0 after ≡ Some count → new.mentions + 1 ≡ old.mentions
        → new.links + sum_by (links_to (count == 0) after points) list ≡ old.links → HasReleased around points (p ∷ []) table old after new
    HasReleased-one new count told counted more_links =
        let linked = ap (λ n. new.links + sum_by (links_to (n == 0) after points) list) (ap (λ o. unwrap_or o 0) told) ∙ more_links in
        let term = kept_term table p there in
        record {
          terms = λ id. sym (next.terms id);
          less = counted;
          tables = λ theory mentions lists tables.
              AreTablesBy-less theory mentions p term.0 after table one_after next (sym (next.terms p.0) ∙ term.1) around points list old new lists listed
              (subst (λ ts. AreTablesBy theory (ts ++ mentions) table around points old) (terms_of-one table p term.0 term.1) tables) counted linked;
        }

-- ---- how many

-- so many mentions are left room for by those of all entries
pub list_props-room : (entries : List Entry) (i : ℕ) (d : Entry) → i < length entries → length (list_props (take i entries)) + length (entry_props (get_or entries i d)) ≤ length (list_props entries)
list_props-room entries i d below = length-flat_map-take entry_props entries i d below
