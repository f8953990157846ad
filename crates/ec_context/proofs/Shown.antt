-- What a table shows of entries.
use Rattle.std.proofs.Common.{◌≡◌, ◌<◌, ◌+◌, ℕ, ℤ, true, ◌&&◌, List, [], ◌∷◌, ◌++◌, length, map, take, get_or, Option, Some, None, is_some, option_map, IsSome, refl, sym, ap, ap₂, ◌∙◌, arith}
use Rattle.std.specs.Prelude.{option_and_then}
use Rattle.std.specs.Bool.{beq}
use Rattle.std.specs.List.{All, list_all}
use Rattle.std.proofs.lemmas.List.{length-map, length-take-le, map-append, take_more}
use Rattle.ec_terms.specs.declared.theory.Literal.{Literal}
use Rattle.ec_terms.specs.declared.ground.Ground.{Ground}
use Rattle.ec_terms.specs.Domain.{GroundLiteral, GroundEntry}
use Rattle.ec_axioms.specs.Calculus.{Currency, agrees, is_active}
use Rattle.ec_store.specs.Table.{KeptProp, prop_at, term_at}
use Rattle.ec_store.proofs.FoundLemmas.{is_some-kept}
use Rattle.ec_context.specs.declared.entry.Entry.{Entry}
use Rattle.ec_context.specs.declared.entry.EntryLiteral.{EntryLiteral}
use Rattle.ec_context.specs.Entries.{each_of, shown_literal, shown_literals, shown_entry, shown_entries, IsKeptEntry}
use Rattle.ec_context.specs.Widened.{KeepsAll}
use Rattle.ec_context.proofs.EachOf.{All-each_of, each_of-first, each_of-length, each_of-moved, each_of-push}
use Rattle.ec_context.specs.Activity.{NumberCurrency, IsCurrencyOfTerms, EvaluatingIsActivity, literal_agrees, literals_agree}

-- ---- what is shown

-- an entry is shown where its head and its literals are
pub shown_entry-filled : (table : List KeptProp) (entry : Entry) (head : Ground) (literals : List GroundLiteral) → term_at entry.head.0 table ≡ Some head →
    shown_literals table entry.literals ≡ Some literals →
    shown_entry table entry ≡ Some (record { rule = entry.rule; kind = entry.kind; head = head; literals = literals })
unfolding shown_entry
shown_entry-filled table entry head literals there all = rw (there, all) refl

pub shown_literal-filled : (table : List KeptProp) (literal : EntryLiteral) (term : Ground) → term_at literal.prop.0 table ≡ Some term →
    shown_literal table literal ≡ Some (record { positive = literal.positive; prop = term })
unfolding shown_literal
shown_literal-filled table literal term there = rw there refl

-- what a literal has that a table shows
pub record IsLiteralShownAs (table : List KeptProp) (literal : EntryLiteral) (shown : GroundLiteral) : Type 0 where
  pub prop : term_at literal.prop.0 table ≡ Some shown.prop
  pub positive : literal.positive ≡ shown.positive

pub IsLiteralShownAs-literal : (table : List KeptProp) (literal : EntryLiteral) (shown : GroundLiteral) → shown_literal table literal ≡ Some shown → IsLiteralShownAs table literal shown
unfolding shown_literal
IsLiteralShownAs-literal table literal shown is = of (term_at literal.prop.0 table) refl is
  where
    of : (o : Option Ground) → term_at literal.prop.0 table ≡ o → option_map (λ term. record { positive = literal.positive; prop = term }) o ≡ Some shown → IsLiteralShownAs table literal shown
    of None there both = cc
    of (Some term) there both =
        let same : record { positive = literal.positive; prop = term } ≡ shown = cc in
        record { prop = there ∙ ap (λ (l : GroundLiteral). Some l.prop) same; positive = ap (λ (l : GroundLiteral). l.positive) same }

-- and the other way
pub shown_literal-from : (table : List KeptProp) (literal : EntryLiteral) (shown : GroundLiteral) → IsLiteralShownAs table literal shown → shown_literal table literal ≡ Some shown
shown_literal-from table literal shown seen =
    shown_literal-filled table literal shown.prop seen.prop ∙ ap (λ b. Some (record { positive = b; prop = shown.prop })) seen.positive

-- what an entry has that a table shows: the term of its head, its number and kind, and the terms of its literals
pub record IsShownAs (table : List KeptProp) (entry : Entry) (shown : GroundEntry) : Type 0 where
  pub head : term_at entry.head.0 table ≡ Some shown.head
  pub rule : entry.rule ≡ shown.rule
  pub kind : entry.kind ≡ shown.kind
  pub literals : shown_literals table entry.literals ≡ Some shown.literals

pub IsShownAs-entry : (table : List KeptProp) (entry : Entry) (shown : GroundEntry) → shown_entry table entry ≡ Some shown → IsShownAs table entry shown
unfolding shown_entry
IsShownAs-entry table entry shown is = of (term_at entry.head.0 table) (shown_literals table entry.literals) refl refl is
  where
    of : (head : Option Ground) (literals : Option (List GroundLiteral)) → term_at entry.head.0 table ≡ head → shown_literals table entry.literals ≡ literals →
        option_and_then (λ h. option_map (λ ls. record { rule = entry.rule; kind = entry.kind; head = h; literals = ls }) literals) head ≡ Some shown → IsShownAs table entry shown
    of None literals there all both = cc
    of (Some h) None there all both = cc
    of (Some h) (Some ls) there all both =
        let same : record { rule = entry.rule; kind = entry.kind; head = h; literals = ls } ≡ shown = cc in
        record {
          head = there ∙ ap (λ (e : GroundEntry). Some e.head) same;
          rule = ap (λ (e : GroundEntry). e.rule) same;
          kind = ap (λ (e : GroundEntry). e.kind) same;
          literals = all ∙ ap (λ (e : GroundEntry). Some e.literals) same;
        }

-- and the other way
pub shown_entry-from : (table : List KeptProp) (entry : Entry) (shown : GroundEntry) → IsShownAs table entry shown → shown_entry table entry ≡ Some shown
shown_entry-from table entry shown seen =
    shown_entry-filled table entry shown.head shown.literals seen.head seen.literals
    ∙ ap₂ (λ n k. Some (record { rule = n; kind = k; head = shown.head; literals = shown.literals })) seen.rule seen.kind

-- ---- activity

module _ (table : List KeptProp) (by_number : NumberCurrency) (by_term : Currency) (t : ℤ) (says : IsCurrencyOfTerms table by_number by_term t) where
  literal_agrees-shown : (literal : EntryLiteral) (shown : GroundLiteral) → shown_literal table literal ≡ Some shown →
      literal_agrees by_number t literal ≡ agrees by_term t shown
  unfolding agrees
  literal_agrees-shown literal shown is =
      let seen = IsLiteralShownAs-literal table literal shown is in ap₂ beq (says literal.prop.0 shown.prop seen.prop) seen.positive

  literals_agree-shown : (literals : List EntryLiteral) (shown : List GroundLiteral) → shown_literals table literals ≡ Some shown →
      list_all (literal_agrees by_number t) literals ≡ list_all (agrees by_term t) shown
  unfolding each_of
  literals_agree-shown [] [] is = refl
  literals_agree-shown [] (l ∷ ls) is = cc
  literals_agree-shown (literal ∷ literals) shown is =
      let parts = each_of-first (shown_literal table) literal literals shown is in
      ap₂ (λ a b. a && b) (literal_agrees-shown literal parts.first parts.first_is) (literals_agree-shown literals parts.others parts.others_are)
      ∙ ap (list_all (agrees by_term t)) (sym parts.all_are)

-- the literals of an entry agree exactly where the entry that the table shows is active
pub literals_agree-is_active : (table : List KeptProp) → EvaluatingIsActivity table
unfolding literals_agree is_active
literals_agree-is_active table by_number by_term event says entry shown is =
    literals_agree-shown table by_number by_term event.rank says entry.literals shown.literals (IsShownAs-entry table entry shown is).literals

-- ---- a table that keeps more

module _ (before after : List KeptProp) (kept : KeepsAll before after) where
  -- a term stays under its number
  pub term_at-kept : (id : ℕ) (term : Ground) → term_at id before ≡ Some term → term_at id after ≡ Some term
  term_at-kept id term is = ap (option_map (λ (k : KeptProp). k.term)) (kept id (is_some-kept id before term is)) ∙ is

  shown_literal-kept : (literal : EntryLiteral) (shown : GroundLiteral) → shown_literal before literal ≡ Some shown → shown_literal after literal ≡ Some shown
  shown_literal-kept literal shown is =
      let seen = IsLiteralShownAs-literal before literal shown is in
      shown_literal-from after literal shown (record { prop = term_at-kept literal.prop.0 shown.prop seen.prop; positive = seen.positive })

  pub shown_literals-kept : (literals : List EntryLiteral) (shown : List GroundLiteral) → shown_literals before literals ≡ Some shown → shown_literals after literals ≡ Some shown
  shown_literals-kept literals shown is = each_of-moved (shown_literal before) (shown_literal after) literals shown (λ literal one member. shown_literal-kept literal one) is

  shown_entry-kept : (entry : Entry) (shown : GroundEntry) → shown_entry before entry ≡ Some shown → shown_entry after entry ≡ Some shown
  shown_entry-kept entry shown is =
      let seen = IsShownAs-entry before entry shown is in
      shown_entry-from after entry shown
      (record { head = term_at-kept entry.head.0 shown.head seen.head; rule = seen.rule; kind = seen.kind; literals = shown_literals-kept entry.literals shown.literals seen.literals })

  pub shown_entries-kept : (entries : List Entry) (shown : List GroundEntry) → shown_entries before entries ≡ Some shown → shown_entries after entries ≡ Some shown
  shown_entries-kept entries shown is = each_of-moved (shown_entry before) (shown_entry after) entries shown (λ entry one member. shown_entry-kept entry one) is

-- ---- one more

-- no literals are shown as none
pub shown_literals-none : (table : List KeptProp) (literals : List EntryLiteral) → literals ≡ [] → shown_literals table literals ≡ Some []
unfolding each_of
shown_literals-none table literals none = ap (shown_literals table) none

pub shown_entries-none : (table : List KeptProp) (entries : List Entry) → entries ≡ [] → shown_entries table entries ≡ Some []
unfolding each_of
shown_entries-none table entries none = ap (shown_entries table) none

-- while literals are left in a rule, fewer are filled in than it has
pub room-shown_literals : (table : List KeptProp) (literals : List EntryLiteral) (f : Literal → GroundLiteral) (items : List Literal) (i : ℕ) →
    shown_literals table literals ≡ Some (map f (take i items)) → i < length items → length literals < length items
room-shown_literals table literals f items i is within =
    let same = each_of-length (shown_literal table) literals (map f (take i items)) is in
    let counted = length-map (take i items) f in
    let taken = length-take-le i items (omega (arith, within)) in omega (arith, same, counted, taken, within)

-- one literal more
pub shown_literals-more : (before after : List KeptProp) → KeepsAll before after → (literals more : List EntryLiteral) (literal : EntryLiteral) (f : Literal → GroundLiteral)
    (items : List Literal) (i : ℕ) (item : Literal) → i < length items → item ≡ get_or items i item → shown_literals before literals ≡ Some (map f (take i items)) →
    shown_literal after literal ≡ Some (f item) → more ≡ literals ++ literal ∷ [] → shown_literals after more ≡ Some (map f (take (i + 1) items))
shown_literals-more before after kept literals more literal f items i item within here shown last is =
    ap (shown_literals after) is
    ∙ each_of-push (shown_literal after) literals literal (map f (take i items)) (f item) (shown_literals-kept before after kept literals _ shown) last
    ∙ ap Some
    (sym (map-append f (take i items) (item ∷ [])) ∙ ap (map f) (ap (λ x. take i items ++ x ∷ []) here ∙ sym (take_more items i item within)))

-- ---- what shown entries are

literal-kept : (table : List KeptProp) (literal : EntryLiteral) (shown : GroundLiteral) → shown_literal table literal ≡ Some shown → is_some (prop_at literal.prop.0 table) ≡ true
literal-kept table literal shown is = is_some-kept literal.prop.0 table shown.prop (IsLiteralShownAs-literal table literal shown is).prop

entry-kept : (table : List KeptProp) (entry : Entry) (shown : GroundEntry) → shown_entry table entry ≡ Some shown → IsKeptEntry table entry
entry-kept table entry shown is = record {
  head = is_some-kept entry.head.0 table shown.head (IsShownAs-entry table entry shown is).head;
  literals = All-each_of (shown_literal table) (λ (literal : EntryLiteral). IsSome (prop_at literal.prop.0 table)) (literal-kept table) entry.literals shown.literals
      (IsShownAs-entry table entry shown is).literals;
}

module _ (table : List KeptProp) (entries : List Entry) (shown : List GroundEntry) (are : shown_entries table entries ≡ Some shown) where
  -- the head and the literals of each are kept
  pub IsKeptEntry-shown : All (λ (entry : Entry). IsKeptEntry table entry) entries
  IsKeptEntry-shown = All-each_of (shown_entry table) (λ (entry : Entry). IsKeptEntry table entry) (entry-kept table) entries shown are

  -- there are as many
  pub length-shown : length entries ≡ length shown
  length-shown = each_of-length (shown_entry table) entries shown are

-- they have the same rules
pub rules-shown : (table : List KeptProp) (entries : List Entry) (shown : List GroundEntry) → shown_entries table entries ≡ Some shown →
    map (λ (e : Entry). e.rule) entries ≡ map (λ (e : GroundEntry). e.rule) shown
unfolding each_of
rules-shown table [] [] is = refl
rules-shown table [] (g ∷ gs) is = cc
rules-shown table (entry ∷ entries) shown is =
    let parts = each_of-first (shown_entry table) entry entries shown is in
    ap₂ {C = List ℕ} (λ n ns. n ∷ ns) (IsShownAs-entry table entry parts.first parts.first_is).rule (rules-shown table entries parts.others parts.others_are)
    ∙ ap (map (λ (e : GroundEntry). e.rule)) (sym parts.all_are)
