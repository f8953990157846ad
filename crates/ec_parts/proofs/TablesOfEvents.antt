-- The tables of a list of events, with one event more and with one less.
use Rattle.std.proofs.Common.{◌≡◌, ◌≤◌, length, List, [], ◌∷◌, ◌++◌, map, Some, IsTrue, sym, ap, ap₂, subst, ◌∙◌}
use Rattle.std.specs.Prelude.{flat_map}
use Rattle.std.specs.List.Sorted.{IsPermutation}
use Rattle.std.proofs.lemmas.List.Elements.{filter_map-append}
use Rattle.std.proofs.lemmas.List.Sorted.{IsPermutation-sym}
use Rattle.ec_terms.specs.declared.ids.PropId.{PropId}
use Rattle.ec_terms.specs.declared.ground.Ground.{Ground}
use Rattle.ec_terms.specs.declared.theory.Theory.{Theory}
use Rattle.ec_terms.specs.Domain.{GroundLiteral, GroundEntry, entries_of}
use Rattle.ec_axioms.specs.Calculus.{PlainEvent}
use Rattle.ec_axioms.specs.Changes.{is_history, has_event, with_event, without_event}
use Rattle.ec_axioms.specs.Links.{entry_mentions, mentions_of, is_live}
use Rattle.ec_changes.specs.LiveLaws.{ListsInitials}
use Rattle.ec_changes.proofs.EventMentions.{MentionsWithEvent-law, MentionsWithoutEvent-law}
use Rattle.ec_changes.proofs.LinkSteps.{LinksAreOfMentions-law}
use Rattle.ec_store.specs.Table.{KeptProp, term_at}
use Rattle.ec_exclusive.specs.Neighbours.{Neighbourhoods}
use Rattle.ec_context.specs.declared.entry.Entry.{Entry}
use Rattle.ec_context.specs.declared.entry.EntryLiteral.{EntryLiteral}
use Rattle.ec_context.specs.Entries.{each_of, shown_literal, shown_literals, shown_entry, shown_entries}
use Rattle.ec_context.proofs.EachOf.{each_of-first}
use Rattle.ec_context.proofs.Shown.{IsLiteralShownAs-literal, IsShownAs-entry}
use Rattle.ec_points.specs.Table.{PointTable}
use Rattle.ec_parts.specs.declared.tally.Tally.{Tally}
use Rattle.ec_parts.specs.StandFor.{AreTables}
use Rattle.ec_check.specs.declared.limits.TheConstants.{MOST_INITIALS}
use Rattle.ec_parts.specs.Mentions.{AreTablesBy, AreSomeTables, HasMentioned, HasReleased, entry_props, list_props, terms_of}
use Rattle.ec_parts.proofs.OneMention.{AreTablesBy-IsPermutation}

-- ---- the terms of shown entries

-- a number in front
terms_of-cons : (table : List KeptProp) (p : PropId) (props : List PropId) (t : Ground) (ts : List Ground) → term_at p.0 table ≡ Some t → terms_of table props ≡ ts → terms_of table (p ∷ props) ≡ t ∷ ts
terms_of-cons table p props t ts is rest = rw is (ap (λ us. t ∷ us) rest)

terms_of-literals : (table : List KeptProp) (literals : List EntryLiteral) (shown : List GroundLiteral) → shown_literals table literals ≡ Some shown
    → terms_of table (map (λ (l : EntryLiteral). l.prop) literals) ≡ map (λ (l : GroundLiteral). l.prop) shown
unfolding each_of
terms_of-literals table [] shown is = let none : [] ≡ shown = cc in ap (map (λ (l : GroundLiteral). l.prop)) none
terms_of-literals table (literal ∷ literals) shown is =
    let parts = each_of-first (shown_literal table) literal literals shown is in
    terms_of-cons table literal.prop (map (λ (l : EntryLiteral). l.prop) literals) parts.first.prop (map (λ (l : GroundLiteral). l.prop) parts.others)
    (IsLiteralShownAs-literal table literal parts.first parts.first_is).prop (terms_of-literals table literals parts.others parts.others_are)
    ∙ ap (map (λ (l : GroundLiteral). l.prop)) (sym parts.all_are)

-- the terms of an entry
terms_of-entry : (table : List KeptProp) (entry : Entry) (shown : GroundEntry) → shown_entry table entry ≡ Some shown → terms_of table (entry_props entry) ≡ entry_mentions shown
terms_of-entry table entry shown is =
    let seen = IsShownAs-entry table entry shown is in
    terms_of-cons table entry.head (map (λ (l : EntryLiteral). l.prop) entry.literals) shown.head (map (λ (l : GroundLiteral). l.prop) shown.literals) seen.head
    (terms_of-literals table entry.literals shown.literals seen.literals)

-- the terms of all entries are their mentions
pub terms_of-entries : (table : List KeptProp) (entries : List Entry) (shown : List GroundEntry) → shown_entries table entries ≡ Some shown
    → terms_of table (list_props entries) ≡ flat_map entry_mentions shown
unfolding each_of
terms_of-entries table [] shown is = let none : [] ≡ shown = cc in ap (flat_map entry_mentions) none
terms_of-entries table (entry ∷ entries) shown is =
    let parts = each_of-first (shown_entry table) entry entries shown is in
    filter_map-append (λ (p : PropId). term_at p.0 table) (entry_props entry) (list_props entries)
    ∙ ap₂ {C = List Ground} (λ xs ys. xs ++ ys) (terms_of-entry table entry parts.first parts.first_is) (terms_of-entries table entries parts.others parts.others_are)
    ∙ ap (flat_map entry_mentions) (sym parts.all_are)

-- ---- the tables of events are those of their mentions

module _ {T : Type 0} {theory : Theory} {events : List PlainEvent} {table : List KeptProp} {around : Neighbourhoods} {points : PointTable T} {tally : Tally} where
  pub AreTablesBy-events : AreTables theory events table around points tally → AreTablesBy theory (mentions_of theory events) table around points tally
  unfolding is_live
  AreTablesBy-events tables = record {
    kept = record { live = tables.kept.live; counts = tables.kept.mentions };
    added = tables.added;
    initials = tables.initials;
    tally_by = record { mentions_by = tables.tally_of.mentions; links_by = tables.tally_of.links ∙ LinksAreOfMentions-law theory events };
  }

  pub AreTables-mentions : AreTablesBy theory (mentions_of theory events) table around points tally → AreTables theory events table around points tally
  unfolding is_live
  AreTables-mentions tables = record {
    kept = record { live = tables.kept.live; mentions = tables.kept.counts };
    added = tables.added;
    initials = tables.initials;
    tally_of = record { mentions = tables.tally_by.mentions_by; links = tables.tally_by.links_by ∙ sym (LinksAreOfMentions-law theory events) };
  }

-- ---- one event

module _ {T : Type 0} {theory : Theory} {before after : List KeptProp} {around : Neighbourhoods} {points : PointTable T} {old new : Tally} (events : List PlainEvent) (event : PlainEvent) (entries : List Entry)
    (lists : ListsInitials theory) (shown : shown_entries before entries ≡ Some (entries_of theory event.term)) where
  -- with one event more
  pub AreTables-with_event : HasMentioned around points (list_props entries) before old after new → AreTables theory events before around points old → AreTables theory (with_event event events) after around points new
  AreTables-with_event step tables =
      AreTables-mentions
      (step.tables theory (mentions_of theory events) (mentions_of theory (with_event event events)) lists
      (subst (λ ts. IsPermutation (ts ++ mentions_of theory events) (mentions_of theory (with_event event events))) (sym (terms_of-entries before entries _ shown)) (MentionsWithEvent-law theory event events))
      (AreTablesBy-events tables))

  -- with one event less
  pub AreTables-without_event : HasReleased around points (list_props entries) before old after new → IsTrue (is_history events) → IsTrue (has_event events event)
      → AreTables theory events before around points old → AreTables theory (without_event event.id events) after around points new
  AreTables-without_event step history there tables =
      let own : IsPermutation (terms_of before (list_props entries) ++ mentions_of theory (without_event event.id events)) (mentions_of theory events) =
      subst (λ ts. IsPermutation (ts ++ mentions_of theory (without_event event.id events)) (mentions_of theory events)) (sym (terms_of-entries before entries _ shown)) (MentionsWithoutEvent-law theory event events history there) in
      AreTables-mentions
      (step.tables theory (mentions_of theory (without_event event.id events)) lists
      (AreTablesBy-IsPermutation (mentions_of theory events) _ (IsPermutation-sym _ _ own) (AreTablesBy-events tables)))

-- the mentions of an event are among those of a history that has it
pub AreSomeTables-with_event : {T : Type 0} {theory : Theory} {table : List KeptProp} {around : Neighbourhoods} {points : PointTable T} {tally : Tally} (events : List PlainEvent) (event : PlainEvent) (entries : List Entry)
    → ListsInitials theory → length theory.initials ≤ MOST_INITIALS → shown_entries table entries ≡ Some (entries_of theory event.term) → IsTrue (is_history events) → IsTrue (has_event events event)
    → AreTables theory events table around points tally → AreSomeTables (list_props entries) table around points tally
AreSomeTables-with_event {theory = theory} {table = table} events event entries lists few shown history there tables =
    let own : IsPermutation (terms_of table (list_props entries) ++ mentions_of theory (without_event event.id events)) (mentions_of theory events) =
    subst (λ ts. IsPermutation (ts ++ mentions_of theory (without_event event.id events)) (mentions_of theory events)) (sym (terms_of-entries table entries _ shown)) (MentionsWithoutEvent-law theory event events history there) in
    record {
      theory = theory;
      mentions = mentions_of theory (without_event event.id events);
      lists = lists;
      few = few;
      tables = AreTablesBy-IsPermutation (mentions_of theory events) _ (IsPermutation-sym _ _ own) (AreTablesBy-events tables);
    }

-- the tables of a list of events are those of some mentions
pub AreSomeTables-events : {T : Type 0} {theory : Theory} {table : List KeptProp} {around : Neighbourhoods} {points : PointTable T} {tally : Tally} (events : List PlainEvent)
    → ListsInitials theory → length theory.initials ≤ MOST_INITIALS → AreTables theory events table around points tally → AreSomeTables [] table around points tally
AreSomeTables-events {theory = theory} events lists few tables =
    record { theory = theory; mentions = mentions_of theory events; lists = lists; few = few; tables = AreTablesBy-events tables }
