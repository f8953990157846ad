-- The limits on mentions and links, as the tables tell them.
use Rattle.std.proofs.Common.{◌≡◌, ◌≤◌, ◌<◌, ◌+◌, ℕ, ℤ, suc, true, false, List, [], ◌∷◌, length, Some, IsTrue, refl, sym, ap, ap₂, subst, ◌∙◌, arith, length-append}
use Rattle.std.specs.Prelude.{flat_map, nat_lt, Ok, Err}
use Rattle.std.proofs.lemmas.Bool.{cond-true, cond-false}
use Rattle.std.proofs.lemmas.List.{length-map}
use Rattle.std.proofs.lemmas.Slice.Eq.{bytes_eq-Decides}
use Rattle.std.proofs.lemmas.List.Sorted.{length_permutation}
use Rattle.ec_terms.specs.declared.theory.Theory.{Theory}
use Rattle.ec_terms.specs.Domain.{GroundLiteral, GroundEntry, entries_of}
use Rattle.ec_axioms.specs.declared.event.Cut.TheVariants.{FullMentions, FullLinks}
use Rattle.ec_axioms.specs.Calculus.{PlainEvent}
use Rattle.ec_axioms.specs.Changes.{is_history, with_event, without_event, has_event}
use Rattle.ec_axioms.specs.Links.{entry_mentions, event_mentions, link_count, mentions_of, most_links, most_mentions}
use Rattle.ec_axioms.proofs.Histories.{is_history-with_event}
use Rattle.ec_changes.proofs.EventMentions.{MentionsWithEvent-law}
use Rattle.ec_context.specs.declared.entry.Entry.{Entry}
use Rattle.ec_context.specs.declared.entry.EntryLiteral.{EntryLiteral}
use Rattle.ec_context.specs.Entries.{each_of, shown_literal, shown_entry, shown_entries}
use Rattle.ec_context.proofs.EachOf.{each_of-first, each_of-length}
use Rattle.ec_context.proofs.Shown.{IsShownAs-entry}
use Rattle.ec_store.specs.Table.{KeptProp, term_at}
use Rattle.ec_parts.specs.declared.tally.Tally.{Tally}
use Rattle.ec_parts.specs.Mentions.{AreOfEventsWith, entry_props, list_props}
use Rattle.ec_parts.specs.StandFor.{View, StandForBoth}
use Rattle.ec_parts.proofs.CachesKept.{shown_entries-moved}
use Rattle.ec_batch.specs.Limited.{ComesIn}
use Rattle.ec_replies.specs.Updates.{with_few_mentions}
use Rattle.ec_changes.proofs.FoundEvents.{event_with-put, found-has_event, without-with_event}

-- ---- how many mentions entries make

-- an entry makes as many mentions as it has properties
length-entry_props : (table : List KeptProp) (entry : Entry) (shown : GroundEntry) → shown_entry table entry ≡ Some shown → length (entry_props entry) ≡ length (entry_mentions shown)
length-entry_props table entry shown is =
    ap suc
    (length-map entry.literals (λ (l : EntryLiteral). l.prop) ∙ each_of-length (shown_literal table) entry.literals shown.literals (IsShownAs-entry table entry shown is).literals
    ∙ sym (length-map shown.literals (λ (l : GroundLiteral). l.prop)))

-- and so do several
pub length-list_props : (table : List KeptProp) (entries : List Entry) (shown : List GroundEntry) → shown_entries table entries ≡ Some shown
    → length (list_props entries) ≡ length (flat_map entry_mentions shown)
unfolding each_of
length-list_props table [] shown is = let none : [] ≡ shown = cc in ap (λ (es : List GroundEntry). length (flat_map entry_mentions es)) none
length-list_props table (entry ∷ entries) shown is =
    let parts = each_of-first (shown_entry table) entry entries shown is in
    length-append (entry_props entry) (list_props entries)
    ∙ ap₂ (λ m n. m + n) (length-entry_props table entry parts.first parts.first_is) (length-list_props table entries parts.others parts.others_are)
    ∙ sym (length-append (entry_mentions parts.first) (flat_map entry_mentions parts.others))
    ∙ ap (λ (es : List GroundEntry). length (flat_map entry_mentions es)) (sym parts.all_are)

-- the list with an event mentions so much more
pub length-mentions_with : (theory : Theory) (e : PlainEvent) (events : List PlainEvent) → length (mentions_of theory (with_event e events)) ≡ length (event_mentions theory e) + length (mentions_of theory events)
length-mentions_with theory e events =
    length_permutation _ _ (MentionsWithEvent-law theory e events) ∙ length-append (event_mentions theory e) (mentions_of theory events)

-- ---- the limits

module _ {T : Type 0} {rank : T → ℤ} {theory : Theory} {entries : List Entry} {view : View T} {tally : Tally} {now soon : List PlainEvent} {event : PlainEvent}
    (comes : ComesIn rank theory entries view tally now soon event) where
  -- too many mentions
  pub many_mentions : most_mentions < tally.mentions + length (list_props entries) → with_few_mentions theory (with_event event soon) ≡ Err FullMentions
  unfolding with_few_mentions
  many_mentions many =
      let made = length-list_props view.table entries _ comes.shown in
      let all = length-mentions_with theory event soon in
      let counted = comes.both.tables.tally_of.mentions in
      let over : nat_lt most_mentions (length (mentions_of theory (with_event event soon))) ≡ true = grind (arith, made, all, counted, many) in
      cond-true _ _ _ over

  -- not too many mentions, and too many links
  pub many_links : (after : View T) (new : Tally) → StandForBoth rank theory now (with_event event soon) after new → new.mentions ≤ most_mentions → most_links < new.links
      → with_few_mentions theory (with_event event soon) ≡ Err FullLinks
  unfolding with_few_mentions
  many_links after new stand few many =
      let mentioned = stand.tables.tally_of.mentions in
      let linked = stand.tables.tally_of.links in
      let under : nat_lt most_mentions (length (mentions_of theory (with_event event soon))) ≡ false = grind (arith, mentioned, few) in
      let over : nat_lt most_links (link_count theory (with_event event soon)) ≡ true = grind (arith, linked, many) in
      cond-false _ _ _ under ∙ cond-true _ _ _ over

  -- neither
  pub few_of_both : (after : View T) (new : Tally) → StandForBoth rank theory now (with_event event soon) after new → new.mentions ≤ most_mentions → new.links ≤ most_links
      → with_few_mentions theory (with_event event soon) ≡ Ok (with_event event soon)
  unfolding with_few_mentions
  few_of_both after new stand few links =
      let mentioned = stand.tables.tally_of.mentions in
      let linked = stand.tables.tally_of.links in
      let under : nat_lt most_mentions (length (mentions_of theory (with_event event soon))) ≡ false = grind (arith, mentioned, few) in
      let unlinked : nat_lt most_links (link_count theory (with_event event soon)) ≡ false = grind (arith, linked, links) in
      cond-false _ _ _ under ∙ cond-false _ _ _ unlinked

  -- the event stands in the list with it, and its entries are shown there
  pub stands_in : IsTrue (has_event (with_event event soon) event)
  stands_in =
      found-has_event event.id event (with_event event soon) (event_with-put event.id event soon comes.absent ∙ cond-true _ _ _ ((bytes_eq-Decides event.id event.id).1 refl))

  pub history_with : IsTrue (is_history (with_event event soon))
  history_with = is_history-with_event event soon comes.history comes.absent

  pub shown_after : (after : List KeptProp) → ((id : ℕ) → term_at id after ≡ term_at id view.table) → shown_entries after entries ≡ Some (entries_of theory event.term)
  shown_after after terms = shown_entries-moved view.table after (λ p. true) (λ id p is live. terms id ∙ is) entries _ (λ p member. refl) comes.shown

  -- the tables with the event are of a history that has it
  pub AreOfEventsWith-in : (after : View T) (new : Tally) → ((id : ℕ) → term_at id after.table ≡ term_at id view.table) → StandForBoth rank theory now (with_event event soon) after new
      → AreOfEventsWith theory entries after.table after.neighbours after.points new
  AreOfEventsWith-in after new terms stand =
      record { events = with_event event soon; event = event; history = history_with; there = stands_in; shown = shown_after after.table terms; tables = stand.tables }

  -- and the tables without it again are of the list as it was
  pub back_out : (after : View T) (new : Tally) → StandForBoth rank theory now (without_event event.id (with_event event soon)) after new → StandForBoth rank theory now soon after new
  back_out after new stand = subst (λ events. StandForBoth rank theory now events after new) (without-with_event event soon comes.history comes.absent) stand
