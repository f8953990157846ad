-- The caches of a list stay its caches where the table changes in nothing that is live in that list.
use Rattle.std.proofs.Common.{◌≡◌, ℕ, ℤ, true, Bool, List, Option, Some, None, is_some, IsSome, refl, sym, ap, subst, ◌∙◌, inl, inr}
use Rattle.std.specs.Prelude.{◌==◌, option_map, flat_map, find}
use Rattle.std.proofs.lemmas.Bool.{or_right}
use Rattle.ec_terms.specs.declared.ids.Slot.{Slot}
use Rattle.ec_terms.specs.declared.ground.Ground.{Ground}
use Rattle.ec_terms.specs.declared.theory.Theory.{Theory}
use Rattle.ec_terms.specs.Term.{term_eq}
use Rattle.ec_terms.specs.Domain.{GroundLiteral, GroundEntry, entries_of, is_initial}
use Rattle.ec_terms.proofs.DomainLemmas.{term_eq-refl}
use Rattle.ec_lists.proofs.Options.{Some-from_is_some, is_some-option_map, None-from_is_some}
use Rattle.ec_axioms.specs.declared.event.Event.{Event}
use Rattle.ec_axioms.specs.Calculus.{PlainEvent}
use Rattle.ec_axioms.specs.Events.{event_of}
use Rattle.ec_axioms.specs.Links.{entry_mentions, event_mentions, mentions_of, is_live}
use Rattle.ec_axioms.proofs.Members.{IsMember, IsMember-map, find-Some, member-list_any}
use Rattle.ec_changes.proofs.JoinedMembers.{IsMember-flat_map}
use Rattle.ec_context.specs.declared.entry.Entry.{Entry}
use Rattle.ec_context.specs.declared.entry.EntryLiteral.{EntryLiteral}
use Rattle.ec_context.specs.Entries.{shown_literal, shown_entry, shown_entries}
use Rattle.ec_context.proofs.EachOf.{each_of-moved}
use Rattle.ec_context.proofs.Shown.{IsLiteralShownAs-literal, IsShownAs-entry, shown_entry-from, shown_literal-from}
use Rattle.ec_entries.specs.declared.event_entries.EventEntries.{EventEntries}
use Rattle.ec_entries.specs.Dependents.{Entered}
use Rattle.ec_store.specs.Store.{Kept, Store, event_at, plain_of}
use Rattle.ec_numbered.specs.ByNumber.{kept_at}
use Rattle.ec_store.specs.Table.{KeptProp, prop_at, prop_of, term_at}
use Rattle.ec_parts.specs.Caches.{IsEntered, IsEnteredIn, AreEventsOf, AreEntriesOf}
use Rattle.ec_parts.specs.StandFor.{View, AreCaches, AreTables, StandForBoth}
use Rattle.ec_parts.specs.declared.tally.Tally.{Tally}
use Rattle.ec_parts.proofs.LinksByNumber.{IsOneToOne, term_at-prop_of}
use Rattle.ec_parts.proofs.OneMention.{AreInitialsOf-same, prop_of-there}

-- ---- entries

module _ (before after : List KeptProp) (live : Ground → Bool) (moves : (id : ℕ) (p : Ground) → term_at id before ≡ Some p → live p ≡ true → term_at id after ≡ Some p) where
  shown_literal-moved : (literal : EntryLiteral) (shown : GroundLiteral) → live shown.prop ≡ true → shown_literal before literal ≡ Some shown → shown_literal after literal ≡ Some shown
  shown_literal-moved literal shown is_live is =
      let seen = IsLiteralShownAs-literal before literal shown is in
      shown_literal-from after literal shown (record { prop = moves literal.prop.0 shown.prop seen.prop is_live; positive = seen.positive })

  shown_entry-moved : (entry : Entry) (shown : GroundEntry) → ((t : Ground) → IsMember (entry_mentions shown) t → live t ≡ true)
      → shown_entry before entry ≡ Some shown → shown_entry after entry ≡ Some shown
  shown_entry-moved entry shown are_live is =
      let seen = IsShownAs-entry before entry shown is in
      shown_entry-from after entry shown
      (record {
        head = moves entry.head.0 shown.head seen.head (are_live shown.head (inl refl));
        rule = seen.rule;
        kind = seen.kind;
        literals =
            each_of-moved (shown_literal before) (shown_literal after) entry.literals shown.literals
            (λ literal one member there. shown_literal-moved literal one (are_live one.prop (inr (IsMember-map (λ (l : GroundLiteral). l.prop) shown.literals one member))) there) seen.literals;
      })

  -- entries whose properties are live are shown as before
  pub shown_entries-moved : (entries : List Entry) (shown : List GroundEntry) → ((t : Ground) → IsMember (flat_map entry_mentions shown) t → live t ≡ true)
      → shown_entries before entries ≡ Some shown → shown_entries after entries ≡ Some shown
  shown_entries-moved entries shown are_live is =
      each_of-moved (shown_entry before) (shown_entry after) entries shown
      (λ entry one member there. shown_entry-moved entry one (λ t mention. are_live t (IsMember-flat_map entry_mentions shown one t member mention)) there) is

-- what an event of a list mentions is live
pub is_live-mention : (theory : Theory) (events : List PlainEvent) (e : PlainEvent) (t : Ground) → IsMember events e → IsMember (event_mentions theory e) t → is_live theory events t ≡ true
unfolding is_live mentions_of
is_live-mention theory events e t member mention =
    or_right (is_initial theory t) _ (member-list_any (term_eq t) (mentions_of theory events) t (IsMember-flat_map (event_mentions theory) events e t member mention) (term_eq-refl t))

-- a table keeps each property that is live in a list under the number that another has for it
abbrev pub KeepsLive : Theory → List PlainEvent → List KeptProp → List KeptProp → Type 0
KeepsLive theory events before after = (id : ℕ) (p : Ground) → term_at id before ≡ Some p → is_live theory events p ≡ true → term_at id after ≡ Some p

module _ {T : Type 0} (rank : T → ℤ) (theory : Theory) (events : List PlainEvent) (before after : List KeptProp) (moves : KeepsLive theory events before after) where
  IsEntered-moved : (event : Event T) (kept : EventEntries T) → IsMember events (event_of rank event) → IsEntered rank theory events before event kept → IsEntered rank theory events after event kept
  IsEntered-moved event kept member entered = record {
    time = entered.time;
    entries = shown_entries-moved before after (is_live theory events) moves kept.list (entries_of theory event.term)
        (λ t mention. is_live-mention theory events (event_of rank event) t member mention) entered.entries;
    active = entered.active;
  }

  IsEnteredIn-moved : (o : Option (Event T)) (k : Option (EventEntries T)) → ((event : Event T) → o ≡ Some event → IsMember events (event_of rank event))
      → IsEnteredIn rank theory events before o k → IsEnteredIn rank theory events after o k
  IsEnteredIn-moved None None members entered = tt
  IsEnteredIn-moved None (Some kept) members entered = absurd entered
  IsEnteredIn-moved (Some event) None members entered = absurd entered
  IsEnteredIn-moved (Some event) (Some kept) members entered = IsEntered-moved event kept (members event refl) entered

  -- the event under a slot is one of the list
  event_at-member : (store : Store T) (slot : Slot) (event : Event T) → AreEventsOf rank events store → event_at slot store.events ≡ Some event → IsMember events (event_of rank event)
  event_at-member store slot event are is = each (find (λ (kept : Kept T). kept.0.0 == slot.0) store.events) refl is
    where
      each : (o : Option (Kept T)) → find (λ (kept : Kept T). kept.0.0 == slot.0) store.events ≡ o → option_map (λ (kept : Kept T). kept.1) o ≡ Some event → IsMember events (event_of rank event)
      each None found both = cc
      each (Some k) found both =
          let own : k.1 ≡ event = cc in
          let member = (find-Some (λ (kept : Kept T). kept.0.0 == slot.0) store.events k found).0 in
          subst (λ (e : Event T). IsMember events (event_of rank e)) own (subst (λ es. IsMember es (plain_of rank k)) are (IsMember-map (plain_of rank) store.events k member))

  pub AreEntriesOf-moved : (store : Store T) (entered : Entered T) → AreEventsOf rank events store → AreEntriesOf rank theory events before store entered → AreEntriesOf rank theory events after store entered
  AreEntriesOf-moved store entered are entries slot =
      IsEnteredIn-moved (event_at slot store.events) (kept_at slot.0 entered.slots) (λ event is. event_at-member store slot event are is) (entries slot)

-- ---- all caches, where the terms are the same

module _ {T : Type 0} (rank : T → ℤ) (theory : Theory) (events : List PlainEvent) (view : View T) (after : List KeptProp) (same : (id : ℕ) → term_at id after ≡ term_at id view.table) where
  none-same : (id : ℕ) → prop_at id after ≡ None → prop_at id view.table ≡ None
  none-same id none =
      None-from_is_some (prop_at id view.table)
      (sym (is_some-option_map (λ (kept : KeptProp). kept.term) (prop_at id view.table)) ∙ ap is_some (sym (same id)) ∙ is_some-option_map (λ (kept : KeptProp). kept.term) (prop_at id after) ∙ ap is_some none)

  pub AreCaches-same : AreCaches rank theory events view → AreCaches rank theory events (record view { table = after })
  AreCaches-same caches = record {
    history = caches.history;
    events_of = caches.events_of;
    entries_of = AreEntriesOf-moved rank theory events view.table after (λ id p is live. same id ∙ is) view.store view.entries caches.events_of caches.entries_of;
    marks_of = record {
      marks = λ id p is. caches.marks_of.marks id p (sym (same id) ∙ is);
      none = λ id none. caches.marks_of.none id (none-same id none);
      initials = AreInitialsOf-same theory view.table after same view.points caches.marks_of.initials;
    };
    initiations_of = record {
      marks = λ id p is. caches.initiations_of.marks id p (sym (same id) ∙ is);
      none = λ id none. caches.initiations_of.none id (none-same id none);
    };
    intervals_of = record {
      members = λ id p is. caches.intervals_of.members id p (sym (same id) ∙ is);
      none = λ id none. caches.intervals_of.none id (none-same id none);
    };
  }

-- ---- both lists

-- a term that one table keeps under a number, and that another keeps under it too, has a number there
pub prop_of-moved : (before after : List KeptProp) (t : Ground) → IsOneToOne before → ((id : ℕ) → term_at id before ≡ Some t → term_at id after ≡ Some t)
    → IsSome (prop_of t before) → IsSome (prop_of t after)
prop_of-moved before after t one moves there =
    let id = Some-from_is_some (prop_of t before) there in
    prop_of-there after id.0 t (moves id.0 (term_at-prop_of before t id.0 one id.1))

module _ {T : Type 0} (rank : T → ℤ) (theory : Theory) (now soon next : List PlainEvent) (view : View T) (old new : Tally) (after : List KeptProp)
    (one : IsOneToOne view.table) (same : (id : ℕ) → term_at id after ≡ term_at id view.table) where
  -- where counts of mentions change alone, the caches stay those of the present list
  pub StandForBoth-counted : AreTables theory next after view.neighbours view.points new → StandForBoth rank theory now soon view old
      → StandForBoth rank theory now next (record view { table = after }) new
  StandForBoth-counted tables stand = record {
    tables = tables;
    caches = AreCaches-same rank theory now view after same stand.caches;
    live = λ p live. prop_of-moved view.table after p one (λ id is. same id ∙ is) (stand.live p live);
  }
