-- A walk goes on: by an event that comes in, by one that goes out, and where nothing comes of an update.
use Rattle.std.proofs.Common.{◌≡◌, ◌≤◌, ◌+◌, ℕ, ℤ, Bool, true, false, cond, ◌||◌, List, ◌++◌, length, Option, Some, None, is_some, IsSome, IfSome, All, IsTrue, IsFalse, refl, sym, ap, ap₂, subst, ◌∙◌, ◌⊎◌, inl, inr, ⊎_elim, arith, length-append}
use Rattle.std.specs.Prelude.{bytes_eq, option_map, find, Ok, Err, nat_le, nat_lt, ◌==◌}
use Rattle.std.specs.List.{list_any}
use Rattle.std.specs.Option.{option_map_or}
use Rattle.std.proofs.lemmas.Bool.{cond-true, cond-false, false≢true, eq-eqb, or_left, or_right, or_cases}
use Rattle.std.proofs.lemmas.List.Elements.{All-contains}
use Rattle.std.proofs.lemmas.List.Folds.{list_any-append}
use Rattle.std.proofs.lemmas.List.Sorted.{length_permutation, list_any-IsPermutation}
use Rattle.std.proofs.lemmas.Slice.Eq.{bytes_eq-Decides}
use Rattle.ec_lists.proofs.Finds.{find-map}
use Rattle.ec_lists.proofs.Tests.{list_any-filter_map}
use Rattle.ec_lists.proofs.Options.{None-from_is_some, is_some-option_map, IfSome-weaker}
use Rattle.ec_terms.specs.declared.ids.PropId.{PropId}
use Rattle.ec_terms.specs.declared.ids.Slot.{Slot}
use Rattle.ec_terms.specs.declared.ground.Ground.{Ground}
use Rattle.ec_terms.specs.declared.theory.Theory.{Theory}
use Rattle.ec_terms.specs.Domain.{entries_of, is_initial}
use Rattle.ec_terms.specs.Term.{term_eq}
use Rattle.ec_terms.proofs.OrderLemmas.{term_eq-Decides}
use Rattle.ec_axioms.specs.declared.event.Event.{Event}
use Rattle.ec_axioms.specs.declared.event.Cut.TheVariants.{Duplicate, Unknown, FullEvents, FullMentions, FullLinks}
use Rattle.ec_axioms.specs.Calculus.{PlainEvent}
use Rattle.ec_axioms.specs.Changes.{has_id, is_history, with_event, without_event}
use Rattle.ec_axioms.specs.Events.{event_of}
use Rattle.ec_axioms.specs.Links.{event_mentions, is_live, link_count, mentions_of, most_events, most_links, most_mentions}
use Rattle.ec_axioms.proofs.Histories.{is_history-with_event, is_history-without_event}
use Rattle.ec_axioms.proofs.Members.{Contains-from_member, find-Some, list_any-member, member-list_any}
use Rattle.ec_changes.proofs.EventMentions.{MentionsWithEvent-law, MentionsWithoutEvent-law}
use Rattle.ec_changes.proofs.LinkSteps.{LinksAreOfMentions-law, LinksInAnyOrder-law}
use Rattle.ec_context.specs.declared.entry.Entry.{Entry}
use Rattle.ec_context.specs.Entries.{shown_entries}
use Rattle.ec_entries.specs.declared.event_entries.EventEntries.{EventEntries}
use Rattle.ec_store.specs.Store.{Kept, event_at, history_of, plain_of, slot_of}
use Rattle.ec_numbered.specs.ByNumber.{kept_at}
use Rattle.ec_numbered.specs.PropSet.{has_number}
use Rattle.ec_store.specs.Table.{KeptProp, prop_at, term_at}
use Rattle.ec_parts.specs.declared.tally.Tally.{Tally}
use Rattle.ec_parts.specs.Caches.{IsEnteredIn}
use Rattle.ec_parts.specs.Mentions.{AreOfEventsWith, list_props, terms_of}
use Rattle.ec_parts.specs.StandFor.{View, StandForBoth}
use Rattle.ec_parts.proofs.CachesKept.{shown_entries-moved}
use Rattle.ec_parts.proofs.LinksByNumber.{IsOneToOne, same_number}
use Rattle.ec_parts.proofs.TablesOfEvents.{terms_of-entries}
use Rattle.ec_batch.specs.declared.net.Added.{Added}
use Rattle.ec_batch.specs.declared.net.Net.{Net}
use Rattle.ec_batch.specs.declared.walk.Walk.{Walk}
use Rattle.ec_batch.specs.Limits.{IsWithinLimits}
use Rattle.ec_batch.specs.Net.{is_present_by, net_in, old_slot_by}
use Rattle.ec_replies.specs.Runs.{may_want_by}
use Rattle.ec_replies.specs.Updates.{asserted, retracted, with_few_mentions}
use Rattle.ec_replies.proofs.Limits.{length-with_event, links_of-append}
use Rattle.ec_batch.specs.Walk.{AreLiveOrListed, HasWalkedTo, IsNet, IsNetTo, added_event}
use Rattle.ec_changes.specs.Found.{event_with}
use Rattle.ec_changes.proofs.FoundEvents.{event_with-put, event_with-taken, found-has_event, found-id, has_id-found, length-without_event}

-- ---- what is listed

-- what was live or listed is so in a later table, of another list
pub listed-more : (theory : Theory) (events later : List PlainEvent) (before after : List KeptProp) (listed now_listed : ℕ → Bool)
    → ((id : ℕ) (p : Ground) → term_at id after ≡ Some p → (term_at id before ≡ Some p) ⊎ (now_listed id ≡ true))
    → ((id : ℕ) (p : Ground) → term_at id after ≡ Some p → is_live theory events p ≡ true → (is_live theory later p || now_listed id) ≡ true)
    → ((id : ℕ) → listed id ≡ true → now_listed id ≡ true)
    → AreLiveOrListed theory events before listed → AreLiveOrListed theory later after now_listed
listed-more theory events later before after listed now_listed kept lives more were id p is =
    ⊎_elim
    (λ there. ⊎_elim (λ live. lives id p is live) (λ was. or_right (is_live theory later p) (now_listed id) (more id was)) (or_cases (is_live theory events p) (listed id) (were id p there)))
    (λ new. or_right (is_live theory later p) (now_listed id) new)
    (kept id p is)

-- the mentions of an event less
is_live-without : (theory : Theory) (e : PlainEvent) (events : List PlainEvent) (p : Ground) → IsTrue (is_history events) → event_with e.id events ≡ Some e
    → is_live theory events p ≡ true → (is_live theory (without_event e.id events) p || list_any (term_eq p) (event_mentions theory e)) ≡ true
unfolding is_live
is_live-without theory e events p history found live =
    regroup (is_initial theory p) _ _ _
    (sym (list_any-append (term_eq p) (event_mentions theory e) (mentions_of theory (without_event e.id events)))
    ∙ list_any-IsPermutation (term_eq p) _ _ (MentionsWithoutEvent-law theory e events history (found-has_event e.id e events found)))
    live
  where
    regroup : (i own rest all : Bool) → (own || rest) ≡ all → (i || all) ≡ true → ((i || rest) || own) ≡ true
    regroup i own rest all is live = grind arith

-- and one more
pub is_live-with : (theory : Theory) (e : PlainEvent) (events : List PlainEvent) (p : Ground) → is_live theory events p ≡ true → is_live theory (with_event e events) p ≡ true
unfolding is_live
is_live-with theory e events p live =
    regroup (is_initial theory p) _ _ _
    (sym (list_any-append (term_eq p) (event_mentions theory e) (mentions_of theory events)) ∙ list_any-IsPermutation (term_eq p) _ _ (MentionsWithEvent-law theory e events))
    live
  where
    regroup : (i own rest all : Bool) → (own || rest) ≡ all → (i || rest) ≡ true → (i || all) ≡ true
    regroup i own rest all is live = grind arith

-- a term among those of some numbers is that of one of them
number_of_term : (table : List KeptProp) (id : ℕ) (p : Ground) (ps : List PropId) → IsOneToOne table → term_at id table ≡ Some p → list_any (term_eq p) (terms_of table ps) ≡ true
    → has_number id ps ≡ true
number_of_term table id p ps one is there =
    let found = list_any-member (λ (q : PropId). option_map_or (term_eq p) (term_at q.0 table) false) ps (sym (list_any-filter_map (term_eq p) (λ (q : PropId). term_at q.0 table) ps) ∙ there) in
    member-list_any (λ (q : PropId). q.0 == id) ps found.0 found.1 (by_term found.0 (term_at found.0.0 table) refl found.2)
  where
    by_term : (q : PropId) (o : Option Ground) → term_at q.0 table ≡ o → option_map_or (term_eq p) o false ≡ true → (q.0 == id) ≡ true
    by_term q None at test = absurd (false≢true test)
    by_term q (Some t) at test = eq-eqb q.0 id (same_number table q.0 id p one (at ∙ ap Some (sym ((term_eq-Decides p t).0 test))) is)

-- ---- limits

-- a list without an event is within the limits that hold for the list
IsWithinLimits-without : (theory : Theory) (e : PlainEvent) (events : List PlainEvent) → IsTrue (is_history events) → event_with e.id events ≡ Some e
    → IsWithinLimits theory events → IsWithinLimits theory (without_event e.id events)
IsWithinLimits-without theory e events history found within =
    let moved = MentionsWithoutEvent-law theory e events history (found-has_event e.id e events found) in
    let there : IsTrue (has_id e.id events) = has_id-found e.id events ∙ ap is_some found in
    let events_less = length-without_event e.id events history there in
    let mentions_less = length_permutation _ _ moved ∙ length-append (event_mentions theory e) (mentions_of theory (without_event e.id events)) in
    let links_less = links_of-append theory (event_mentions theory e) (mentions_of theory (without_event e.id events)) in
    let links_same = (LinksInAnyOrder-law theory _ _ moved).1 in
    let links_old = LinksAreOfMentions-law theory events in
    let links_new = LinksAreOfMentions-law theory (without_event e.id events) in
    let few = within.few_events in let few_mentions = within.few_mentions in let few_links = within.few_links in
    record { few_events = omega arith; few_mentions = omega arith; few_links = omega arith }

-- what a limit let in is within it
pub few-let_in : (theory : Theory) (events after : List PlainEvent) → with_few_mentions theory events ≡ Ok after → (length (mentions_of theory events) ≤ most_mentions) × (link_count theory events ≤ most_links)
unfolding with_few_mentions
few-let_in theory events after is = by_tests (nat_lt most_mentions (length (mentions_of theory events))) (nat_lt most_links (link_count theory events)) refl refl is
  where
    by_tests : (many linked : Bool) → nat_lt most_mentions (length (mentions_of theory events)) ≡ many → nat_lt most_links (link_count theory events) ≡ linked
        → cond many (Err FullMentions) (cond linked (Err FullLinks) (Ok events)) ≡ Ok after → (length (mentions_of theory events) ≤ most_mentions) × (link_count theory events ≤ most_links)
    by_tests true linked m l is = cc
    by_tests false true m l is = cc
    by_tests false false m l is = (grind (arith, m), grind (arith, l))

-- ---- what stands under an identity

-- entries that are shown stay shown
shown_moved : {T : Type 0} (theory : Theory) (before after : List KeptProp) → ((id : ℕ) (p : Ground) → term_at id before ≡ Some p → term_at id after ≡ Some p) → (added : Added T)
    → shown_entries before added.entries ≡ Some (entries_of theory added.event.term) → shown_entries after added.entries ≡ Some (entries_of theory added.event.term)
shown_moved theory before after keeps added is = shown_entries-moved before after (λ p. true) (λ id p there live. keeps id p there) added.entries (entries_of theory added.event.term) (λ p member. refl) is

module _ {T : Type 0} {rank : T → ℤ} {theory : Theory} {events : List (Kept T)} {before after : List KeptProp} (keeps : (id : ℕ) (p : Ground) → term_at id before ≡ Some p → term_at id after ≡ Some p) where
  pub IsNet-moved : (soon later : List PlainEvent) (id : List ℕ) (n : Net T) → event_with id later ≡ event_with id soon → IsNet rank theory before events soon id n → IsNet rank theory after events later id n
  IsNet-moved soon later id n same net = record {
    old = net.old;
    new = net.new ∙ sym same;
    entries = IfSome-weaker n.new _ _ (λ added is. shown_moved theory before after keeps added is) net.entries;
  }

  -- where nothing is put under an identity
  IsNetTo-moved : (soon : List PlainEvent) (old new : List ℕ → Option (Net T)) → ((id : List ℕ) → new id ≡ old id) → IsNetTo rank theory before events soon old → IsNetTo rank theory after events soon new
  IsNetTo-moved soon old new same nets = record {
    untouched = λ id none. nets.untouched id (sym (same id) ∙ none);
    touched = λ id n is. IsNet-moved soon soon id n refl (nets.touched id n (sym (same id) ∙ is));
  }

  -- and where something is
  IsNetTo-put : (soon later : List PlainEvent) (id : List ℕ) (n : Net T) (old new : List ℕ → Option (Net T)) → ((other : List ℕ) → new other ≡ cond (bytes_eq id other) (Some n) (old other))
      → ((other : List ℕ) → bytes_eq id other ≡ false → event_with other later ≡ event_with other soon) → IsNet rank theory after events later id n
      → IsNetTo rank theory before events soon old → IsNetTo rank theory after events later new
  IsNetTo-put soon later id n old new puts others here nets = record {
    untouched = λ other none. untouched other (bytes_eq id other) refl none;
    touched = λ other m is. touched other m (bytes_eq id other) refl is;
  }
    where
      some_same : (a b : Net T) → Some a ≡ Some b → a ≡ b
      some_same a b is = cc

      untouched : (other : List ℕ) (own : Bool) → bytes_eq id other ≡ own → new other ≡ None → event_with other later ≡ event_with other (history_of rank events)
      untouched other true is none = absurd (false≢true (ap is_some (sym none ∙ puts other ∙ ap (λ b. cond b (Some n) (old other)) is)))
      untouched other false is none = others other is ∙ nets.untouched other (sym (puts other ∙ ap (λ b. cond b (Some n) (old other)) is) ∙ none)

      touched : (other : List ℕ) (m : Net T) (own : Bool) → bytes_eq id other ≡ own → new other ≡ Some m → IsNet rank theory after events later other m
      touched other m true is there =
          let same : n ≡ m = some_same n m (sym (puts other ∙ ap (λ b. cond b (Some n) (old other)) is) ∙ there) in
          subst (λ i. IsNet rank theory after events later i m) ((bytes_eq-Decides id other).0 is) (subst (IsNet rank theory after events later id) same here)
      touched other m false is there = IsNet-moved soon later other m (others other is) (nets.touched other m (sym (puts other ∙ ap (λ b. cond b (Some n) (old other)) is) ∙ there))

-- what stands under an identity, of its two parts
abbrev pub net_of : {T : Type 0} → Option Slot → Option (Added T) → Net T
net_of old new = record { old = old; new = new }

-- ---- a walk that has come to a list

module _ {T : Type 0} {rank : T → ℤ} {theory : Theory} {events : List (Kept T)} {soon : List PlainEvent} {view : View T} {tally : Tally} {walk : Walk T}
    (walked : HasWalkedTo rank theory events soon view tally walk) where
  -- what the walk says of an identity
  pub present : (id : List ℕ) → is_present_by (net_in id walk.nets) (slot_of id events) ≡ has_id id soon
  present id = by_net (net_in id walk.nets) refl ∙ sym (has_id-found id soon)
    where
      by_net : (o : Option (Net T)) → net_in id walk.nets ≡ o → is_present_by o (slot_of id events) ≡ is_some (event_with id soon)
      by_net None is =
          is_some-option_map (λ kept. kept.0) (find (λ kept. bytes_eq kept.1.id id) events)
          ∙ sym (is_some-option_map (plain_of rank) (find (λ kept. bytes_eq kept.1.id id) events))
          ∙ ap is_some (sym (find-map (λ (e : PlainEvent). bytes_eq e.id id) (plain_of rank) events))
          ∙ ap is_some (sym (walked.nets.untouched id is))
      by_net (Some n) is = sym (is_some-option_map (λ (a : Added T). event_of rank a.event) n.new) ∙ ap is_some (walked.nets.touched id n is).new

  pub old_slots : (id : List ℕ) → old_slot_by (net_in id walk.nets) (slot_of id events) ≡ slot_of id events
  old_slots id = by_net (net_in id walk.nets) refl
    where
      by_net : (o : Option (Net T)) → net_in id walk.nets ≡ o → old_slot_by o (slot_of id events) ≡ slot_of id events
      by_net None is = refl
      by_net (Some n) is = (walked.nets.touched id n is).old

  -- an identity that is neither touched nor stored is absent
  pub absent : (id : List ℕ) → is_some (net_in id walk.nets) ≡ false → slot_of id events ≡ None → has_id id soon ≡ false
  absent id untouched none = sym (present id) ∙ ap₂ is_present_by (None-from_is_some (net_in id walk.nets) untouched) none

  -- nothing comes of an update
  pub stays : (later : View T) (counted : Tally) (more : Walk T) → later.store ≡ view.store → StandForBoth rank theory (history_of rank events) soon later counted
      → ((id : ℕ) (p : Ground) → term_at id view.table ≡ Some p → term_at id later.table ≡ Some p)
      → ((id : ℕ) (p : Ground) → term_at id later.table ≡ Some p → (term_at id view.table ≡ Some p) ⊎ (has_number id more.fresh.items ≡ true))
      → ((id : List ℕ) → net_in id more.nets ≡ net_in id walk.nets) → more.events ≡ walk.events
      → ((id : ℕ) → has_number id walk.fresh.items ≡ true → has_number id more.fresh.items ≡ true)
      → ((id : ℕ) → has_number id walk.dying.items ≡ true → has_number id more.dying.items ≡ true)
      → HasWalkedTo rank theory events soon later counted more
  stays later counted more store stand keeps new nets count fresher deader = record {
    stored = ap (λ s. s.events) store ∙ walked.stored;
    both = stand;
    history = walked.history;
    within = walked.within;
    few_now = walked.few_now;
    nets = IsNetTo-moved keeps soon (λ id. net_in id walk.nets) (λ id. net_in id more.nets) nets walked.nets;
    count = count ∙ walked.count;
    fresh = listed-more theory (history_of rank events) (history_of rank events) view.table later.table (λ id. has_number id walk.fresh.items) (λ id. has_number id more.fresh.items) new (λ id p is live. or_left _ (has_number id more.fresh.items) live) fresher walked.fresh;
    idle = listed-more theory soon soon view.table later.table (λ id. has_number id walk.fresh.items || has_number id walk.dying.items) (λ id. has_number id more.fresh.items || has_number id more.dying.items)
        (λ id p is. ⊎_elim (λ there. inl there) (λ listed. inr (or_left (has_number id more.fresh.items) (has_number id more.dying.items) listed)) (new id p is))
        (λ id p is live. or_left _ (has_number id more.fresh.items || has_number id more.dying.items) live)
        (λ id listed. ⊎_elim (λ l. or_left _ _ (fresher id l)) (λ l. or_right _ _ (deader id l)) (or_cases (has_number id walk.fresh.items) (has_number id walk.dying.items) listed))
        walked.idle;
  }

  -- an event comes in
  pub comes_in : (added : Added T) (later : View T) (counted : Tally) (more : Walk T) → later.store ≡ view.store
      → IsFalse (has_id added.event.id soon) → walk.events + 1 ≤ most_events → with_few_mentions theory (with_event (event_of rank added.event) soon) ≡ Ok (with_event (event_of rank added.event) soon)
      → shown_entries later.table added.entries ≡ Some (entries_of theory added.event.term)
      → StandForBoth rank theory (history_of rank events) (with_event (event_of rank added.event) soon) later counted
      → ((id : ℕ) (p : Ground) → term_at id view.table ≡ Some p → term_at id later.table ≡ Some p)
      → ((id : ℕ) (p : Ground) → term_at id later.table ≡ Some p → (term_at id view.table ≡ Some p) ⊎ (has_number id more.fresh.items ≡ true))
      → ((other : List ℕ) → net_in other more.nets ≡ cond (bytes_eq added.event.id other) (Some (record { old = slot_of added.event.id events; new = Some added })) (net_in other walk.nets))
      → more.events ≡ walk.events + 1
      → ((id : ℕ) → has_number id walk.fresh.items ≡ true → has_number id more.fresh.items ≡ true)
      → ((id : ℕ) → has_number id walk.dying.items ≡ true → has_number id more.dying.items ≡ true)
      → HasWalkedTo rank theory events (with_event (event_of rank added.event) soon) later counted more
  comes_in added later counted more store absent room few shown stand keeps new nets count fresher deader =
      let e = event_of rank added.event in
      let limits = few-let_in theory (with_event e soon) (with_event e soon) few in
      let one_more = length-with_event e soon in
      let were = walked.count in
      record {
        stored = ap (λ s. s.events) store ∙ walked.stored;
        both = stand;
        history = is_history-with_event e soon walked.history absent;
        within = record { few_events = omega arith; few_mentions = limits.0; few_links = limits.1 };
        few_now = walked.few_now;
        nets = IsNetTo-put keeps soon (with_event e soon) added.event.id (record { old = slot_of added.event.id events; new = Some added }) (λ id. net_in id walk.nets) (λ id. net_in id more.nets) nets
            (λ other apart. event_with-put other e soon absent ∙ cond-false (bytes_eq e.id other) _ _ apart)
            (record { old = refl; new = sym (event_with-put e.id e soon absent ∙ cond-true (bytes_eq e.id e.id) _ _ ((bytes_eq-Decides e.id e.id).1 refl)); entries = shown })
            walked.nets;
        count = omega arith;
        fresh = listed-more theory (history_of rank events) (history_of rank events) view.table later.table (λ id. has_number id walk.fresh.items) (λ id. has_number id more.fresh.items) new (λ id p is live. or_left _ (has_number id more.fresh.items) live) fresher walked.fresh;
        idle = listed-more theory soon (with_event e soon) view.table later.table (λ id. has_number id walk.fresh.items || has_number id walk.dying.items) (λ id. has_number id more.fresh.items || has_number id more.dying.items)
            (λ id p is. ⊎_elim (λ there. inl there) (λ listed. inr (or_left (has_number id more.fresh.items) (has_number id more.dying.items) listed)) (new id p is))
            (λ id p is live. or_left _ (has_number id more.fresh.items || has_number id more.dying.items) (is_live-with theory e soon p live))
            (λ id listed. ⊎_elim (λ l. or_left _ _ (fresher id l)) (λ l. or_right _ _ (deader id l)) (or_cases (has_number id walk.fresh.items) (has_number id walk.dying.items) listed))
            walked.idle;
      }

  -- an event goes out
  pub goes_out : (e : PlainEvent) (entries : List Entry) (later : View T) (counted : Tally) (more : Walk T) → later.store ≡ view.store
      → event_with e.id soon ≡ Some e → shown_entries view.table entries ≡ Some (entries_of theory e.term) → IsOneToOne view.table
      → StandForBoth rank theory (history_of rank events) (without_event e.id soon) later counted
      → ((id : ℕ) → term_at id later.table ≡ term_at id view.table)
      → ((other : List ℕ) → net_in other more.nets ≡ cond (bytes_eq e.id other) (Some (record { old = slot_of e.id events; new = None })) (net_in other walk.nets))
      → more.events + 1 ≡ walk.events → more.fresh.items ≡ walk.fresh.items → more.dying.items ≡ walk.dying.items ++ list_props entries
      → HasWalkedTo rank theory events (without_event e.id soon) later counted more
  goes_out e entries later counted more store found shown one stand terms nets count fresh_same dead =
      let there : IsTrue (has_id e.id soon) = has_id-found e.id soon ∙ ap is_some found in
      let one_less = length-without_event e.id soon walked.history there in
      let were = walked.count in
      record {
        stored = ap (λ s. s.events) store ∙ walked.stored;
        both = stand;
        history = is_history-without_event e.id soon walked.history;
        within = IsWithinLimits-without theory e soon walked.history found walked.within;
        few_now = walked.few_now;
        nets = IsNetTo-put (λ id p is. terms id ∙ is) soon (without_event e.id soon) e.id (record { old = slot_of e.id events; new = None }) (λ id. net_in id walk.nets) (λ id. net_in id more.nets) nets
            (λ other apart. event_with-taken other e.id soon ∙ cond-false (bytes_eq e.id other) _ _ apart)
            (record { old = refl; new = sym (event_with-taken e.id e.id soon ∙ cond-true (bytes_eq e.id e.id) _ _ ((bytes_eq-Decides e.id e.id).1 refl)); entries = tt })
            walked.nets;
        count = omega arith;
        fresh = listed-more theory (history_of rank events) (history_of rank events) view.table later.table (λ id. has_number id walk.fresh.items) (λ id. has_number id more.fresh.items) (λ id p is. inl (sym (terms id) ∙ is)) (λ id p is live. or_left _ (has_number id more.fresh.items) live) (λ id listed. ap (has_number id) fresh_same ∙ listed) walked.fresh;
        idle = listed-more theory soon (without_event e.id soon) view.table later.table (λ id. has_number id walk.fresh.items || has_number id walk.dying.items) (λ id. has_number id more.fresh.items || has_number id more.dying.items) (λ id p is. inl (sym (terms id) ∙ is))
            (λ id p is live.
            ⊎_elim (λ stays_live. or_left _ (has_number id more.fresh.items || has_number id more.dying.items) stays_live)
            (λ own. or_right (is_live theory (without_event e.id soon) p) _ (or_right (has_number id more.fresh.items) (has_number id more.dying.items)
            (ap (has_number id) dead ∙ list_any-append (λ (q : PropId). q.0 == id) walk.dying.items (list_props entries)
            ∙ or_right (has_number id walk.dying.items) (has_number id (list_props entries))
            (number_of_term view.table id p (list_props entries) one (sym (terms id) ∙ is) (ap (list_any (term_eq p)) (terms_of-entries view.table entries _ shown) ∙ own)))))
            (or_cases (is_live theory (without_event e.id soon) p) (list_any (term_eq p) (event_mentions theory e)) (is_live-without theory e soon p walked.history found live)))
            (λ id listed. ⊎_elim (λ l. or_left _ _ (ap (has_number id) fresh_same ∙ l))
            (λ l. or_right _ _ (ap (has_number id) dead ∙ list_any-append (λ (q : PropId). q.0 == id) walk.dying.items (list_props entries) ∙ or_left (has_number id walk.dying.items) (has_number id (list_props entries)) l))
            (or_cases (has_number id walk.fresh.items) (has_number id walk.dying.items) listed))
            walked.idle;
      }

  -- the same, by an identity that the event has
  pub goes_out_by : (id : List ℕ) (e : PlainEvent) (entries : List Entry) (later : View T) (counted : Tally) (more : Walk T) → later.store ≡ view.store
      → event_with id soon ≡ Some e → shown_entries view.table entries ≡ Some (entries_of theory e.term) → IsOneToOne view.table
      → StandForBoth rank theory (history_of rank events) (without_event e.id soon) later counted
      → ((k : ℕ) → term_at k later.table ≡ term_at k view.table)
      → ((other : List ℕ) → net_in other more.nets ≡ cond (bytes_eq id other) (Some (record { old = slot_of id events; new = None })) (net_in other walk.nets))
      → more.events + 1 ≡ walk.events → more.fresh.items ≡ walk.fresh.items → more.dying.items ≡ walk.dying.items ++ list_props entries
      → HasWalkedTo rank theory events (without_event id soon) later counted more
  goes_out_by id e entries later counted more store found shown one stand terms nets count fresh_same dead =
      let own : id ≡ e.id = sym (found-id id e soon found) in
      subst (λ i. HasWalkedTo rank theory events (without_event i soon) later counted more) (sym own)
      (goes_out e entries later counted more store (ap (λ i. event_with i soon) (sym own) ∙ found) shown one stand terms
      (λ other. nets other ∙ ap (λ i. cond (bytes_eq i other) (Some (net_of (slot_of i events) None)) (net_in other walk.nets)) own) count fresh_same dead)

  -- ---- what stands under an identity that is retracted

  -- an event that the walk put in
  pub added_found : (id : List ℕ) (n : Net T) (added : Added T) → net_in id walk.nets ≡ Some n → n.new ≡ Some added → event_with id soon ≡ Some (event_of rank added.event)
  added_found id n added is new = sym (walked.nets.touched id n is).new ∙ ap (added_event rank) new

  pub added_shown : (id : List ℕ) (n : Net T) (added : Added T) → net_in id walk.nets ≡ Some n → n.new ≡ Some added → shown_entries view.table added.entries ≡ Some (entries_of theory added.event.term)
  added_shown id n added is new =
      let P : Added T → Type 0 = λ a. shown_entries view.table a.entries ≡ Some (entries_of theory a.event.term) in
      let here : IfSome (Some added) P = subst (λ o. IfSome o P) new (walked.nets.touched id n is).entries in here

  pub taken_absent : (id : List ℕ) (n : Net T) → net_in id walk.nets ≡ Some n → n.new ≡ None → has_id id soon ≡ false
  taken_absent id n is none = has_id-found id soon ∙ ap is_some (sym (walked.nets.touched id n is).new ∙ ap (added_event rank) none)

  -- the tables are of a history that has the event
  pub AreOfEventsWith-found : (id : List ℕ) (e : PlainEvent) (entries : List Entry) → event_with id soon ≡ Some e → shown_entries view.table entries ≡ Some (entries_of theory e.term)
      → AreOfEventsWith theory entries view.table view.neighbours view.points tally
  AreOfEventsWith-found id e entries found shown =
      record { events = soon; event = e; history = walked.history; there = found-has_event id e soon found; shown = shown; tables = walked.both.tables }

  pub some_events : (id : List ℕ) (e : PlainEvent) → event_with id soon ≡ Some e → 1 ≤ walk.events
  some_events id e found =
      let there : IsTrue (has_id id soon) = has_id-found id soon ∙ ap is_some found in
      let one_less = length-without_event id soon walked.history there in
      let were = walked.count in omega arith

-- an event of the store, with what is kept in its slot
pub record IsStoredUnder {T : Type 0} (rank : T → ℤ) (theory : Theory) (soon : List PlainEvent) (view : View T) (id : List ℕ) (slot : Slot) : Type 0 where
  pub kept : EventEntries T
  pub event : PlainEvent
  pub kept_is : kept_at slot.0 view.entries.slots ≡ Some kept
  pub found : event_with id soon ≡ Some event
  pub shown : shown_entries view.table kept.list ≡ Some (entries_of theory event.term)

-- the event of a slot stands under its own identity
pub stored_event : {T : Type 0} (rank : T → ℤ) (events : List (Kept T)) (id : List ℕ) (slot : Slot) → All (λ kept. event_at kept.0 events ≡ Some kept.1) events → slot_of id events ≡ Some slot
    → (event : Event T) × (event_at slot events ≡ Some event) × (event_with id (history_of rank events) ≡ Some (event_of rank event))
stored_event {T} rank events id slot slots is = by_find (find (λ kept. bytes_eq kept.1.id id) events) refl is
  where
    by_find : (o : Option (Kept T)) → find (λ kept. bytes_eq kept.1.id id) events ≡ o → option_map (λ kept. kept.0) o ≡ Some slot
        → (event : Event T) × (event_at slot events ≡ Some event) × (event_with id (history_of rank events) ≡ Some (event_of rank event))
    by_find None found same = absurd (false≢true (ap is_some same))
    by_find (Some kept) found same =
        let own : kept.0 ≡ slot = cc in
        let member = (find-Some (λ (k : Kept T). bytes_eq k.1.id id) events kept found).0 in (
          kept.1,
          ap (λ s. event_at s events) (sym own) ∙ All-contains (λ (k : Kept T). event_at k.0 events ≡ Some k.1) events kept slots (Contains-from_member events kept member),
          find-map (λ (e : PlainEvent). bytes_eq e.id id) (plain_of rank) events ∙ ap (option_map (plain_of rank)) found,
        )

-- and what is kept there
entered_at : {T : Type 0} (rank : T → ℤ) (theory : Theory) (events : List PlainEvent) (table : List KeptProp) (o : Option (Event T)) (k : Option (EventEntries T)) (event : Event T) → o ≡ Some event
    → IsEnteredIn rank theory events table o k → (kept : EventEntries T) × (k ≡ Some kept) × (shown_entries table kept.list ≡ Some (entries_of theory event.term))
entered_at rank theory events table None k event is entered = cc
entered_at rank theory events table (Some f) None event is entered = absurd entered
entered_at rank theory events table (Some f) (Some kept) event is entered =
    let same : f ≡ event = cc in (kept, refl, entered.entries ∙ ap (λ (e : Event _). Some (entries_of theory e.term)) same)

pub stored_under : {T : Type 0} {rank : T → ℤ} {theory : Theory} {events : List (Kept T)} {soon : List PlainEvent} {view : View T} {tally : Tally} {walk : Walk T} → HasWalkedTo rank theory events soon view tally walk
    → (id : List ℕ) (slot : Slot) → All (λ kept. event_at kept.0 events ≡ Some kept.1) events → net_in id walk.nets ≡ None → slot_of id events ≡ Some slot → IsStoredUnder rank theory soon view id slot
stored_under {rank = rank} {theory = theory} {events = events} {view = view} walked id slot slots untouched is =
    let stored = stored_event rank events id slot slots is in
    let there = entered_at rank theory (history_of rank events) view.table (event_at slot view.store.events) (kept_at slot.0 view.entries.slots) stored.0
    (ap (event_at slot) walked.stored ∙ stored.1) (walked.both.caches.entries_of slot) in
    record { kept = there.0; event = event_of rank stored.0; kept_is = there.1; found = walked.nets.untouched id untouched ∙ stored.2; shown = there.2 }

-- where each kept property stays as it is, each keeps its term
pub keeps_terms : (before after : List KeptProp) → ((id : ℕ) → IsSome (prop_at id before) → prop_at id after ≡ prop_at id before) → (id : ℕ) (p : Ground) → term_at id before ≡ Some p → term_at id after ≡ Some p
keeps_terms before after same id p is =
    ap (option_map (λ (k : KeptProp). k.term)) (same id (sym (is_some-option_map (λ (k : KeptProp). k.term) (prop_at id before)) ∙ ap is_some is)) ∙ is

-- and each that is kept was kept before, or is new
pub new_terms : (before after : List KeptProp) (listed : ℕ → Bool) → ((id : ℕ) → IsSome (prop_at id before) → prop_at id after ≡ prop_at id before)
    → ((id : ℕ) → IsSome (prop_at id after) → prop_at id before ≡ None → listed id ≡ true)
    → (id : ℕ) (p : Ground) → term_at id after ≡ Some p → (term_at id before ≡ Some p) ⊎ (listed id ≡ true)
new_terms before after listed same fresh id p is = by_old (prop_at id before) refl
  where
    by_old : (o : Option KeptProp) → prop_at id before ≡ o → (term_at id before ≡ Some p) ⊎ (listed id ≡ true)
    by_old None none = inr (fresh id (sym (is_some-option_map (λ (k : KeptProp). k.term) (prop_at id after)) ∙ ap is_some is) none)
    by_old (Some k) some = inl (sym (ap (option_map (λ (k : KeptProp). k.term)) (same id (ap is_some some))) ∙ is)

-- what is put under an identity, told otherwise
pub put_as : {T : Type 0} (k id other : List ℕ) (m n : Net T) (o mid before : Option (Net T)) → o ≡ cond (bytes_eq k other) (Some m) mid → k ≡ id → m ≡ n → mid ≡ before → o ≡ cond (bytes_eq id other) (Some n) before
put_as k id other m n o mid before is ks ms mids =
    is ∙ ap (λ i. cond (bytes_eq i other) (Some m) mid) ks ∙ ap (λ x. cond (bytes_eq id other) (Some x) mid) ms ∙ ap (λ x. cond (bytes_eq id other) (Some n) x) mids

-- ---- what updates are refused for

pub refused_present : (theory : Theory) (soon : List PlainEvent) (e : PlainEvent) (id : List ℕ) → id ≡ e.id → has_id e.id soon ≡ true → asserted theory soon e ≡ Err (Duplicate id)
unfolding asserted
refused_present theory soon e id same there = cond-true _ _ _ there ∙ ap (λ i. Err (Duplicate i)) (sym same)

pub refused_full : (theory : Theory) (soon : List PlainEvent) (e : PlainEvent) → has_id e.id soon ≡ false → most_events ≤ length soon → asserted theory soon e ≡ Err FullEvents
unfolding asserted
refused_full theory soon e absent full = let many : nat_le most_events (length soon) ≡ true = grind arith in cond-false _ _ _ absent ∙ cond-true _ _ _ many

pub asked_limits : (theory : Theory) (soon : List PlainEvent) (e : PlainEvent) → has_id e.id soon ≡ false → length soon + 1 ≤ most_events → asserted theory soon e ≡ with_few_mentions theory (with_event e soon)
unfolding asserted
asked_limits theory soon e absent room = let few : nat_le most_events (length soon) ≡ false = grind arith in cond-false _ _ _ absent ∙ cond-false _ _ _ few

pub refused_absent : (soon : List PlainEvent) (id asked : List ℕ) → id ≡ asked → has_id asked soon ≡ false → retracted soon asked ≡ Err (Unknown id)
unfolding retracted
refused_absent soon id asked same absent = cond-false _ _ _ absent ∙ ap (λ i. Err (Unknown i)) (sym same)

pub retracted_present : (soon : List PlainEvent) (id : List ℕ) → has_id id soon ≡ true → retracted soon id ≡ Ok (without_event id soon)
unfolding retracted
retracted_present soon id there = cond-true _ _ _ there

-- an event of the store, where the tables are those of any list
pub stored_in : {T : Type 0} {rank : T → ℤ} {theory : Theory} {soon : List PlainEvent} {view : View T} {tally : Tally} → StandForBoth rank theory (history_of rank view.store.events) soon view tally
    → (id : List ℕ) (slot : Slot) → All (λ kept. event_at kept.0 view.store.events ≡ Some kept.1) view.store.events → slot_of id view.store.events ≡ Some slot
    → IsStoredUnder rank theory (history_of rank view.store.events) view id slot
stored_in {rank = rank} {theory = theory} {view = view} both id slot slots is =
    let stored = stored_event rank view.store.events id slot slots is in
    let there = entered_at rank theory (history_of rank view.store.events) view.table (event_at slot view.store.events) (kept_at slot.0 view.entries.slots) stored.0 stored.1 (both.caches.entries_of slot) in
    record { kept = there.0; event = event_of rank stored.0; kept_is = there.1; found = stored.2; shown = there.2 }

-- ---- where memory may run out

-- for an event that only the limits may refuse
may_want-limits : (theory : Theory) (events : List PlainEvent) → may_want_by (with_few_mentions theory events) ≡ true
unfolding with_few_mentions
may_want-limits theory events = by_tests (nat_lt most_mentions (length (mentions_of theory events))) (nat_lt most_links (link_count theory events))
  where
    by_tests : (mentions links : Bool) → may_want_by (cond mentions (Err FullMentions) (cond links (Err FullLinks) (Ok events))) ≡ true
    by_tests true links = refl
    by_tests false true = refl
    by_tests false false = refl

-- for an event whose identity is absent, where there are not too many events
pub may_want-asserted : (theory : Theory) (soon : List PlainEvent) (e : PlainEvent) → has_id e.id soon ≡ false → length soon + 1 ≤ most_events → may_want_by (asserted theory soon e) ≡ true
may_want-asserted theory soon e absent room = ap may_want_by (asked_limits theory soon e absent room) ∙ may_want-limits theory (with_event e soon)

-- for the retraction of a present event
pub may_want-retracted : (soon : List PlainEvent) (id : List ℕ) → has_id id soon ≡ true → may_want_by (retracted soon id) ≡ true
may_want-retracted soon id there = ap may_want_by (retracted_present soon id there)
